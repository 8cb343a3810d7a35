-- Every line of the table is what its call says.
use Rattle.std.specs.Prelude.{map, ◌≡◌, refl}
use Rattle.theory.specs.Problem as theory-problem
use Rattle.theory.specs.Blocker as theory-blocker
use Rattle.board.specs.Board as board-board
use Rattle.theory.specs.Orders as theory-orders
use Rattle.theory.specs.Walk as theory-walk
use Rattle.theory.specs.Search as theory-search
use Rattle.grid.specs.Grid as grid-grid
use Rattle.grid.specs.Told as grid-told
use Rattle.request.specs.View as request-view
use Rattle.request.specs.Check as request-check
use Rattle.request.specs.Encoding as request-encoding
use Rattle.request.specs.Sharing as request-sharing
use Rattle.request.specs.Told as request-told
use Rattle.fields.specs.Field as fields-field
use Rattle.reading.specs.Reading as reading-reading
use Rattle.lent.specs.Lent as lent-lent
use Rattle.meeting.specs.Bound as meeting-bound
use Rattle.meeting.specs.Plan as meeting-plan
use Rattle.meeting.specs.Reply as meeting-reply
use Rattle.placing.specs.FirstFit as placing-firstfit
use Rattle.search.specs.Reply as search-reply
use Rattle.plan.specs.CheckStarts as plan-checkstarts
use Rattle.worked.specs.Calls.{say_read, say}
use Rattle.worked.specs.Table.{Case, table}

-- every line computes: what its call says is what the table says
pub worked : map (λ (c : Case). say c.call) table ≡ map (λ (c : Case). c.said) table
unfolding say_read say theory-problem.end_of theory-problem.apart theory-problem.fits theory-problem.past theory-problem.least theory-problem.lowest theory-problem.place theory-problem.fill theory-problem.top theory-problem.first_fit theory-problem.plan_end theory-problem.start_in theory-blocker.lower_of theory-blocker.blocker_at theory-blocker.blocker_below theory-blocker.blocker_in board-board.blocker_told board-board.entry_of theory-orders.factorial theory-orders.spread theory-orders.orders_of theory-orders.orders theory-orders.count_up theory-orders.listing theory-walk.stepped theory-walk.leave theory-walk.exhausted theory-walk.equalled theory-walk.improved theory-walk.goes_on theory-walk.complete theory-walk.judge theory-walk.step theory-walk.siblings theory-walk.walk theory-search.fresh theory-search.outcome_of theory-search.conclude theory-search.too_narrow theory-search.at_once theory-search.search_walk theory-search.search theory-search.tree_steps theory-search.unlimited theory-search.steps_needed grid-grid.frequency_reply grid-grid.block_at grid-grid.block_reply grid-told.band_told grid-told.centre_told grid-told.block_told request-view.looked_up request-view.rate_width request-view.asked_width request-view.width_of request-view.view_demand request-view.view request-view.no_link request-view.no_demand request-view.link_at request-view.demand_at request-view.idents request-check.then request-check.must request-check.has request-check.listed request-check.once request-check.unbroken request-check.nodes_of request-check.sound_route request-check.known_asked request-check.allowed_hops request-check.check_band request-check.check_some_link request-check.check_links request-check.check_link_count request-check.check_demand request-check.check_demands request-check.check_demand_count request-check.check request-encoding.two_bytes request-encoding.bits16 request-encoding.signed16 request-encoding.field request-encoding.band_field request-encoding.link_field request-encoding.tag_of request-encoding.number_asked request-encoding.demand_field request-encoding.link_fields request-encoding.demand_fields request-encoding.encode request-sharing.share_link request-sharing.problem_of request-told.checked_told request-told.written_told fields-field.number16 fields-field.body_length fields-field.field_end fields-field.check_field reading-reading.band_in reading-reading.check_band_field reading-reading.link_in reading-reading.check_link_field reading-reading.demands_begin reading-reading.demand_tag reading-reading.asked_in reading-reading.demand_in reading-reading.check_new_demand reading-reading.check_demand_field reading-reading.links_end reading-reading.next_links reading-reading.read_links reading-reading.next_demands reading-reading.read_demands reading-reading.with_demands reading-reading.with_links reading-reading.with_band reading-reading.read_file lent-lent.check_room lent-lent.check_rooms lent-lent.over lent-lent.unless_refused meeting-bound.width_on meeting-bound.demands_on meeting-bound.link_bound meeting-bound.bound_over meeting-bound.bound_of meeting-plan.start_at meeting-plan.end_from meeting-plan.end_of_plan meeting-plan.starts_of meeting-reply.bound_after meeting-reply.bound_reply meeting-reply.bound_told placing-firstfit.wrong_entry placing-firstfit.check_entries placing-firstfit.check_length placing-firstfit.check_order placing-firstfit.check_first_fit placing-firstfit.fitted placing-firstfit.fitted_reply placing-firstfit.placed_after placing-firstfit.first_fit_reply placing-firstfit.blocker_entry placing-firstfit.blockers_of placing-firstfit.fitted_starts placing-firstfit.fitted_blockers placing-firstfit.first_fit_starts placing-firstfit.first_fit_blockers placing-firstfit.placed_told search-reply.searched search-reply.outcome_told search-reply.outcome_number search-reply.outcome_end search-reply.outcome_by search-reply.answer_told search-reply.rooms_of search-reply.check_sizes search-reply.check_search search-reply.reply_to search-reply.buffers_kept search-reply.search_reply search-reply.buffers_after search-reply.answered_told plan-checkstarts.check_count plan-checkstarts.check_end plan-checkstarts.check_ends plan-checkstarts.check_clash plan-checkstarts.check_clashes plan-checkstarts.check_places plan-checkstarts.check_starts plan-checkstarts.reply_with plan-checkstarts.starts_reply plan-checkstarts.accepted_told
worked = refl
