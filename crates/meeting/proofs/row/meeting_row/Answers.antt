use Rattle.std.proofs.Common.{◌≡◌, ◌∙◌, ◌≤◌, ap, ap₂, subst, get_or, ℕ, Bool, false, map, take, length, rules, arith}
use Rattle.std.proofs.lemmas.List.{length-map}
use Rattle.request.specs.View.{no_entry, DemandView, view_demand, demand_at}
use Rattle.request.specs.Sharing.{share_link}
use Rattle.meeting.specs.AskedLaws.{asked_at}
use Rattle.meeting.specs.inner.Filling.{FilledTo}
use Rattle.meeting.specs.FillingLaws.{filled_none, filled_more}
use Rattle.meeting.specs.MeetingLaws.{row_none, row_whole}
use Rattle.meeting.proofs.row.meeting_row.Goals as goal

pub loop-j-init : goal.loop-j-init
loop-j-init c = filled_none Bool _ false 200

pub loop-j-preserved : goal.loop-j-preserved
loop-j-preserved c =
    let a = c.args in
    let turn = c.loop-j in
    let asked = c.asked_of-asked.ensures in
    let route = λ (d : DemandView). d.route in
    let here = asked_at c.asked_of-asked.result.now a.demands a.count turn.j no_entry asked.asked c.loop-j-test.true in
    let own = asked_at c.asked_of-asked.result.now a.demands a.count a.i c.in-Some.demand.now asked.asked (search rules) in
    let of-own : c.in-Some.demand.now ≡ get_or c.asked_of-asked.result.now a.i c.in-Some.demand.now = search rules in
    filled_more Bool _ false 200 turn.j turn.row c.met_by.result (omega (arith, asked.room))
    (c.met_by.ensures
    ∙ ap₂ share_link (c.route-in-loop-j.ensures.route ∙ ap route here)
    (c.new-worded.ensures ∙ c.route.ensures.route ∙ ap route (ap view_demand of-own ∙ own)))
    turn.invariant

pub returns-after-loop-j : goal.returns-after-loop-j
returns-after-loop-j c =
    let demands = map view_demand (take c.args.count c.args.demands) in
    let done : c.loop-j.j ≡ length demands =
    omega (arith, length-map (take c.args.count c.args.demands) view_demand, ap length c.asked_of-asked.ensures.asked) in
    row_whole demands c.args.i c.loop-j.row
    (subst (λ (j : ℕ). FilledTo Bool (λ (k : ℕ). share_link (demand_at demands k).route (demand_at demands c.args.i).route) false 200 j c.loop-j.row) done
    c.loop-j.invariant)

pub returns-in_default : goal.returns-in_default
returns-in_default c =
    let none : length c.asked_of-asked.result.now ≤ c.args.i = search rules in
    row_none (map view_demand (take c.args.count c.args.demands)) c.args.i
    (omega (arith, length-map (take c.args.count c.args.demands) view_demand, ap length c.asked_of-asked.ensures.asked))
