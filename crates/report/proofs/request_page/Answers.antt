use mathlib.Core.List.{[], ◌∷◌}
use mathlib.Core.Path.{sym, ◌∙◌}
use Rattle.request.specs.View.{view}
use Rattle.search.specs.Reply.{rooms_of}
use Rattle.report.specs.Report.{twenty_zeros}
use Rattle.report.specs.ReportLaws.{answered_few, request_answered, request_refused_lem}
use Rattle.report.proofs.request_page.Goals as goal

pub answered_page-requires : goal.answered_page-requires
unfolding view rooms_of
answered_page-requires c = answered_few (view c.args.request) 1000000 (20 ∷ 20 ∷ 20 ∷ []) c.in-Ok.answer (sym c.search-reply.ensures.answer ∙ c.in-Ok.is)

pub returns-in-Ok : goal.returns-in-Ok
unfolding twenty_zeros rooms_of
returns-in-Ok c =
    record {
      value = request_answered c.args.request _ c.in-Ok.answer (sym c.search-reply.ensures.answer ∙ c.in-Ok.is)
          c.search-reply.ensures.starts
          c.answered_page.ensures.value;
      len_bound = c.answered_page.ensures.len_bound;
    }

pub returns-in-Err : goal.returns-in-Err
unfolding rooms_of
returns-in-Err c = record { value = request_refused_lem c.args.request c.in-Err.why (sym c.search-reply.ensures.answer ∙ c.in-Err.is) c.refused_page.ensures.value; len_bound = c.refused_page.ensures.len_bound }
