use Rattle.std.proofs.Common.{◌∙◌, eqb, rules, tests}
use Rattle.std.proofs.lemmas.Iterator.{YieldsList-from_slice}
use Rattle.std.proofs.lemmas.Iterator.Search.{position_from_yields_List}
use Rattle.request.specs.declared.Demand.{Demand}
use Rattle.planfile.proofs.PlanPackingLaws.{place_seen}
use Rattle.planfile.proofs.read.place_of.Goals as goal

pub returns-clause-value : goal.returns-clause-value
returns-clause-value c =
    position_from_yields_List (λ (d : Demand). eqb d.ident c.args.ident) _ _ c.position.result c.position.ensures.ran (YieldsList-from_slice _ c.iter.ensures.rest) (λ x b q k. search (rules, tests))
    ∙ place_seen c.args.ident c.args.demands.now
