use Prim.Native.Nat.{◌+◌}
use mathlib.Core.Bool.{Bool}
use mathlib.Core.List.{List, []}
use mathlib.Core.Path.{sym, ap, subst, ◌∙◌}
use native.Mathlib.Omega.{arith}
use lib.ListN.{replicate}
use Rattle.theory.specs.Orders.{listing}
use Rattle.theory.specs.Problem.{Problem}
use Rattle.theory.specs.Search.{fresh}
use Rattle.theory.specs.Walk.{walk}
use Rattle.search.specs.inner.Arrays.{problem_of}
use Rattle.search.specs.inner.Kept.{Sized}
use Rattle.search.specs.TableLaws.{same_problem, walk_sizes}
use Rattle.search.specs.FoundLaws.{found_by_bound, found_by_nothing, found_by_walk}
use Rattle.search.proofs.call.find.Goals as goal

pub returns-then-slots-need : goal.returns-then-slots-need
returns-then-slots-need c =
    found_by_bound c.args.compact c.args.need c.args.limit c.found_at_once.result c.factorial-all.result c.if-slots-need.true
    c.factorial-all.ensures c.found_at_once.ensures

pub returns-then-count-eq0 : goal.returns-then-count-eq0
returns-then-count-eq0 c =
    found_by_nothing c.args.compact c.args.need c.args.limit c.found_at_once-then-count-eq0.result
    (record { starts = replicate 20 0; order = replicate 20 0 }) c.if-slots-need.false c.if-count-eq0.true
    c.found_at_once-then-count-eq0.ensures

pub invariant_of-setting : goal.invariant_of-setting
invariant_of-setting c =
    let compact = c.args.compact in
    record {
      sized =
          subst (λ (t : List (List Bool)). Sized t compact.widths compact.guard compact.count) (sym c.meeting_table-table.ensures)
          (walk_sizes compact c.requires.small c.requires.count_bound);
    }

pub returns : goal.returns
returns c =
    let compact = c.args.compact in
    found_by_walk compact c.args.need c.args.limit c.found_by_walk.result c.walk_orders.result (omega arith) (omega arith)
    (c.walk_orders.ensures
    ∙ ap
    (λ (P : Problem). walk P c.args.limit c.args.need compact.count [] [] (listing compact.count) (fresh (compact.slots + 1)))
    (ap (λ (t : List (List Bool)). problem_of t compact.widths compact.guard) c.meeting_table-table.ensures
    ∙ same_problem compact c.requires.small c.requires.count_bound))
    c.found_by_walk.ensures
