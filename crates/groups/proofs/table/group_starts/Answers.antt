use Prim.Native.Nat.{ℕ, ◌+◌}
use mathlib.Core.Path.{refl, ap, ◌∙◌}
use native.Mathlib.Omega.{arith}
use lib.ListN.{get_or, length-set}
use Rattle.groups.specs.TableLaws.{ends_within, starts_none, starts_more}
use Rattle.groups.proofs.table.group_starts.Goals as goal

pub loop-g-init : goal.loop-g-init
loop-g-init c = (refl, starts_none c.args.count c.args.m)

pub overflow_add-first : goal.overflow_add-first
overflow_add-first c =
    let a = c.args in
    let at = c.loop-g in
    omega (arith, ends_within a.count a.m at.g (omega arith), at.invariant.1 at.g (omega arith), c.group_size.ensures)

pub loop-g-preserved : goal.loop-g-preserved
loop-g-preserved c =
    let a = c.args in
    let at = c.loop-g in (
      length-set at.first _ _ ∙ at.invariant.0,
      starts_more a.count a.m at.first at.g _ (omega arith)
          (ap (λ (n : ℕ). get_or at.first at.g 0 + n) c.group_size.ensures)
          at.invariant.1,
    )

pub returns : goal.returns
returns c =
    let at = c.loop-g in
    record { full = at.invariant.0; begins = λ g h. at.invariant.1 g (omega arith) }
