-- `mend` meets its contract: each turn mends the demand at place `at`, and leaves all others.
use Prim.Native.Nat.{◌+◌}
use mathlib.Core.Path.{◌≡◌, subst, sym, ap}
use native.Mathlib.Omega.{arith}
use lib.ListN.{get_or, set}
use Rattle.theory.specs.Problem.{lowest}
use Rattle.search.specs.declared.walk.Level.{Level}
use Rattle.search.specs.inner.Arrays.{rows_of}
use Rattle.search.specs.inner.Kept.{Mended}
use Rattle.search.specs.inner.Level.{posed, MendableAt}
use Rattle.search.specs.KeptLaws.{mended_mendable, mended_next}
use Rattle.search.proofs.walk.Level.mend.Goals as goal

pub mended-start-requires-clause-mendable : goal.mended-start-requires-clause-mendable
mended-start-requires-clause-mendable c =
    let s = c.args.setting.now in
    let l = c.args.self.now in
    subst (λ (m : Level). MendableAt s m c.loop-at.at) (sym c.loop-at.invariant.rest)
    (mended_mendable s.table s.widths s.guard s.count l.order l.low l.past l.placed c.loop-at.at c.loop-at.self.low (omega arith)
    c.requires c.loop-at.invariant.so_far)

pub loop-at-preserved : goal.loop-at-preserved
loop-at-preserved c =
    let s = c.args.setting.now in
    let l = c.args.self.now in
    let at = c.loop-at.at in
    let low = c.loop-at.self.low in
    let start = c.mended-start.result in
    let is = c.loop-at.invariant.rest in
    let lowest_is : start ≡ lowest (posed s) (rows_of low l.order (l.placed + 1)) (get_or l.order at 0) =
    subst (λ (m : Level). start ≡ lowest (posed s) (rows_of low m.order (m.placed + 1)) (get_or m.order at 0)) is c.mended-start.ensures in
    record {
      rest = ap (λ (m : Level). record m { low = set low (get_or c.loop-at.self.order at 0) start }) is;
      so_far =
          subst
          (λ (m : Level). Mended s.table s.widths s.guard s.count l.order l.low l.placed (at + 1) (set low (get_or m.order at 0) start))
          (sym is)
          (mended_next s.table s.widths s.guard s.count l.order l.low l.past l.placed at low start (omega arith) (omega arith)
          c.requires.listed c.requires.passed.room_low c.loop-at.invariant.so_far lowest_is);
    }
