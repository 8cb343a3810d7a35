-- `scan` meets its contract: no clear start is passed by, and a look that stays has found one. No look goes above 392, so each brings the
-- rest up to there down.
use Prim.Native.Nat.{ℕ, ◌+◌, ◌≤◌, ◌<◌}
use mathlib.Core.List.{List}
use mathlib.Core.Bool.{Bool}
use mathlib.Core.Path.{◌≡◌, sym, subst, ◌∙◌}
use native.Mathlib.Omega.{arith}
use lib.ListN.{get_or}
use Rattle.search.specs.inner.Scan.{look_past, Unpassed}
use Rattle.search.specs.ScanLaws.{look_rises, look_held, look_unpassed, look_found}
use Rattle.search.proofs.walk.Level.scan.Goals as goal

-- a look from s, as the code makes it, rises, stays within 392 and passes no clear start by
looked : (near : List Bool) (low past : List ℕ) (count span from s next : ℕ) → ((k : ℕ) → k < count → get_or past k 0 ≤ 392) → s ≤ 392 →
    Unpassed near low past count span from s → next ≡ look_past near low past (s + span) s count →
    (s ≤ next) × (next ≤ 392) × Unpassed near low past count span from next
looked near low past count span from s next bounded h held e = (
  omega (arith, look_rises near low past (s + span) s count),
  subst (λ (m : ℕ). m ≤ 392) (sym e) (look_held near low past (s + span) s 392 count h (λ k l met starts. bounded k l)),
  subst (Unpassed near low past count span from) (sym e) (look_unpassed near low past count span from s held),
)

pub loop-s-init : goal.loop-s-init
unfolding Unpassed
loop-s-init c = (omega arith, c.requires.from_bound.0, λ t h clear. h)

pub returns-then-next-s : goal.returns-then-next-s
returns-then-next-s c =
    let a = c.args in
    let inv = c.loop-s.invariant in
    look_found a.near.now a.self.now.low a.self.now.past a.count a.span a.from c.loop-s.s inv.0 inv.2
    (sym c.look-next.ensures ∙ c.if-next-s.true)

pub loop-s-smaller : goal.loop-s-smaller
loop-s-smaller c =
    let a = c.args in
    let inv = c.loop-s.invariant in
    let after =
    looked a.near.now a.self.now.low a.self.now.past a.count a.span a.from c.loop-s.s c.look-next.result c.requires.by_index inv.1
    inv.2 c.look-next.ensures in
    omega arith

pub loop-s-preserved : goal.loop-s-preserved
loop-s-preserved c =
    let a = c.args in
    let inv = c.loop-s.invariant in
    let after =
    looked a.near.now a.self.now.low a.self.now.past a.count a.span a.from c.loop-s.s c.look-next.result c.requires.by_index inv.1
    inv.2 c.look-next.ensures in
    (omega arith, after.1, after.2)
