use Rattle.std.proofs.Common.{ℕ, ◌≡◌, ◌+◌, ◌-◌, subst, arith}
use Rattle.search.specs.inner.Kept.{Shifted}
use Rattle.search.specs.BringLaws.{shifted_none, shifted_next, shifted_brought}
use Rattle.search.proofs.walk.bring.Goals as goal

pub loop-p-init : goal.loop-p-init
loop-p-init c = (c.requires.0, omega arith, shifted_none c.args.order.now c.args.at)

pub loop-p-preserved : goal.loop-p-preserved
loop-p-preserved c =
    let a = c.args in
    let inv = c.loop-p.invariant in
    let here : (c.loop-p.p - 1) + 1 ≡ c.loop-p.p = omega arith in
    (omega arith, omega arith, rw here (shifted_next a.order.now a.at c.loop-p.p c.loop-p.order (omega arith) inv.1 c.requires.2 inv.2))

pub returns : goal.returns
returns c =
    let a = c.args in
    let inv = c.loop-p.invariant in
    let end : c.loop-p.p ≡ a.placed = omega arith in
    shifted_brought a.order.now a.placed a.at c.loop-p.order c.requires.0 c.requires.2
    (subst (λ (p : ℕ). Shifted a.order.now a.at p c.loop-p.order) end inv.2)
