use Rattle.std.specs.Prelude.{ℕ, ◌≡◌, ◌++◌, ◌+◌, take}
use Rattle.std.proofs.Common.{◌∙◌, sym, ap, arith}
use Rattle.std.proofs.Math.ListN.{length-set}
use Rattle.theory.specs.Orders.{count_up}
use Rattle.groups.specs.MembersLaws.{counted_none, counted_more}
use Rattle.groups.proofs.order.put_group.Goals as goal

pub loop-k-init : goal.loop-k-init
loop-k-init c = (c.requires.2, counted_none c.args.along.now c.args.at c.args.first)

pub loop-k-preserved : goal.loop-k-preserved
loop-k-preserved c =
    let at = c.args.at in
    let turn = c.loop-k in (
      length-set turn.along (at + turn.k) (c.args.first + turn.k) ∙ turn.invariant.0,
      counted_more turn.along (take at c.args.along.now) at c.args.first turn.k (omega (arith, turn.invariant.0)) turn.invariant.1,
    )

pub returns : goal.returns
returns c =
    let at = c.args.at in
    let turn = c.loop-k in
    let all : turn.k ≡ c.args.size = omega arith in record {
      kept = turn.invariant.0;
      put = ap (λ (n : ℕ). take (at + n) turn.along) (sym all)
          ∙ turn.invariant.1
          ∙ ap (λ (n : ℕ). take at c.args.along.now ++ count_up n c.args.first) all;
    }
