use Rattle.std.proofs.Common.{ℕ, List, set, get_or, ap, ◌∙◌, arith}
use Rattle.lent.specs.LentLaws.{over_none, over_more}
use Rattle.columns.proofs.routes.write_route.Goals as goal

pub loop-k-init : goal.loop-k-init
loop-k-init c = over_none c.args.route.now c.args.out.now

pub loop-k-preserved : goal.loop-k-preserved
loop-k-preserved c =
    let route = c.args.route.now in
    let k = c.loop-k.k in
    rw c.from.ensures
    (ap (λ (l : List ℕ). set l k (get_or route k 0)) c.loop-k.invariant ∙ over_more route c.args.out.now k (omega arith) (omega arith))
