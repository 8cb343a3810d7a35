use Rattle.std.proofs.Common.{ℕ, List, set, take, map, sym, ap, ◌∙◌, arith}
use Rattle.std.proofs.lemmas.List.{get_or-map, length-map}
use Rattle.request.specs.View.{no_entry}
use Rattle.lent.specs.Lent.{over}
use Rattle.lent.specs.LentLaws.{over_none, over_more}
use Rattle.columns.proofs.column.write_column.Goals as goal

pub loop-k-init : goal.loop-k-init
loop-k-init g c = λ of says. over_none (map of c.args.demands.now) c.args.out.now

pub loop-k-preserved : goal.loop-k-preserved
loop-k-preserved g c = λ of says.
    let demands = c.args.demands.now in
    let out = c.args.out.now in
    let k = c.loop-k.k in
    let here = says k no_entry (omega arith) _ c.number.ensures ∙ sym (get_or-map of demands k no_entry 0 (omega arith)) in
    ap (λ (l : List ℕ). set l k c.number.result) (c.loop-k.invariant of says)
    ∙ ap (λ (x : ℕ). set (over (take k (map of demands)) out) k x) here
    ∙ over_more (map of demands) out k (omega (arith, length-map demands of)) (omega arith)
