use Rattle.std.proofs.Common.{◌≡◌, ◌∙◌, min, length, rules, arith}
use Rattle.lent.specs.LentLaws.{front_taken}
use Rattle.lent.proofs.write_front.Goals as goal

pub returns : goal.returns
returns c =
    let entries = c.args.entries.now in
    let out = c.args.out.now in
    let end : c.min-k-end.result ≡ min (length entries) (length out) = search rules in
    c.loop-k.invariant.3 ∙ front_taken entries out c.loop-k.k (omega (arith, end, c.loop-k.invariant.0, c.loop-k.invariant.1, c.loop-k-test.false))
