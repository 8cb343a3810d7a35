use Rattle.std.specs.Prelude.{length}
use Rattle.std.proofs.Common.{sym, ◌∙◌, lt-ltb}
use Rattle.certify.specs.inner.Sets.{sharing_in}
use Rattle.certify.specs.PairLaws.{pair_shares, pair_weightless, pair_heavy_lem, pair_light}
use Rattle.certify.proofs.certificate.Weighed.heavy_pair.Goals as goal
use Rattle.certify.proofs.certificate.Weighed.heavy_pair.Goals.{then-share_bit-via-then-share_bit, then-share_bit-via-else-share_bit+then-weight-eq0}

pub returns-then-share_bit : goal.returns-then-share_bit
unfolding sharing_in
returns-then-share_bit c =
    let s = c.args.self.now in
    elim c.then-share_bit.branch [
      | then-share_bit-via-then-share_bit w ↦ sym (pair_shares (sharing_in s.words.now) s.weights.now s.a (length s.weights.now) c.args.i c.args.j (sym c.share_bit.ensures ∙ w.if-share_bit.true))
      | then-share_bit-via-else-share_bit+then-weight-eq0 w ↦ sym (pair_weightless (sharing_in s.words.now) s.weights.now s.a (length s.weights.now) c.args.i c.args.j (sym c.share_bit.ensures ∙ w.if-share_bit.false) w.if-weight-eq0.true)
    ]

pub returns-then-from-pair : goal.returns-then-from-pair
unfolding sharing_in
returns-then-from-pair c =
    let s = c.args.self.now in
    let heavy = rw (c.from-3.ensures, c.from.ensures, c.from-2.ensures) at c.if-from-pair.true in
    rw (c.from-3.ensures, c.from.ensures, c.from-2.ensures)
    (lt-ltb _ _ heavy
    ∙ sym (pair_heavy_lem (sharing_in s.words.now) s.weights.now s.a (length s.weights.now) c.args.i c.args.j
    (sym c.share_bit.ensures ∙ c.if-share_bit.false) c.if-weight-eq0.false heavy))

pub returns-else-from-pair : goal.returns-else-from-pair
unfolding sharing_in
returns-else-from-pair c =
    let s = c.args.self.now in
    let light = rw (c.from-3.ensures, c.from.ensures, c.from-2.ensures) at c.if-from-pair.false in
    c.heavy_third.ensures
    ∙ sym (pair_light (sharing_in s.words.now) s.weights.now s.a (length s.weights.now) c.args.i c.args.j
    (sym c.share_bit.ensures ∙ c.if-share_bit.false) c.if-weight-eq0.false light)
