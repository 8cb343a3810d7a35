use Rattle.std.proofs.Common.{sym, ◌∙◌, length}
use Rattle.certify.specs.inner.Sets.{sharing_in}
use Rattle.certify.specs.SetsLaws.{set_heavy, set_passes, sets_end}
use Rattle.certify.proofs.certificate.Weighed.check_sets.Goals as goal

pub returns-then-heavy_with : goal.returns-then-heavy_with
returns-then-heavy_with c =
    let w = c.args.self.now in
    sym (set_heavy (sharing_in w.words.now) w.weights.now w.a (length w.weights.now) c.loop-i.i c.loop-i-test.true
    (sym c.heavy_with.ensures ∙ c.if-heavy_with.true))
    ∙ c.loop-i.invariant

pub loop-i-preserved : goal.loop-i-preserved
loop-i-preserved c =
    let w = c.args.self.now in
    sym (set_passes (sharing_in w.words.now) w.weights.now w.a (length w.weights.now) c.loop-i.i c.loop-i-test.true
    (sym c.heavy_with.ensures ∙ c.if-heavy_with.false))
    ∙ c.loop-i.invariant

pub returns : goal.returns
returns c =
    let w = c.args.self.now in
    sym (sets_end (sharing_in w.words.now) w.weights.now w.a (length w.weights.now) c.loop-i.i c.loop-i-test.false)
    ∙ c.loop-i.invariant
