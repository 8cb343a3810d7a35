use Rattle.std.proofs.Common.{◌≡◌, ℕ, ◌&&◌, Bool, true, false, cond, refl, sym, ap, ◌∙◌, Option, ltb, get_or}
use Rattle.std.specs.Bool.{then_some}
use Rattle.std.specs.Option.{unwrap_or}
use Rattle.search.specs.ScanLaws.{look_none, look_next}
use Rattle.search.proofs.walk.Level.look.Goals as goal

-- a number where the test holds, else 0
picked : (b : Bool) (x : ℕ) → unwrap_or (then_some b x) 0 ≡ cond b x 0
picked true x = refl
picked false x = refl

pub loop-k-init : goal.loop-k-init
loop-k-init c = sym (look_none _ _ _ _ _)

pub loop-k-preserved : goal.loop-k-preserved
loop-k-preserved c =
    let a = c.args in
    let l = a.self.now in
    let k = c.loop-k.k in
    let added : c.unwrap_or.result ≡ cond (get_or a.near.now k false && ltb (get_or l.low k 0) a.end) (get_or l.past k 0) 0 =
    c.unwrap_or.ensures
    ∙ ap (λ (o : Option ℕ). unwrap_or o 0) c.then_some.ensures
    ∙ picked (get_or a.near.now k false && ltb (get_or l.low k 0) a.end) (get_or l.past k 0) in
    c.max-next.ensures
    ∙ look_next a.near.now l.low l.past a.end a.from k c.loop-k.next c.unwrap_or.result c.loop-k.invariant added
