-- `walk_orders` meets its contract: the walk is tried from its start.
use Prim.Native.Nat.{ℕ}
use mathlib.Core.Path.{◌≡◌, refl, ◌∙◌}
use native.Mathlib.Omega.{arith}
use lib.ListN.{length, replicate}
use Rattle.search.specs.StartLaws.{twenty, twenty_listed, ready_first, top_first, counting_first, tried_first}
use Rattle.search.specs.inner.Level.{posed}
use Rattle.search.proofs.walk.walk_orders.Goals as goal

pub sibling-requires-clause-ready : goal.sibling-requires-clause-ready
sibling-requires-clause-ready c =
    let s = c.args.setting in
    let long : ◌≡◌ {A = ℕ} (length twenty) 20 = refl in
    record {
      ready =
          ready_first s.table s.widths s.guard s.count twenty s.sized (omega (arith, s.sized.few))
          (λ (k : ℕ) h. twenty_listed k (omega (arith, s.sized.few)));
      top_is = top_first (posed s) (replicate 20 0) twenty;
    }

pub sibling-requires-clause-counting : goal.sibling-requires-clause-counting
sibling-requires-clause-counting c =
    let s = c.args.setting in counting_first s.count c.args.slots c.requires.0 s.sized.few c.requires.1

pub returns : goal.returns
returns c =
    let s = c.args.setting in
    c.sibling.ensures
    ∙ tried_first (posed s) s.limit s.bound s.count c.args.slots twenty (replicate 20 0) c.requires.0
    (λ (k : ℕ) h. twenty_listed k (omega (arith, s.sized.few)))
