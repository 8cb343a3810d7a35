-- What a complete order does to the counts.
use Rattle.std.specs.Prelude.{ℕ, ◌≤◌, ◌<◌, cond, Bool, List, ◌≡◌, eqb}
use Rattle.std.proofs.Common.{sym, ap, ◌∙◌, lt-ltb, le-ltb, eq-eqb, ne_eqb}
use Rattle.theory.specs.Problem.{Row}
use Rattle.theory.specs.Walk as walk
use Rattle.search.specs.inner.Tally.{reached_at}

-- an order whose end is not below the mark is only counted
pub counted_only : (e bound : ℕ) (rows : List Row) (path : List ℕ) (t : walk.Tally) → t.mark ≤ e →
    walk.equalled t ≡ reached_at e bound rows path t
unfolding reached_at
counted_only e bound rows path t h =
    sym
    (ap (λ (b : Bool). cond b (walk.improved e rows path (cond (eqb e bound) walk.at_bound t.course) t) (walk.equalled t))
    (le-ltb e t.mark h))

-- an order below the mark becomes the best
better : (e bound : ℕ) (rows : List Row) (path : List ℕ) (t : walk.Tally) → e < t.mark →
    walk.improved e rows path (cond (eqb e bound) walk.at_bound t.course) t ≡ reached_at e bound rows path t
unfolding reached_at
better e bound rows path t h =
    sym
    (ap (λ (b : Bool). cond b (walk.improved e rows path (cond (eqb e bound) walk.at_bound t.course) t) (walk.equalled t))
    (lt-ltb e t.mark h))

-- and, where it does not end at the bound, the walk goes on as before
pub better_on : (e bound : ℕ) (rows : List Row) (path : List ℕ) (t : walk.Tally) → e < t.mark → (e ≡ bound → ⊥) →
    walk.improved e rows path t.course t ≡ reached_at e bound rows path t
better_on e bound rows path t h d =
    sym (ap (λ (b : Bool). walk.improved e rows path (cond b walk.at_bound t.course) t) (ne_eqb e bound d)) ∙ better e bound rows path t h

-- and, where it does, the walk ends
pub better_bound : (e bound : ℕ) (rows : List Row) (path : List ℕ) (t : walk.Tally) → e < t.mark → e ≡ bound →
    walk.improved e rows path walk.at_bound t ≡ reached_at e bound rows path t
better_bound e bound rows path t h d =
    sym (ap (λ (b : Bool). walk.improved e rows path (cond b walk.at_bound t.course) t) (eq-eqb e bound d)) ∙ better e bound rows path t h
