-- Bringing an entry forward, one place at a time.
use Rattle.std.specs.Prelude.{ℕ, ◌+◌, ◌-◌, ◌≤◌, ◌<◌, List, ◌≡◌, refl, get_or, set, length}
use Rattle.std.proofs.Common.{⊎_elim, ap, ◌∙◌, eq-or-lt_of_le, arith, length-set, get_or-set_same, get_or-set_other}
use Rattle.search.specs.inner.Kept.{Shifted, Brought}

-- at first the entry is where it was
pub brought_none : (order : List ℕ) (at : ℕ) → Brought order at at order
brought_none order at =
    record { long = refl; front = λ q h. refl; first = refl; between = λ q h k. absurd (omega arith); back = λ q h. refl }

-- one turn more exchanges it with the entry before it
pub brought_next : (order : List ℕ) (at p : ℕ) (brought : List ℕ) → 0 < p → p ≤ at → at < length order → Brought order p at brought →
    Brought order (p - 1) at (set (set brought p (get_or brought (p - 1) 0)) (p - 1) (get_or brought p 0))
brought_next order at p brought h k room so_far =
    let v : ℕ = get_or brought (p - 1) 0 in
    let w : ℕ = get_or brought p 0 in
    let outer : (q : ℕ) → (q ≡ p - 1 → ⊥) → get_or (set (set brought p v) (p - 1) w) q 0 ≡ get_or (set brought p v) q 0
    = λ q d. get_or-set_other (set brought p v) (p - 1) q w 0 d in
    let other : (q : ℕ) → (q ≡ p → ⊥) → (q ≡ p - 1 → ⊥) → get_or (set (set brought p v) (p - 1) w) q 0 ≡ get_or brought q 0
    = λ q d e. outer q e ∙ get_or-set_other brought p q v 0 d in
    record {
      long = length-set (set brought p v) (p - 1) w ∙ length-set brought p v ∙ so_far.long;
      front = λ q l. other q (λ d. omega arith) (λ d. omega arith) ∙ so_far.front q (omega arith);
      first =
          get_or-set_same (set brought p v) (p - 1) w 0 (omega (arith, length-set brought p v, so_far.long))
          ∙ so_far.first;
      between =
          λ q l below.
          ⊎_elim
          (λ (same : p - 1 ≡ q).
          ap (λ (r : ℕ). get_or (set (set brought p v) (p - 1) w) r 0) (let e : q + 1 ≡ p = omega arith in e)
          ∙ outer p (λ d. omega arith)
          ∙ get_or-set_same brought p v 0 (omega (arith, so_far.long))
          ∙ so_far.front (p - 1) (omega arith)
          ∙ ap (λ (r : ℕ). get_or order r 0) same)
          (λ (more : p - 1 < q). other (q + 1) (λ d. omega arith) (λ d. omega arith) ∙ so_far.between q (omega arith) below)
          (eq-or-lt_of_le l);
      back = λ q l. other q (λ d. omega arith) (λ d. omega arith) ∙ so_far.back q l;
    }

-- at first nothing is shifted
pub shifted_none : (order : List ℕ) (at : ℕ) → Shifted order at at order
shifted_none order at =
    record { long = refl; front = λ q h. refl; between = λ q h k. absurd (omega arith); back = λ q h. refl }

-- one turn moves the entry before place p one back
pub shifted_next : (order : List ℕ) (at p : ℕ) (shifted : List ℕ) → 0 < p → p ≤ at → at < length order → Shifted order at p shifted →
    Shifted order at (p - 1) (set shifted p (get_or shifted (p - 1) 0))
shifted_next order at p shifted h k room so_far =
    let v : ℕ = get_or shifted (p - 1) 0 in
    let other : (q : ℕ) → (q ≡ p → ⊥) → get_or (set shifted p v) q 0 ≡ get_or shifted q 0 = λ q d. get_or-set_other shifted p q v 0 d in
    record {
      long = length-set shifted p v ∙ so_far.long;
      front = λ q l. other q (λ d. omega arith) ∙ so_far.front q (omega arith);
      between =
          λ q l below.
          ⊎_elim
          (λ (same : p - 1 ≡ q).
          ap (λ (r : ℕ). get_or (set shifted p v) r 0) (let e : q + 1 ≡ p = omega arith in e)
          ∙ get_or-set_same shifted p v 0 (omega (arith, so_far.long))
          ∙ so_far.front (p - 1) (omega arith)
          ∙ ap (λ (r : ℕ). get_or order r 0) same)
          (λ (more : p - 1 < q). other (q + 1) (λ d. omega arith) ∙ so_far.between q (omega arith) below)
          (eq-or-lt_of_le l);
      back = λ q l. other q (λ d. omega arith) ∙ so_far.back q l;
    }

-- with all shifted, the entry goes to its place
pub shifted_brought : (order : List ℕ) (n at : ℕ) (shifted : List ℕ) → n ≤ at → at < length order → Shifted order at n shifted →
    Brought order n at (set shifted n (get_or order at 0))
shifted_brought order n at shifted h room so_far =
    let v : ℕ = get_or order at 0 in
    let other : (q : ℕ) → (q ≡ n → ⊥) → get_or (set shifted n v) q 0 ≡ get_or shifted q 0 = λ q d. get_or-set_other shifted n q v 0 d in
    record {
      long = length-set shifted n v ∙ so_far.long;
      front = λ q l. other q (λ d. omega arith) ∙ so_far.front q (omega arith);
      first = get_or-set_same shifted n v 0 (omega (arith, so_far.long));
      between = λ q l below. other (q + 1) (λ d. omega arith) ∙ so_far.between q l below;
      back = λ q l. other q (λ d. omega arith) ∙ so_far.back q l;
    }
