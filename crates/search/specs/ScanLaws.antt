-- What one look finds, and that looks lead to the first clear start.
use Prim.Native.Nat.{ℕ, zero, suc, ◌+◌, ◌≤◌, ◌<◌, max}
use Rattle.std.specs.Prelude.{Bool, true, ◌&&◌, List, ◌≡◌, get_or}
use Rattle.std.proofs.Math.Bool.{false, cond}
use Rattle.std.proofs.Common.{⊎_elim, subst, eq-or-lt_of_le, le_of_suc-le-suc, ltb-true, lt-ltb}
use Rattle.std.proofs.Math.Path.{refl, ap}
use Rattle.std.proofs.Math.Numerals.{add-one}
use native.Mathlib.Omega.{arith}
use Rattle.std.proofs.Math.Dec.{ltb}
use Rattle.theory.proofs.TestLaws.{by_test, and_both, and_first, and_second}
use Rattle.search.specs.inner.Scan.{look_past, Clear, FirstClear, Unpassed}

module _ (near : List Bool) (low past : List ℕ) where
  -- a look at no demand stays where it is
  pub look_none : (end from : ℕ) → look_past near low past end from 0 ≡ from
  unfolding look_past
  look_none end from = refl

  -- a look at one demand more
  pub look_more : (end from k : ℕ) →
      look_past near low past end from (k + 1) ≡
      max (look_past near low past end from k) (cond (get_or near k false && ltb (get_or low k 0) end) (get_or past k 0) 0)
  unfolding look_past
  look_more end from k = rw add-one

  -- the larger of a look so far and what one demand more adds is a look at one demand more
  pub look_next : (end from k next add : ℕ) → next ≡ look_past near low past end from k →
      add ≡ cond (get_or near k false && ltb (get_or low k 0) end) (get_or past k 0) 0 →
      max next add ≡ look_past near low past end from (k + 1)
  look_next end from k next add so_far e = let more = look_more end from k in cc

  -- a look never goes back
  pub look_rises : (end from n : ℕ) → from ≤ look_past near low past end from n
  unfolding look_past
  look_rises end from zero = omega arith
  look_rises end from (suc k) = omega (arith, look_rises end from k)

  -- a look at one demand more never goes back
  look_grows : (end from k : ℕ) → look_past near low past end from k ≤ look_past near low past end from (suc k)
  unfolding look_past
  look_grows end from k = omega arith

  -- a look whose last demand is met and starts below the end goes past it
  look_passes_last : (end from k : ℕ) → get_or near k false ≡ true → get_or low k 0 < end →
      get_or past k 0 ≤ look_past near low past end from (suc k)
  unfolding look_past
  look_passes_last end from k e l =
      omega (
        arith,
        ap (λ (b : Bool). cond b (get_or past k 0) 0)
            (and_both (get_or near k false) (ltb (get_or low k 0) end) e (lt-ltb (get_or low k 0) end l)),
      )

  -- a look goes past each demand that is met and starts below the end
  pub look_passes : (end from n k : ℕ) → k < n → get_or near k false ≡ true → get_or low k 0 < end →
      get_or past k 0 ≤ look_past near low past end from n
  look_passes end from zero k h e l = absurd (omega arith)
  look_passes end from (suc n) k h e l =
      ⊎_elim
      (λ (same : k ≡ n).
      subst (λ (m : ℕ). get_or past k 0 ≤ look_past near low past end from (suc m)) same (look_passes_last end from k e l))
      (λ (less : k < n). omega (arith, look_passes end from n k less e l, look_grows end from n))
      (eq-or-lt_of_le (le_of_suc-le-suc h))

  -- a look goes no further than a number that it does not start above, and that no demand it goes past is above
  pub look_held : (end from most n : ℕ) → from ≤ most →
      ((k : ℕ) → k < n → get_or near k false ≡ true → get_or low k 0 < end → get_or past k 0 ≤ most) →
      look_past near low past end from n ≤ most
  unfolding look_past
  look_held end from most zero h all = h
  look_held end from most (suc k) h all =
      let before = look_held end from most k h (λ j l. all j (omega arith)) in
      by_test (get_or near k false && ltb (get_or low k 0) end)
      (λ (e : (get_or near k false && ltb (get_or low k 0) end) ≡ true).
      omega (
        arith,
        ap (λ (b : Bool). cond b (get_or past k 0) 0) e,
        all k (omega arith) (and_first (get_or near k false) (ltb (get_or low k 0) end) e)
            (ltb-true (get_or low k 0) end (and_second (get_or near k false) (ltb (get_or low k 0) end) e)),
      ))
      (λ (e : (get_or near k false && ltb (get_or low k 0) end) ≡ false).
      omega (arith, ap (λ (b : Bool). cond b (get_or past k 0) 0) e))

  -- a look passes no clear start by
  pub look_unpassed : (n span from s : ℕ) → Unpassed near low past n span from s → Unpassed near low past n span from (look_past near low past (s + span) s n)
  unfolding Unpassed Clear
  look_unpassed n span from s held t h clear =
      let low-enough = held t h clear in
      look_held (s + span) s t n low-enough (λ k l e below. clear k l e (omega arith))

  -- a look that stays where it is has found the first clear start
  pub look_found : (n span from s : ℕ) → from ≤ s → Unpassed near low past n span from s → look_past near low past (s + span) s n ≡ s →
      FirstClear near low past n span from s
  unfolding Unpassed Clear
  look_found n span from s h held stays =
      record {
        rises = h;
        clear = λ k l e below. omega (arith, look_passes (s + span) s n k l e below);
        first = held;
      }
