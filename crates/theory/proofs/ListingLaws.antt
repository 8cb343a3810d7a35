-- The listing positions: which numbers they are, that they rise, and how many there are.
use Rattle.std.specs.Prelude.{ℕ, zero, suc, ◌+◌, ◌≤◌, ◌<◌, ◌≡◌, refl, length, ltb}
use mathlib.Core.List.Memᴰ
use mathlib.Core.List.{List, [], ◌∷◌, ◌++◌, Memᴰ}
use Rattle.std.proofs.Common.{⊎_elim, sym, ap, ap₂, ◌∙◌, ltb-true, ltb-false, arith}
use Rattle.theory.specs.Orders.{count_up, listing}
use Rattle.theory.specs.Earlier.{Chained, Rising, NoRepeats}
use Rattle.theory.proofs.TestLaws.{by_test}
use Rattle.theory.proofs.EarlierLaws.{rising_no_repeats}

-- n numbers are counted up
pub count_up-length : (n k : ℕ) → length (count_up n k) ≡ n
unfolding count_up
count_up-length zero k = refl
count_up-length (suc n) k = ap suc (count_up-length n (suc k))

-- what is counted up from k is at least k
pub count_up_from : (n k i : ℕ) → Memᴰ i (count_up n k) → k ≤ i
unfolding count_up
count_up_from zero k i m = absurd (Memᴰ.not-nil m)
count_up_from (suc n) k i m =
    ⊎_elim (λ (e : i ≡ k). omega arith) (λ r. let h = count_up_from n (suc k) i r in omega arith) (Memᴰ.cases_cons m)

-- n numbers counted up from k are below k + n
pub count_up_below : (n k i : ℕ) → Memᴰ i (count_up n k) → i < k + n
unfolding count_up
count_up_below zero k i m = absurd (Memᴰ.not-nil m)
count_up_below (suc n) k i m =
    ⊎_elim (λ (e : i ≡ k). omega arith) (λ r. let h = count_up_below n (suc k) i r in omega arith) (Memᴰ.cases_cons m)

-- each number from k to below k + n is counted
pub count_up_mem : (n k i : ℕ) → k ≤ i → i < k + n → Memᴰ i (count_up n k)
unfolding count_up
count_up_mem zero k i h l = absurd (omega arith)
count_up_mem (suc n) k i h l =
    by_test (ltb k i)
    (λ t. Memᴰ.tail (count_up_mem n (suc k) i (ltb-true k i t) (omega arith)))
    (λ f. Memᴰ.head (omega (arith, ltb-false k i f)))

-- the numbers counted up rise
pub count_up_rising : (n k : ℕ) → Rising (count_up n k)
unfolding count_up Rising Chained
count_up_rising zero k = tt
count_up_rising (suc n) k = ((λ i m. count_up_from n (suc k) i m), count_up_rising n (suc k))

-- numbers counted up in two parts
pub count_up-append : (n m k : ℕ) → count_up n k ++ count_up m (k + n) ≡ count_up (n + m) k
unfolding count_up
count_up-append zero m k = ap₂ count_up (let e : m ≡ 0 + m = omega arith in e) (let e : k + 0 ≡ k = omega arith in e)
count_up-append (suc n) m k =
    ap (λ (l : List ℕ). k ∷ l)
    (ap (λ (j : ℕ). count_up n (suc k) ++ count_up m j) (let e : k + suc n ≡ suc k + n = omega arith in e) ∙ count_up-append n m (suc k))
    ∙ ap (λ (j : ℕ). count_up j k) (let e : suc (n + m) ≡ suc n + m = omega arith in e)

-- one number more stands behind the others
pub count_up_last : (n k : ℕ) → count_up (suc n) k ≡ count_up n k ++ ((k + n) ∷ [])
unfolding count_up
count_up_last n k = ap (λ (m : ℕ). count_up m k) (let e : suc n ≡ n + 1 = omega arith in e) ∙ sym (count_up-append n 1 k)

-- there are K listing positions
pub listing_length : (K : ℕ) → length (listing K) ≡ K
unfolding listing
listing_length K = count_up-length K 0

-- a listing position is below K
pub listing_below : (K i : ℕ) → Memᴰ i (listing K) → i < K
unfolding listing
listing_below K i m = let h = count_up_below K 0 i m in omega arith

-- each number below K is a listing position
pub listing_mem : (K i : ℕ) → i < K → Memᴰ i (listing K)
unfolding listing
listing_mem K i h = count_up_mem K 0 i (omega arith) (omega arith)

-- the listing positions rise
pub listing_rising : (K : ℕ) → Rising (listing K)
unfolding listing
listing_rising K = count_up_rising K 0

-- no listing position stands twice
pub listing_no_repeats : (K : ℕ) → NoRepeats (listing K)
listing_no_repeats K = rising_no_repeats (listing K) (listing_rising K)
