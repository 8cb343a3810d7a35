-- Laws of decimal numbers and of pages.
use Rattle.std.specs.Prelude.{ℕ, zero, suc, ◌+◌, ◌/◌, ◌%◌, ◌^◌, ◌≤◌, ◌<◌, List, [], ◌∷◌, ◌++◌, ◌≡◌, refl, length, set, ltb}
use Rattle.std.proofs.Common.{ap, ap₂, ◌∙◌, arith, append_assoc, length-append, ltb-true, ltb-false, lt-ltb, le-ltb}
use Rattle.std.proofs.lemmas.List.{drop-drop}
use Rattle.std.proofs.lemmas.List.Edits.{sets, sets-eq}
use borrow.Rule.Slice.PartMut.{put_mid}
use Rattle.theory.proofs.TestLaws.{by_test}
use Rattle.report.specs.declared.Page.{Page}
use Rattle.report.specs.Text.{digits, decimal, appended}

-- more divisions than a number is large change nothing
digits_enough : (more other n : ℕ) → n ≤ more → n ≤ other → digits more n ≡ digits other n
unfolding digits
digits_enough zero zero n h k = refl
digits_enough zero (suc other) n h k = rw (lt-ltb n 10 (omega arith))
digits_enough (suc more) zero n h k = rw (lt-ltb n 10 (omega arith))
digits_enough (suc more) (suc other) n h k =
    by_test (ltb n 10)
    (λ t. rw t)
    (λ f. let large = ltb-false n 10 f in
    rw f (ap (λ (front : List ℕ). front ++ ((48 + n % 10) ∷ [])) (digits_enough more other (n / 10) (omega arith) (omega arith))))

-- a number below ten is its one digit
pub decimal_small : (n : ℕ) → n < 10 → decimal n ≡ (48 + n % 10) ∷ []
unfolding decimal digits
decimal_small zero h = refl
decimal_small (suc n) h = rw (lt-ltb (suc n) 10 h)

-- a larger number is its tens in decimal, and its last digit
pub decimal_large : (n : ℕ) → 10 ≤ n → decimal n ≡ decimal (n / 10) ++ ((48 + n % 10) ∷ [])
unfolding decimal digits
decimal_large zero h = absurd (omega arith)
decimal_large (suc n) h =
    rw (le-ltb (suc n) 10 h)
    (ap (λ (front : List ℕ). front ++ ((48 + suc n % 10) ∷ [])) (digits_enough n (suc n / 10) (suc n / 10) (omega arith) (omega arith)))

-- how many digits the two have
pub decimal_small_length : (n : ℕ) → n < 10 → length (decimal n) ≡ 1
decimal_small_length n h = ap length (decimal_small n h)

pub decimal_large_length : (n : ℕ) → 10 ≤ n → length (decimal n) ≡ length (decimal (n / 10)) + 1
decimal_large_length n h = ap length (decimal_large n h) ∙ length-append (decimal (n / 10)) ((48 + n % 10) ∷ [])

-- a number below a power of ten has no more digits than that power has noughts
pub decimal_digits : (more n : ℕ) → n < 10 ^ suc more → length (decimal n) ≤ suc more
decimal_digits zero n h = omega (arith, decimal_small_length n (omega arith))
decimal_digits (suc more) n h =
    by_test (ltb n 10)
    (λ t. omega (arith, decimal_small_length n (ltb-true n 10 t)))
    (λ f. omega (arith, decimal_large_length n (ltb-false n 10 f), decimal_digits more (n / 10) (omega arith)))

-- text behind text is the two texts in one
sets_sets : (l : List ℕ) (i : ℕ) (a b : List ℕ) → sets (sets l i a) (i + length a) b ≡ sets l i (a ++ b)
sets_sets l i [] b = ap (λ (n : ℕ). sets l n b) (omega arith)
sets_sets l i (x ∷ a) b =
    ap (λ (n : ℕ). sets (sets (set l i x) (suc i) a) n b) (omega arith) ∙ sets_sets (set l i x) (suc i) a b

-- what is copied into the middle of a page's bytes
pub put_text : (l : List ℕ) (i k : ℕ) (text : List ℕ) → i + length text ≤ length l → k ≡ length text → put_mid i k l text ≡ sets l i text
put_text l i k text fits same = rw (same, sets-eq text l i fits, append_assoc, drop-drop (length text) i l)

-- a page is longer by the text that came to it
pub appended_length : (page : Page) (text : List ℕ) → (appended page text).len ≡ page.len + length text
unfolding appended
appended_length page text = refl

-- two texts, one behind the other, come to a page as one
pub appended_twice : (page : Page) (a b : List ℕ) → appended (appended page a) b ≡ appended page (a ++ b)
unfolding appended
appended_twice page a b =
    ap₂ (λ (l : List ℕ) (n : ℕ). record { bytes = l; len = n })
    (sets_sets page.bytes page.len a b) (rw length-append (omega arith))

-- an empty text changes nothing
pub appended_none : (page : Page) → appended page [] ≡ page
unfolding appended
appended_none page = ap (λ (n : ℕ). record { bytes = page.bytes; len = n }) (omega arith)
