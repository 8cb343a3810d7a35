-- The words are what is cut off at the first mark.
use Rattle.std.specs.Prelude.{ℕ, zero, suc, ◌+◌, ◌≤◌, ◌<◌, ◌≡◌, Bool, true, false, List, [], ◌∷◌, ◌++◌, length, take, drop, eqb}
use Rattle.std.proofs.Common.{refl, sym, ◌∙◌, ap, arith}
use Rattle.std.specs.List.{starts_with}
use Rattle.std.specs.Str.Pattern.{LacksTextAt}
use Rattle.std.proofs.lemmas.Slice.Eq.{starts_is}
use Rattle.std.proofs.lemmas.Bool.Decides.{Decides-eqb}
use Rattle.console.specs.Words.{up_to, words_of}

-- the mark stands at the front
begins : (mark s rest : List ℕ) → s ≡ mark ++ rest → starts_with eqb s mark ≡ true
begins mark s rest e = (starts_is {E = eqb} Decides-eqb s mark (starts_with eqb s mark) refl).1 rest e

-- the mark does not stand at the front
lacks : (mark s : List ℕ) (r : Bool) → r ≡ starts_with eqb s mark → LacksTextAt mark s 0 → r ≡ false
lacks mark s false e none = refl
lacks mark s true e none = absurd (none _ ((starts_is {E = eqb} Decides-eqb s mark true e).0 refl))

module _ (mark : List ℕ) where
  -- a text in which the mark first stands at k
  pub up_to_first : (s : List ℕ) (k : ℕ) (rest : List ℕ) → ((i : ℕ) → i < k → LacksTextAt mark s i) → drop k s ≡ mark ++ rest → up_to mark s ≡ take k s
  unfolding up_to
  up_to_first [] zero rest none here = refl
  up_to_first [] (suc k) rest none here = refl
  up_to_first (b ∷ s) zero rest none here = rw (begins mark (b ∷ s) rest here)
  up_to_first (b ∷ s) (suc k) rest none here =
      rw (lacks mark (b ∷ s) _ refl (none 0 (omega arith)))
      (ap (λ (l : List ℕ). b ∷ l) (up_to_first s k rest (λ i h. none (suc i) (omega arith)) here))

  -- a text in which it does not stand
  pub up_to_none : (s : List ℕ) → ((i : ℕ) → i ≤ length s → LacksTextAt mark s i) → up_to mark s ≡ s
  unfolding up_to
  up_to_none [] none = refl
  up_to_none (b ∷ s) none =
      rw (lacks mark (b ∷ s) _ refl (none 0 (omega arith)))
      (ap (λ (l : List ℕ). b ∷ l) (up_to_none s (λ i h. none (suc i) (omega arith))))

-- two results that meet the contract of `words_of` are equal
pub same_words : (text a b : List ℕ) → a ≡ words_of text → b ≡ words_of text → a ≡ b
same_words text a b ha hb = ha ∙ sym hb
