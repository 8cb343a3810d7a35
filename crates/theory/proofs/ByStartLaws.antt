-- Every list has an order by start.
use Rattle.std.specs.Prelude.{ℕ, zero, suc, ◌≤◌, ◌<◌, ◌⊎◌, ◌≡◌, refl, leb, length}
use mathlib.Core.List.Memᴰ
use mathlib.Core.List.{List, [], ◌∷◌, ◌++◌, Memᴰ}
use Rattle.std.proofs.Common.{inl, inr, ⊎_elim, ap, ◌∙◌, arith, length-append, leb-true, leb-false}
use Rattle.theory.specs.Arrange.{Arrange}
use Rattle.theory.specs.Earlier.{StandsBefore, Chained}
use Rattle.theory.specs.inner.AsLow.{NeverFalling}
use Rattle.theory.specs.ByStart.{ByStart}
use Rattle.theory.proofs.TestLaws.{by_test}
use Rattle.theory.proofs.ArrangeLaws.{mem_wider, arrange_mem}
use Rattle.theory.proofs.EarlierLaws.{chained_split}

-- a chain stays one under a weaker relation
pub chained_weaken : (R Q : ℕ → ℕ → Type 0) → ((i j : ℕ) → R i j → Q i j) → (list : List ℕ) → Chained R list → Chained Q list
unfolding Chained
chained_weaken R Q keep [] c = tt
chained_weaken R Q keep (i ∷ list) c = (λ j m. keep i j (c.0 j m), chained_weaken R Q keep list c.1)

-- a chain without its middle is one
pub chained_middle : (R : ℕ → ℕ → Type 0) (before : List ℕ) (i : ℕ) (after : List ℕ) → Chained R (before ++ (i ∷ after)) →
    Chained R (before ++ after)
unfolding Chained
chained_middle R [] i after c = c.1
chained_middle R (j ∷ before) i after c =
    (λ k m. c.0 k (mem_wider before i after k m), chained_middle R before i after c.1)

-- each element of a list stands there before every later one
pub stands_chained : (todo : List ℕ) → Chained (λ (i j : ℕ). StandsBefore i j todo) todo
unfolding Chained StandsBefore
stands_chained [] = tt
stands_chained (i ∷ todo) = (
  λ j m. inl (refl, m),
  chained_weaken (λ (a b : ℕ). StandsBefore a b todo) (λ (a b : ℕ). StandsBefore a b (i ∷ todo)) (λ a b h. inr h) todo (stands_chained todo),
)

-- the first of the lowest of a list: those before it are higher, those after it no lower
record LowestSplit (f : ℕ → ℕ) (list : List ℕ) : Type 0 where
  before : List ℕ
  low : ℕ
  after : List ℕ
  split : list ≡ before ++ (low ∷ after)
  higher : (j : ℕ) → Memᴰ j before → f low < f j
  no_lower : (j : ℕ) → Memᴰ j after → f low ≤ f j

-- no element is below the first of the lowest
lowest_of : (f : ℕ → ℕ) (list : List ℕ) (w : LowestSplit f list) (j : ℕ) → Memᴰ j list → f w.low ≤ f j
lowest_of f list w j m =
    ⊎_elim
    (λ (n : Memᴰ j w.before). omega (arith, w.higher j n))
    (λ (n : Memᴰ j (w.low ∷ w.after)).
    ⊎_elim (λ (e : j ≡ w.low). rw e (omega arith)) (w.no_lower j) (Memᴰ.cases_cons n))
    (Memᴰ.append_cases w.before (rw w.split at m))

-- a list that is not empty has a first of the lowest
first_lowest : (f : ℕ → ℕ) (i : ℕ) (list : List ℕ) → LowestSplit f (i ∷ list)
first_lowest f i [] =
    record {
      before = [];
      low = i;
      after = [];
      split = refl;
      higher = λ j m. absurd (Memᴰ.not-nil m);
      no_lower = λ j m. absurd (Memᴰ.not-nil m);
    }
first_lowest f i (h ∷ list) = pick (first_lowest f h list)
  where
    pick : LowestSplit f (h ∷ list) → LowestSplit f (i ∷ h ∷ list)
    pick w =
        by_test (leb (f i) (f w.low))
        (λ l.
        record {
          before = [];
          low = i;
          after = h ∷ list;
          split = refl;
          higher = λ j m. absurd (Memᴰ.not-nil m);
          no_lower = λ j m. omega (arith, leb-true (f i) (f w.low) l, lowest_of f (h ∷ list) w j m);
        })
        (λ g.
        record {
          before = i ∷ w.before;
          low = w.low;
          after = w.after;
          split = ap (λ (l : List ℕ). i ∷ l) w.split;
          higher = λ j m.
              ⊎_elim
              (λ (e : j ≡ i). rw e (leb-false (f i) (f w.low) g))
              (w.higher j)
              (Memᴰ.cases_cons m);
          no_lower = w.no_lower;
        })

-- the first of the lowest of a chain comes before every other: it is lower, or it is no higher and stands in the relation
lowest_first : (f : ℕ → ℕ) (R : ℕ → ℕ → Type 0) (list : List ℕ) (w : LowestSplit f list) → Chained R list →
    (j : ℕ) → Memᴰ j (w.before ++ w.after) → (f w.low < f j) ⊎ ((f w.low ≡ f j) × R w.low j)
lowest_first f R list w c j m =
    ⊎_elim
    (λ (n : Memᴰ j w.before). inl (w.higher j n))
    (λ (n : Memᴰ j w.after).
    by_test (leb (f j) (f w.low))
    (λ l.
    inr (
      omega (arith, leb-true (f j) (f w.low) l, w.no_lower j n),
      chained_split R w.before w.low w.after j (rw w.split at c) n,
    ))
    (λ g. inl (leb-false (f j) (f w.low) g)))
    (Memᴰ.append_cases w.before m)

-- a chain without its first of the lowest is one
without_lowest : (f : ℕ → ℕ) (R : ℕ → ℕ → Type 0) (list : List ℕ) (w : LowestSplit f list) → Chained R list →
    Chained R (w.before ++ w.after)
without_lowest f R list w c = chained_middle R w.before w.low w.after (rw w.split at c)

-- a list without its first of the lowest is one shorter
lowest_shorter : (f : ℕ → ℕ) (list : List ℕ) (w : LowestSplit f list) → length list ≡ suc (length (w.before ++ w.after))
lowest_shorter f list w =
    ap length w.split ∙ omega (arith, length-append w.before w.after, length-append w.before (w.low ∷ w.after))

-- a chain has an order by a number given to each element, in which elements of equal number keep the chain's relation
pub sorted : (f : ℕ → ℕ) (R : ℕ → ℕ → Type 0) (n : ℕ) (list : List ℕ) → length list ≡ n → Chained R list →
    (order : List ℕ) × Arrange order list × Chained (λ (i j : ℕ). (f i < f j) ⊎ ((f i ≡ f j) × R i j)) order
unfolding Arrange Chained
sorted f R zero [] e c = ([], refl, tt)
sorted f R zero (i ∷ list) e c = absurd (omega arith)
sorted f R (suc n) [] e c = absurd (omega arith)
sorted f R (suc n) (i ∷ list) e c =
    let w : LowestSplit f (i ∷ list) = first_lowest f i list in
    let rest : List ℕ = w.before ++ w.after in
    let (order, listed, chain) =
    sorted f R n rest (omega (arith, lowest_shorter f (i ∷ list) w)) (without_lowest f R (i ∷ list) w c) in (
      w.low ∷ order,
      (w.before, w.after, w.split, listed),
      (λ j m. lowest_first f R (i ∷ list) w c j (arrange_mem order rest listed j m), chain),
    )

-- every list has an order by start, demands of equal start as they stand in the list
pub by_start : (plan : ℕ → ℕ) (todo : List ℕ) → (order : List ℕ) × Arrange order todo × ByStart plan todo order
unfolding ByStart
by_start plan todo = sorted plan (λ (i j : ℕ). StandsBefore i j todo) (length todo) todo refl (stands_chained todo)

-- along an order by start the starts never fall
pub by_start_rises : (plan : ℕ → ℕ) (todo order : List ℕ) → ByStart plan todo order → NeverFalling plan order
unfolding ByStart NeverFalling
by_start_rises plan todo order c =
    chained_weaken (λ (i j : ℕ). (plan i < plan j) ⊎ ((plan i ≡ plan j) × StandsBefore i j todo)) (λ (i j : ℕ). plan i ≤ plan j)
    (λ i j h. ⊎_elim (λ lower. omega arith) (λ same. omega arith) h) order c
