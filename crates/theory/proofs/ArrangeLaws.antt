-- What an order of a list shares with the list, and how a list is known to be an order of another.
use Rattle.std.specs.Prelude.{ℕ, ◌⊎◌, ◌≡◌, refl, length}
use mathlib.Core.List.{List, [], ◌∷◌, ◌++◌, Memᴰ}
use Rattle.std.proofs.Common.{inl, inr, ⊎_elim, sym, ap, arith, length-append}
use Rattle.theory.specs.Arrange.{Arrange}
use Rattle.theory.specs.Earlier.{NoRepeats}

-- an element of a list stands between what is before it and what is after it
pub mem_split : (list : List ℕ) (i : ℕ) → Memᴰ i list →
    (before : List ℕ) × (after : List ℕ) × (list ≡ before ++ (i ∷ after))
mem_split [] i m = absurd (mathlib.Core.List.Memᴰ.not-nil m)
mem_split (j ∷ list) i m =
    ⊎_elim
    (λ (e : i ≡ j). ([], list, ap (λ (k : ℕ). k ∷ list) (sym e)))
    (λ (n : Memᴰ i list). let s = mem_split list i n in (j ∷ s.0, s.1, ap (λ (l : List ℕ). j ∷ l) s.2))
    (mathlib.Core.List.Memᴰ.cases_cons m)

-- an element in the middle of a list is in the list
pub mem_middle : (before : List ℕ) (i : ℕ) (after : List ℕ) → Memᴰ i (before ++ (i ∷ after))
mem_middle before i after = mathlib.Core.List.Memᴰ.append_right before (mathlib.Core.List.Memᴰ.head refl)

-- taking one element more into the middle of a list loses none
pub mem_wider : (before : List ℕ) (i : ℕ) (after : List ℕ) (j : ℕ) → Memᴰ j (before ++ after) →
    Memᴰ j (before ++ (i ∷ after))
mem_wider before i after j m =
    ⊎_elim
    (λ n. mathlib.Core.List.Memᴰ.append_left (i ∷ after) n)
    (λ n. mathlib.Core.List.Memᴰ.append_right before (mathlib.Core.List.Memᴰ.tail n))
    (mathlib.Core.List.Memᴰ.append_cases before m)

-- an element of a list is the one in the middle or one of the others
pub mem_cases : (before : List ℕ) (i : ℕ) (after : List ℕ) (j : ℕ) → Memᴰ j (before ++ (i ∷ after)) →
    (j ≡ i) ⊎ Memᴰ j (before ++ after)
mem_cases before i after j m =
    ⊎_elim
    (λ (n : Memᴰ j before). inr (mathlib.Core.List.Memᴰ.append_left after n))
    (λ (n : Memᴰ j (i ∷ after)). ⊎_elim (λ e. inl e) (λ k. inr (mathlib.Core.List.Memᴰ.append_right before k)) (mathlib.Core.List.Memᴰ.cases_cons n))
    (mathlib.Core.List.Memᴰ.append_cases before m)

-- an element of an order is in the list
pub arrange_mem : (order todo : List ℕ) → Arrange order todo → (j : ℕ) → Memᴰ j order → Memᴰ j todo
unfolding Arrange
arrange_mem [] todo a j m = absurd (mathlib.Core.List.Memᴰ.not-nil m)
arrange_mem (i ∷ order) todo a j m =
    rw a.2
    (⊎_elim
    (λ (e : j ≡ i). mathlib.Core.List.Memᴰ.cast e (mem_middle a.0 i a.1))
    (λ (n : Memᴰ j order). mem_wider a.0 i a.1 j (arrange_mem order (a.0 ++ a.1) a.3 j n))
    (mathlib.Core.List.Memᴰ.cases_cons m))

-- an element of the list is in each of its orders
pub arrange_back : (order todo : List ℕ) → Arrange order todo → (j : ℕ) → Memᴰ j todo → Memᴰ j order
unfolding Arrange
arrange_back [] todo a j m = absurd (mathlib.Core.List.Memᴰ.not-nil (rw a at m))
arrange_back (i ∷ order) todo a j m =
    ⊎_elim
    (λ (e : j ≡ i). mathlib.Core.List.Memᴰ.head e)
    (λ (n : Memᴰ j (a.0 ++ a.1)). mathlib.Core.List.Memᴰ.tail (arrange_back order (a.0 ++ a.1) a.3 j n))
    (mem_cases a.0 i a.1 j (rw a.2 at m))

-- an order is as long as the list
pub arrange_length : (order todo : List ℕ) → Arrange order todo → length order ≡ length todo
unfolding Arrange
arrange_length [] todo a = rw a
arrange_length (i ∷ order) todo a =
    rw a.2
    (omega (arith, arrange_length order (a.0 ++ a.1) a.3, length-append a.0 a.1, length-append a.0 (i ∷ a.1)))

-- the first of a list in which nothing stands twice does not come again
pub no_repeats_first : (i : ℕ) (list : List ℕ) → NoRepeats (i ∷ list) → Memᴰ i list → ⊥
unfolding NoRepeats
no_repeats_first i list n m = n.0 i m refl

-- nothing stands twice after the first of a list in which nothing stands twice
pub no_repeats_rest : (i : ℕ) (list : List ℕ) → NoRepeats (i ∷ list) → NoRepeats list
unfolding NoRepeats
no_repeats_rest i list n = n.1

-- nothing stands twice in a list with one more in front that is new
pub no_repeats_with : (i : ℕ) (list : List ℕ) → (Memᴰ i list → ⊥) → NoRepeats list → NoRepeats (i ∷ list)
unfolding NoRepeats
no_repeats_with i list h n = (λ j m e. h (mathlib.Core.List.Memᴰ.cast e m), n)

-- nothing stands twice in a list without its middle when nothing does with it, and the middle is none of the others
pub no_repeats_middle : (before : List ℕ) (i : ℕ) (after : List ℕ) → NoRepeats (before ++ (i ∷ after)) →
    (Memᴰ i (before ++ after) → ⊥) × NoRepeats (before ++ after)
no_repeats_middle [] i after n = (no_repeats_first i after n, no_repeats_rest i after n)
no_repeats_middle (j ∷ before) i after n =
    let rest = no_repeats_middle before i after (no_repeats_rest j (before ++ (i ∷ after)) n) in
    let new = no_repeats_first j (before ++ (i ∷ after)) n in (
      λ m.
          ⊎_elim (λ (e : i ≡ j). new (mathlib.Core.List.Memᴰ.cast (sym e) (mem_middle before i after))) rest.0 (mathlib.Core.List.Memᴰ.cases_cons m),
      no_repeats_with j (before ++ after) (λ m. new (mem_wider before i after j m)) rest.1,
    )

-- nothing stands twice in an order of a list in which nothing does
pub arrange_no_repeats : (order todo : List ℕ) → Arrange order todo → NoRepeats todo → NoRepeats order
unfolding Arrange NoRepeats
arrange_no_repeats [] todo a n = tt
arrange_no_repeats (i ∷ order) todo a n =
    let rest = no_repeats_middle a.0 i a.1 (rw a.2 at n) in
    no_repeats_with i order (λ m. rest.0 (arrange_mem order (a.0 ++ a.1) a.3 i m))
    (arrange_no_repeats order (a.0 ++ a.1) a.3 rest.1)

-- as many elements of a list as it has, none twice, are an order of it
pub arrange_from : (order todo : List ℕ) → NoRepeats order → length order ≡ length todo →
    ((j : ℕ) → Memᴰ j order → Memᴰ j todo) → Arrange order todo
unfolding Arrange
arrange_from [] [] n e h = refl
arrange_from [] (i ∷ todo) n e h = absurd (omega arith)
arrange_from (i ∷ order) todo n e h =
    let (before, after, split) = mem_split todo i (h i (mathlib.Core.List.Memᴰ.head refl)) in
    let longer : length todo ≡ length (before ++ (i ∷ after)) = ap length split in (
      before,
      after,
      split,
      arrange_from order (before ++ after) (no_repeats_rest i order n)
          (omega (arith, length-append before after, length-append before (i ∷ after)))
          (λ j m.
          ⊎_elim
          (λ (e : j ≡ i). absurd (no_repeats_first i order n (mathlib.Core.List.Memᴰ.cast (sym e) m)))
          (λ k. k)
          (mem_cases before i after j (rw split at (h j (mathlib.Core.List.Memᴰ.tail m))))),
    )
