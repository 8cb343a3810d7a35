-- Chains, who stands before whom, and which of two orders comes first.
use Rattle.std.specs.Prelude.{ℕ, ◌<◌, ◌≡◌, refl}
use mathlib.Core.List.Memᴰ
use mathlib.Core.List.{
  List,
  [],
  ◌∷◌,
  ◌++◌,
  map,
  Memᴰ,
}
use Rattle.std.proofs.Common.{inl, inr, ⊎_elim, sym, subst, arith}
use Rattle.theory.specs.Earlier.{StandsBefore, Earlier, Lower, Chained, NoRepeats, Rising}

-- a chain followed by a chain is one, if each element of the first stands in the relation to each of the second
pub chained_append : {A : Type 0} (R : A → A → Type 0) (xs ys : List A) → Chained R xs → Chained R ys →
    ((x y : A) → Memᴰ x xs → Memᴰ y ys → R x y) → Chained R (xs ++ ys)
unfolding Chained
chained_append R [] ys cx cy across = cy
chained_append {A} R (x ∷ xs) ys cx cy across = (
  λ (y : A) (m : Memᴰ y (xs ++ ys)).
      ⊎_elim
      (λ (h : Memᴰ y xs). cx.0 y h)
      (λ (h : Memᴰ y ys). across x y (Memᴰ.head refl) h)
      (Memᴰ.append_cases xs m),
  chained_append R xs ys cx.1 cy (λ (u v : A) mu mv. across u v (Memᴰ.tail mu) mv),
)

-- a chain is a chain again after a map that keeps the relation
pub chained_map : {A : Type 0} (R Q : A → A → Type 0) (f : A → A) → ((x y : A) → R x y → Q (f x) (f y)) →
    (xs : List A) → Chained R xs → Chained Q (map f xs)
unfolding Chained
chained_map R Q f keep [] c = tt
chained_map {A} R Q f keep (x ∷ xs) c = (
  λ (y : A) (m : Memᴰ y (map f xs)).
      let w = Memᴰ.of_map f xs m in subst (λ (z : A). Q (f x) z) w.2 (keep x w.0 (c.0 w.0 w.1)),
  chained_map R Q f keep xs c.1,
)

-- in a chain, what stands earlier stands in the relation to what stands later
pub chained_split : {A : Type 0} (R : A → A → Type 0) (xs : List A) (x : A) (ys : List A) (y : A) →
    Chained R (xs ++ (x ∷ ys)) → Memᴰ y ys → R x y
unfolding Chained
chained_split R [] x ys y c m = c.0 y m
chained_split R (z ∷ xs) x ys y c m = chained_split R xs x ys y c.1 m

-- one more element in the list changes nothing of who stands before whom
stands_more : (i j k : ℕ) (before after : List ℕ) → StandsBefore i j (before ++ after) → StandsBefore i j (before ++ (k ∷ after))
unfolding StandsBefore
stands_more i j k [] after h = inr h
stands_more i j k (b ∷ before) after h =
    ⊎_elim
    (λ (e : (i ≡ b) × Memᴰ j (before ++ after)).
    inl (
      e.0,
      ⊎_elim
          (λ (m : Memᴰ j before). Memᴰ.append_left (k ∷ after) m)
          (λ (m : Memᴰ j after). Memᴰ.append_right before (Memᴰ.tail m))
          (Memᴰ.append_cases before e.1),
    ))
    (λ (e : StandsBefore i j (before ++ after)). inr (stands_more i j k before after e))
    h

-- one more element in the list changes nothing of which order comes first
pub earlier_more : (o other : List ℕ) (k : ℕ) (before after : List ℕ) → Earlier (before ++ after) o other →
    Earlier (before ++ (k ∷ after)) o other
unfolding Earlier StandsBefore
earlier_more [] other k before after h = h
earlier_more (i ∷ o) [] k before after h = h
earlier_more (i ∷ o) (j ∷ other) k before after h =
    ⊎_elim
    (λ (e : StandsBefore i j (before ++ after)). inl (stands_more i j k before after e))
    (λ (e : (i ≡ j) × Earlier (before ++ after) o other). inr (e.0, earlier_more o other k before after e.1))
    h

-- an element stands before each that comes after it
pub stands_here : (i j : ℕ) (before after : List ℕ) → Memᴰ j after → StandsBefore i j (before ++ (i ∷ after))
unfolding StandsBefore
stands_here i j [] after m = inl (refl, m)
stands_here i j (b ∷ before) after m = inr (stands_here i j before after m)

-- in a list without repeats, no element stands before itself
stands_differ : (todo : List ℕ) → NoRepeats todo → (i : ℕ) → StandsBefore i i todo → ⊥
unfolding NoRepeats Chained StandsBefore
stands_differ [] c i h = h
stands_differ (k ∷ todo) c i h =
    ⊎_elim
    (λ (e : (i ≡ k) × Memᴰ i todo). c.0 i e.1 (sym e.0))
    (λ (e : StandsBefore i i todo). stands_differ todo c.1 i e)
    h

-- of a list without repeats, no order is earlier than itself
pub earlier_irreflexive : (todo : List ℕ) → NoRepeats todo → (o : List ℕ) → Earlier todo o o → ⊥
unfolding Earlier
earlier_irreflexive todo c [] h = h
earlier_irreflexive todo c (i ∷ o) h =
    ⊎_elim
    (λ (e : StandsBefore i i todo). stands_differ todo c i e)
    (λ (e : (i ≡ i) × Earlier todo o o). earlier_irreflexive todo c o e.1)
    h

-- what stands before another and that other are both in the list
stands_mem : (todo : List ℕ) (i j : ℕ) → StandsBefore i j todo → Memᴰ i todo × Memᴰ j todo
unfolding StandsBefore
stands_mem [] i j h = absurd h
stands_mem (k ∷ todo) i j h =
    ⊎_elim
    (λ (e : (i ≡ k) × Memᴰ j todo). (Memᴰ.head e.0, Memᴰ.tail e.1))
    (λ (e : StandsBefore i j todo).
    let m = stands_mem todo i j e in (Memᴰ.tail m.0, Memᴰ.tail m.1))
    h

-- in a list without repeats, of two elements only one stands before the other
stands_one_way : (todo : List ℕ) → NoRepeats todo → (i j : ℕ) → StandsBefore i j todo → StandsBefore j i todo → ⊥
unfolding NoRepeats Chained StandsBefore
stands_one_way [] c i j h back = h
stands_one_way (k ∷ todo) c i j h back =
    ⊎_elim
    (λ (e : (i ≡ k) × Memᴰ j todo).
    ⊎_elim
    (λ (f : (j ≡ k) × Memᴰ i todo). c.0 i f.1 (sym e.0))
    (λ (f : StandsBefore j i todo). c.0 i (stands_mem todo j i f).1 (sym e.0))
    back)
    (λ (e : StandsBefore i j todo).
    ⊎_elim
    (λ (f : (j ≡ k) × Memᴰ i todo). c.0 j (stands_mem todo i j e).1 (sym f.0))
    (λ (f : StandsBefore j i todo). stands_one_way todo c.1 i j e f)
    back)
    h

-- of a list without repeats, of two orders only one is earlier than the other
pub earlier_one_way : (todo : List ℕ) → NoRepeats todo → (o other : List ℕ) → Earlier todo o other → Earlier todo other o → ⊥
unfolding Earlier
earlier_one_way todo c [] other h back = h
earlier_one_way todo c (i ∷ o) [] h back = h
earlier_one_way todo c (i ∷ o) (j ∷ other) h back =
    ⊎_elim
    (λ (e : StandsBefore i j todo).
    ⊎_elim
    (λ (f : StandsBefore j i todo). stands_one_way todo c i j e f)
    (λ (f : (j ≡ i) × Earlier todo other o).
    stands_differ todo c i (subst (λ (k : ℕ). StandsBefore i k todo) f.0 e))
    back)
    (λ (e : (i ≡ j) × Earlier todo o other).
    ⊎_elim
    (λ (f : StandsBefore j i todo). stands_differ todo c i (subst (λ (k : ℕ). StandsBefore k i todo) (sym e.0) f))
    (λ (f : (j ≡ i) × Earlier todo other o). earlier_one_way todo c o other e.1 f.1)
    back)
    h

-- a rising list has no repeats
pub rising_no_repeats : (todo : List ℕ) → Rising todo → NoRepeats todo
unfolding Rising NoRepeats Chained
rising_no_repeats [] c = tt
rising_no_repeats (i ∷ todo) c = (λ (j : ℕ) m e. omega (arith, c.0 j m), rising_no_repeats todo c.1)

-- in a rising list, what stands before is lower
stands_lower : (todo : List ℕ) → Rising todo → (i j : ℕ) → StandsBefore i j todo → i < j
unfolding Rising Chained StandsBefore
stands_lower [] c i j h = absurd h
stands_lower (k ∷ todo) c i j h =
    ⊎_elim
    (λ (e : (i ≡ k) × Memᴰ j todo). subst (λ (n : ℕ). n < j) (sym e.0) (c.0 j e.1))
    (λ (e : StandsBefore i j todo). stands_lower todo c.1 i j e)
    h

-- of a rising list, the earlier order has the lower number at the first difference
pub earlier_lower : (todo : List ℕ) → Rising todo → (o other : List ℕ) → Earlier todo o other → Lower o other
unfolding Earlier Lower
earlier_lower todo c [] other h = h
earlier_lower todo c (i ∷ o) [] h = h
earlier_lower todo c (i ∷ o) (j ∷ other) h =
    ⊎_elim
    (λ (e : StandsBefore i j todo). inl (stands_lower todo c i j e))
    (λ (e : (i ≡ j) × Earlier todo o other). inr (e.0, earlier_lower todo c o other e.1))
    h

-- in a rising list, the lower of two elements stands before the other
lower_stands : (todo : List ℕ) → Rising todo → (i j : ℕ) → Memᴰ i todo → Memᴰ j todo → i < j → StandsBefore i j todo
unfolding Rising Chained StandsBefore
lower_stands [] c i j mi mj h = absurd (Memᴰ.not-nil mi)
lower_stands (k ∷ todo) c i j mi mj h =
    ⊎_elim
    (λ (ei : i ≡ k).
    ⊎_elim
    (λ (ej : j ≡ k). absurd (omega arith))
    (λ (nj : Memᴰ j todo). inl (ei, nj))
    (Memᴰ.cases_cons mj))
    (λ (ni : Memᴰ i todo).
    ⊎_elim
    (λ (ej : j ≡ k). absurd (omega (arith, c.0 i ni)))
    (λ (nj : Memᴰ j todo). inr (lower_stands todo c.1 i j ni nj h))
    (Memᴰ.cases_cons mj))
    (Memᴰ.cases_cons mi)

-- of a rising list, an order with the lower number at the first difference is the earlier one
pub lower_earlier : (todo : List ℕ) → Rising todo → (o other : List ℕ) → ((i : ℕ) → Memᴰ i o → Memᴰ i todo) →
    ((i : ℕ) → Memᴰ i other → Memᴰ i todo) → Lower o other → Earlier todo o other
unfolding Earlier Lower
lower_earlier todo c [] other from from₂ h = h
lower_earlier todo c (i ∷ o) [] from from₂ h = h
lower_earlier todo c (i ∷ o) (j ∷ other) from from₂ h =
    ⊎_elim
    (λ (e : i < j). inl (lower_stands todo c i j (from i (Memᴰ.head refl)) (from₂ j (Memᴰ.head refl)) e))
    (λ (e : (i ≡ j) × Lower o other).
    inr (
      e.0,
      lower_earlier todo c o other (λ k m. from k (Memᴰ.tail m)) (λ k m. from₂ k (Memᴰ.tail m)) e.1,
    ))
    h
