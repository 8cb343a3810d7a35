-- The orders of a list are its n! orders, each of them once, the earlier ones first.
use Rattle.std.specs.Prelude.{ℕ, zero, suc, ◌+◌, ◌*◌, ◌<◌, ◌≡◌, refl, length}
use mathlib.Core.List.Memᴰ
use mathlib.Core.List.{
  List,
  [],
  ◌∷◌,
  ◌++◌,
  map,
  Memᴰ,
  append_assoc,
  head-eq_of_cons-eq,
  tail-eq_of_cons-eq,
}
use Rattle.std.proofs.Common.{inl, inr, ⊎_elim, sym, ◌∙◌, ap, subst, arith, zero-mul, suc-mul, length-append}
use Rattle.std.proofs.lemmas.List.{length-map}
use Rattle.theory.specs.Arrange.{Arrange}
use Rattle.theory.specs.Orders.{factorial, spread, orders_of, orders}
use Rattle.theory.specs.Earlier.{Earlier, Chained, NoRepeats}
use Rattle.theory.proofs.EarlierLaws.{
  chained_append,
  chained_map,
  chained_split,
  earlier_more,
  stands_here,
  earlier_irreflexive,
  earlier_one_way,
}

-- a factorial is never 0
pub factorial_pos : (n : ℕ) → 0 < factorial n
unfolding factorial
factorial_pos zero = omega arith
factorial_pos (suc n) = omega (arith, suc-mul n (factorial n), factorial_pos n)

-- if each list of n has the same number of orders, each element that goes first brings that many
spread_length : (others : List ℕ → List (List ℕ)) (n f : ℕ) → ((l : List ℕ) → length l ≡ n → length (others l) ≡ f) →
    (before after : List ℕ) → length before + length after ≡ suc n → length (spread others before after) ≡ length after * f
unfolding spread
spread_length others n f each before [] h = sym (zero-mul f)
spread_length others n f each before (i ∷ after) h =
    let here : length (others (before ++ after)) ≡ f = each (before ++ after) (simp length-append (omega arith)) in
    let there : length (spread others (before ++ (i ∷ [])) after) ≡ length after * f
    = spread_length others n f each (before ++ (i ∷ [])) after (simp length-append (omega arith)) in
    simp (length-append, length-map) (omega (arith, suc-mul (length after) f))

-- a list of n has n! orders
pub orders_of-length : (n : ℕ) (todo : List ℕ) → length todo ≡ n → length (orders_of n todo) ≡ factorial n
unfolding orders_of factorial
orders_of-length zero todo h = refl
orders_of-length (suc n) todo h =
    spread_length (orders_of n) n (factorial n) (orders_of-length n) [] todo (omega arith) ∙ ap (λ (k : ℕ). k * factorial n) h

-- there are as many orders of a list as the factorial of its length
pub orders_length : (todo : List ℕ) → length (orders todo) ≡ factorial (length todo)
unfolding orders
orders_length todo = orders_of-length (length todo) todo refl

-- the factorial of n + 1 is n + 1 times that of n
pub factorial_suc : (n : ℕ) → factorial (suc n) ≡ suc n * factorial n
unfolding factorial
factorial_suc n = refl

-- what is spread begins with an element of the second list and goes on with an order of all the others
spread_listed : (others : List ℕ → List (List ℕ)) (before after o : List ℕ) → Memᴰ o (spread others before after) →
    (i : ℕ) × (rest : List ℕ) × (b : List ℕ) × (a : List ℕ) × (o ≡ i ∷ rest) × (before ++ after ≡ b ++ (i ∷ a)) ×
    Memᴰ i after × Memᴰ rest (others (b ++ a))
unfolding spread
spread_listed others before [] o m = absurd (Memᴰ.not-nil m)
spread_listed others before (i ∷ after) o m =
    ⊎_elim
    (λ (h : Memᴰ o (map (λ (r : List ℕ). i ∷ r) (others (before ++ after)))).
    let w = Memᴰ.of_map (λ (r : List ℕ). i ∷ r) (others (before ++ after)) h in
    (i, w.0, before, after, sym w.2, refl, Memᴰ.head refl, w.1))
    (λ (h : Memᴰ o (spread others (before ++ (i ∷ [])) after)).
    let w = spread_listed others (before ++ (i ∷ [])) after o h in
    (w.0, w.1, w.2, w.3, w.4, sym (append_assoc before (i ∷ []) after) ∙ w.5, Memᴰ.tail w.6, w.7))
    (Memᴰ.append_cases (map (λ (r : List ℕ). i ∷ r) (others (before ++ after))) m)

-- each of the orders of a list of n is an order of it
pub orders_of_arrange : (n : ℕ) (todo o : List ℕ) → length todo ≡ n → Memᴰ o (orders_of n todo) → Arrange o todo
unfolding orders_of Arrange
orders_of_arrange zero [] o h m = subst (λ (r : List ℕ). Arrange r []) (sym (Memᴰ.eq_of_singleton m)) refl
orders_of_arrange zero (i ∷ todo) o h m = absurd (omega arith)
orders_of_arrange (suc n) todo o h m =
    let w = spread_listed (orders_of n) [] todo o m in
    let shorter : length (w.2 ++ w.3) ≡ n
    = simp length-append (omega (arith, h, simp length-append at (ap length w.5))) in
    subst (λ (r : List ℕ). Arrange r todo) (sym w.4)
    (w.2, w.3, w.5, orders_of_arrange n (w.2 ++ w.3) w.1 shorter w.7)

-- each listed order is an order
pub orders_arrange : (todo o : List ℕ) → Memᴰ o (orders todo) → Arrange o todo
unfolding orders
orders_arrange todo o m = orders_of_arrange (length todo) todo o refl m

-- an element of the second list before an order of all the others is among what is spread
spread_lists : (others : List ℕ → List (List ℕ)) (before b a rest : List ℕ) (i : ℕ) →
    Memᴰ rest (others (before ++ (b ++ a))) → Memᴰ (i ∷ rest) (spread others before (b ++ (i ∷ a)))
unfolding spread
spread_lists others before [] a rest i m =
    Memᴰ.append_left (spread others (before ++ (i ∷ [])) a) (Memᴰ.map (λ (r : List ℕ). i ∷ r) m)
spread_lists others before (k ∷ b) a rest i m =
    let same : (before ++ (k ∷ [])) ++ (b ++ a) ≡ before ++ (k ∷ (b ++ a)) = append_assoc before (k ∷ []) (b ++ a) in
    Memᴰ.append_right (map (λ (r : List ℕ). k ∷ r) (others (before ++ (b ++ (i ∷ a)))))
    (spread_lists others (before ++ (k ∷ [])) b a rest i (subst (λ (l : List ℕ). Memᴰ rest (others l)) (sym same) m))

-- every order of a list of n is among its orders
pub arrange_orders_of : (n : ℕ) (todo o : List ℕ) → length todo ≡ n → Arrange o todo → Memᴰ o (orders_of n todo)
unfolding orders_of Arrange
arrange_orders_of zero todo [] h r = Memᴰ.head refl
arrange_orders_of zero todo (i ∷ o) h r =
    absurd (omega (arith, h, simp length-append at (ap length r.2)))
arrange_orders_of (suc n) todo [] h r = absurd (omega (arith, h, ap length r))
arrange_orders_of (suc n) todo (i ∷ o) h r =
    let shorter : length (r.0 ++ r.1) ≡ n = simp length-append (omega (arith, h, simp length-append at (ap length r.2))) in
    subst (λ (l : List ℕ). Memᴰ (i ∷ o) (spread (orders_of n) [] l)) (sym r.2)
    (spread_lists (orders_of n) [] r.0 r.1 o i (arrange_orders_of n (r.0 ++ r.1) o shorter r.3))

-- every order is listed
pub arrange_orders : (todo o : List ℕ) → Arrange o todo → Memᴰ o (orders todo)
unfolding orders
arrange_orders todo o r = arrange_orders_of (length todo) todo o refl r

-- of the orders spread, the earlier stands before the later, if that holds of the orders of all the others
spread_chained : (others : List ℕ → List (List ℕ)) → ((l : List ℕ) → Chained (Earlier l) (others l)) →
    (before after : List ℕ) → Chained (Earlier (before ++ after)) (spread others before after)
unfolding spread Chained Earlier
spread_chained others each before [] = tt
spread_chained others each before (i ∷ after) =
    let whole : List ℕ = before ++ (i ∷ after) in
    let later : Chained (Earlier whole) (spread others (before ++ (i ∷ [])) after)
    = subst
    (λ (l : List ℕ). Chained (Earlier l) (spread others (before ++ (i ∷ [])) after))
    (append_assoc before (i ∷ []) after)
    (spread_chained others each (before ++ (i ∷ [])) after) in
    chained_append
    (Earlier whole)
    (map (λ (r : List ℕ). i ∷ r) (others (before ++ after)))
    (spread others (before ++ (i ∷ [])) after)
    (chained_map
    (Earlier (before ++ after))
    (Earlier whole)
    (λ (r : List ℕ). i ∷ r)
    (λ (x y : List ℕ) h. inr (refl, earlier_more x y i before after h))
    (others (before ++ after))
    (each (before ++ after)))
    later
    (λ (x y : List ℕ) mx my.
    let u = Memᴰ.of_map (λ (r : List ℕ). i ∷ r) (others (before ++ after)) mx in
    let v = spread_listed others (before ++ (i ∷ [])) after y my in
    subst
    (λ (z : List ℕ). Earlier whole z y)
    u.2
    (subst (λ (z : List ℕ). Earlier whole (i ∷ u.0) z) (sym v.4) (inl (stands_here i v.0 before after v.6))))

-- the orders of a list of n are listed with the earlier before the later
pub orders_of_chained : (n : ℕ) (todo : List ℕ) → Chained (Earlier todo) (orders_of n todo)
unfolding orders_of Chained
orders_of_chained zero todo = (λ (y : List ℕ) m. absurd (Memᴰ.not-nil m), tt)
orders_of_chained (suc n) todo = spread_chained (orders_of n) (orders_of_chained n) [] todo

-- of two listed orders, the one listed first has at the first difference the element that stands earlier in the list
pub orders_earlier : (todo : List ℕ) (before after : List (List ℕ)) (o other : List ℕ) →
    orders todo ≡ before ++ (o ∷ after) → Memᴰ other after → Earlier todo o other
unfolding orders
orders_earlier todo before after o other split m =
    chained_split
    (Earlier todo)
    before
    o
    after
    other
    (subst (Chained (Earlier todo)) split (orders_of_chained (length todo) todo))
    m

-- of a list without repeats, no order is listed twice
pub orders_once : (todo : List ℕ) → NoRepeats todo → (before after : List (List ℕ)) (o : List ℕ) →
    orders todo ≡ before ++ (o ∷ after) → Memᴰ o after → ⊥
orders_once todo c before after o split m = earlier_irreflexive todo c o (orders_earlier todo before after o o split m)

-- of a list without repeats, an order earlier than a listed one is listed before it
pub earlier_listed_before : (todo : List ℕ) → NoRepeats todo → (before after : List (List ℕ)) (o other : List ℕ) →
    orders todo ≡ before ++ (o ∷ after) → Arrange other todo → Earlier todo other o → Memᴰ other before
earlier_listed_before todo c before after o other split listed h =
    ⊎_elim
    (λ (m : Memᴰ other before). m)
    (λ (m : Memᴰ other (o ∷ after)).
    ⊎_elim
    (λ (e : other ≡ o). absurd (earlier_irreflexive todo c o (subst (λ (x : List ℕ). Earlier todo x o) e h)))
    (λ (later : Memᴰ other after).
    absurd (earlier_one_way todo c other o h (orders_earlier todo before after o other split later)))
    (Memᴰ.cases_cons m))
    (Memᴰ.append_cases before (subst (Memᴰ other) split (arrange_orders todo other listed)))

-- two places of the same element in one list, neither with that element after it, are the same place
split_once : (before after before₂ after₂ : List (List ℕ)) (o : List ℕ) → before ++ (o ∷ after) ≡ before₂ ++ (o ∷ after₂) →
    (Memᴰ o after → ⊥) → (Memᴰ o after₂ → ⊥) → before ≡ before₂
split_once [] after [] after₂ o e n n₂ = refl
split_once [] after (x ∷ before₂) after₂ o e n n₂ =
    absurd (n (subst (Memᴰ o) (sym (tail-eq_of_cons-eq e)) (Memᴰ.append_right before₂ (Memᴰ.head refl))))
split_once (x ∷ before) after [] after₂ o e n n₂ =
    absurd (n₂ (subst (Memᴰ o) (tail-eq_of_cons-eq e) (Memᴰ.append_right before (Memᴰ.head refl))))
split_once (x ∷ before) after (y ∷ before₂) after₂ o e n n₂ =
    ap (λ (z : List ℕ). z ∷ before) (head-eq_of_cons-eq e)
    ∙ ap (λ (l : List (List ℕ)). y ∷ l) (split_once before after before₂ after₂ o (tail-eq_of_cons-eq e) n n₂)

-- of a list without repeats, an order has one rank: the orders listed before it are the same wherever it is found
pub orders_rank : (todo : List ℕ) → NoRepeats todo → (before after before₂ after₂ : List (List ℕ)) (o : List ℕ) →
    orders todo ≡ before ++ (o ∷ after) → orders todo ≡ before₂ ++ (o ∷ after₂) → before ≡ before₂
orders_rank todo c before after before₂ after₂ o split split₂ =
    split_once
    before
    after
    before₂
    after₂
    o
    (sym split ∙ split₂)
    (orders_once todo c before after o split)
    (orders_once todo c before₂ after₂ o split₂)
