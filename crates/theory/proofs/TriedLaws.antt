-- Orders tried one after the other leave the first of the lowest in the lead.
use Rattle.std.specs.Prelude.{ℕ, ◌≤◌, ◌<◌, Bool, cond, ◌⊎◌, ◌≡◌, ltb, eqb}
use mathlib.Core.List.Memᴰ
use mathlib.Core.List.{List, [], ◌∷◌, ◌++◌, map, Memᴰ, append_assoc}
use Rattle.std.proofs.Common.{inl, inr, sym, ◌∙◌, arith, ltb-true, ltb-false, lt-ltb, le-ltb, eqb-true}
use Rattle.std.proofs.Math.Logic.{⊎_elim}
use Rattle.std.proofs.Math.Path.{refl, ap, subst}
use Rattle.std.proofs.lemmas.Bool.{eqb-false}
use Rattle.theory.specs.Problem.{Problem, Row, place, fill, top}
use Rattle.theory.proofs.TestLaws.{by_test}
use Rattle.theory.proofs.ProblemLaws.{top_fill}
use Rattle.theory.specs.Walk.{met}
use Rattle.theory.specs.inner.Tried.{Lead, ends_at, lead_by, try, Leads, unbeaten, taken}

-- a number is below another or not
pub below_or_not : (a b : ℕ) → (a < b) ⊎ (b ≤ a)
below_or_not a b = by_test (ltb a b) (λ e. inl (ltb-true a b e)) (λ e. inr (ltb-false a b e))

-- a number equals another or not
pub equal_or_not : (a b : ℕ) → (a ≡ b) ⊎ (a ≡ b → ⊥)
equal_or_not a b = by_test (eqb a b) (λ e. inl (eqb-true a b e)) (λ e. inr (eqb-false a b e))

module _ (P : Problem) where
  -- no order ends below the rows that stand
  pub ends_above_rows : (rows : List Row) (order : List ℕ) → top P rows ≤ ends_at P (fill P rows) order
  unfolding ends_at
  ends_above_rows rows order = top_fill P rows order

  -- an order below the mark takes the lead
  pub try_better : (reach : List ℕ → List Row) (path o : List ℕ) (os : List (List ℕ)) (l : Lead) → ends_at P reach o < l.mark →
      try P reach path (o ∷ os) l ≡ try P reach path os (lead_by P reach path o)
  unfolding try
  try_better reach path o os l h =
      ap (λ (b : Bool). try P reach path os (cond b (lead_by P reach path o) l)) (lt-ltb (ends_at P reach o) l.mark h)

  -- an order not below the mark changes nothing
  pub try_equalled : (reach : List ℕ → List Row) (path o : List ℕ) (os : List (List ℕ)) (l : Lead) → l.mark ≤ ends_at P reach o →
      try P reach path (o ∷ os) l ≡ try P reach path os l
  unfolding try
  try_equalled reach path o os l h =
      ap (λ (b : Bool). try P reach path os (cond b (lead_by P reach path o) l)) (le-ltb (ends_at P reach o) l.mark h)

  -- trying two lists of orders is trying the one, then the other
  pub try_append : (reach : List ℕ → List Row) (path : List ℕ) (xs ys : List (List ℕ)) (l : Lead) →
      try P reach path (xs ++ ys) l ≡ try P reach path ys (try P reach path xs l)
  unfolding try
  try_append reach path [] ys l = refl
  try_append reach path (o ∷ xs) ys l =
      try_append reach path xs ys (cond (ltb (ends_at P reach o) l.mark) (lead_by P reach path o) l)

  -- trying orders that begin with i is trying what follows, with i placed
  pub try_map : (rows : List Row) (path : List ℕ) (i : ℕ) (os : List (List ℕ)) (l : Lead) →
      try P (fill P rows) path (map (λ (o : List ℕ). i ∷ o) os) l ≡ try P (fill P (place P rows i)) (path ++ (i ∷ [])) os l
  unfolding try ends_at lead_by fill
  try_map rows path i [] l = refl
  try_map rows path i (o ∷ os) l =
      try_map rows path i os (cond (ltb (ends_at P (fill P rows) (i ∷ o)) l.mark) (lead_by P (fill P rows) path (i ∷ o)) l)
      ∙ ap
      (λ (order : List ℕ).
      try P (fill P (place P rows i)) (path ++ (i ∷ [])) os
      (cond
      (ltb (ends_at P (fill P (place P rows i)) o) l.mark)
      (record { mark = ends_at P (fill P (place P rows i)) o; best = met (fill P (place P rows i) o) order })
      l))
      (sym (append_assoc path (i ∷ []) o))

  -- orders none of which ends below the mark change nothing
  pub try_none : (reach : List ℕ → List Row) (path : List ℕ) (os : List (List ℕ)) (l : Lead) →
      ((o : List ℕ) → Memᴰ o os → l.mark ≤ ends_at P reach o) → try P reach path os l ≡ l
  unfolding try
  try_none reach path [] l h = refl
  try_none reach path (o ∷ os) l h =
      try_equalled reach path o os l (h o (Memᴰ.head refl))
      ∙ try_none reach path os l (λ (x : List ℕ) m. h x (Memᴰ.tail m))

  -- what holds of the head and of each in the tail holds of each
  each_cons : (Q : List ℕ → Type 0) (o : List ℕ) (os : List (List ℕ)) → Q o → ((x : List ℕ) → Memᴰ x os → Q x) →
      (x : List ℕ) → Memᴰ x (o ∷ os) → Q x
  each_cons Q o os here there x m =
      ⊎_elim
      (λ (e : x ≡ o). subst Q (sym e) here)
      (λ (n : Memᴰ x os). there x n)
      (Memᴰ.cases_cons m)

  -- the lead after an order below the mark and then others
  better_first : (reach : List ℕ → List Row) (path o : List ℕ) (os : List (List ℕ)) (l after : Lead) → ends_at P reach o < l.mark →
      Leads P reach path os (lead_by P reach path o) after → Leads P reach path (o ∷ os) l after
  unfolding lead_by
  better_first reach path o os l after below (unbeaten none_lower same) =
      taken
      o
      (record {
        earlier = [];
        later = os;
        stands = refl;
        below_mark = below;
        earlier_higher = λ (x : List ℕ) m. absurd (Memᴰ.not-nil m);
        later_no_lower = none_lower;
      })
      same
  better_first reach path o os l after below (taken x lowest same) =
      taken
      x
      (record {
        earlier = o ∷ lowest.earlier;
        later = lowest.later;
        stands = ap (λ (t : List (List ℕ)). o ∷ t) lowest.stands;
        below_mark = omega (arith, lowest.below_mark);
        earlier_higher =
            each_cons
            (λ (y : List ℕ). ends_at P reach x < ends_at P reach y)
            o
            lowest.earlier
            lowest.below_mark
            lowest.earlier_higher;
        later_no_lower = lowest.later_no_lower;
      })
      same

  -- the lead after an order not below the mark and then others
  equalled_first : (reach : List ℕ → List Row) (path o : List ℕ) (os : List (List ℕ)) (l after : Lead) → l.mark ≤ ends_at P reach o →
      Leads P reach path os l after → Leads P reach path (o ∷ os) l after
  equalled_first reach path o os l after not-below (unbeaten none_lower same) =
      unbeaten (each_cons (λ (y : List ℕ). l.mark ≤ ends_at P reach y) o os not-below none_lower) same
  equalled_first reach path o os l after not-below (taken x lowest same) =
      taken
      x
      (record {
        earlier = o ∷ lowest.earlier;
        later = lowest.later;
        stands = ap (λ (t : List (List ℕ)). o ∷ t) lowest.stands;
        below_mark = lowest.below_mark;
        earlier_higher =
            each_cons
            (λ (y : List ℕ). ends_at P reach x < ends_at P reach y)
            o
            lowest.earlier
            (omega (arith, lowest.below_mark))
            lowest.earlier_higher;
        later_no_lower = lowest.later_no_lower;
      })
      same

  -- after a list of orders the lead is as it was, and none of them ends below the mark; or it is that of the first of the lowest
  pub try_leads : (reach : List ℕ → List Row) (path : List ℕ) (os : List (List ℕ)) (l : Lead) →
      Leads P reach path os l (try P reach path os l)
  unfolding try
  try_leads reach path [] l = unbeaten (λ (o : List ℕ) m. absurd (Memᴰ.not-nil m)) refl
  try_leads reach path (o ∷ os) l =
      ⊎_elim
      (λ (below : ends_at P reach o < l.mark).
      subst
      (Leads P reach path (o ∷ os) l)
      (sym (try_better reach path o os l below))
      (better_first reach path o os l (try P reach path os (lead_by P reach path o)) below (try_leads reach path os (lead_by P reach path o))))
      (λ (not-below : l.mark ≤ ends_at P reach o).
      subst
      (Leads P reach path (o ∷ os) l)
      (sym (try_equalled reach path o os l not-below))
      (equalled_first reach path o os l (try P reach path os l) not-below (try_leads reach path os l)))
      (below_or_not (ends_at P reach o) l.mark)

  -- the mark only falls
  pub leads_mark : (reach : List ℕ → List Row) (path : List ℕ) (os : List (List ℕ)) (l after : Lead) →
      Leads P reach path os l after → after.mark ≤ l.mark
  unfolding lead_by
  leads_mark reach path os l after (unbeaten none_lower same) = omega (arith, ap (λ (k : Lead). k.mark) same)
  leads_mark reach path os l after (taken o lowest same) =
      omega (arith, lowest.below_mark, ap (λ (k : Lead). k.mark) same)

  -- no order tried ends below the mark that they leave
  pub leads_least : (reach : List ℕ → List Row) (path : List ℕ) (os : List (List ℕ)) (l after : Lead) →
      Leads P reach path os l after → (o : List ℕ) → Memᴰ o os → after.mark ≤ ends_at P reach o
  unfolding lead_by
  leads_least reach path os l after (unbeaten none_lower same) o m =
      omega (arith, ap (λ (k : Lead). k.mark) same, none_lower o m)
  leads_least reach path os l after (taken x lowest same) o m =
      let mark_is : after.mark ≡ ends_at P reach x = ap (λ (k : Lead). k.mark) same in
      ⊎_elim
      (λ (e : Memᴰ o lowest.earlier). omega (arith, lowest.earlier_higher o e))
      (λ (e : Memᴰ o (x ∷ lowest.later)).
      ⊎_elim
      (λ (q : o ≡ x). omega (arith, ap (ends_at P reach) q))
      (λ (q : Memᴰ o lowest.later). omega (arith, lowest.later_no_lower o q))
      (Memᴰ.cases_cons e))
      (Memᴰ.append_cases lowest.earlier (subst (Memᴰ o) lowest.stands m))
