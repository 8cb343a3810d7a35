-- Each demand a group of its own: the best group order is the search's.
use Rattle.std.specs.Prelude.{ℕ, ◌≤◌, ◌<◌, true, ◌≡◌, refl}
use Rattle.std.proofs.lemmas.Bool.{false≢true}
use mathlib.Core.List.Memᴰ
use mathlib.Core.List.{List, [], ◌∷◌, Memᴰ}
use Rattle.std.proofs.Math.Logic.{⊎_elim}
use Rattle.std.proofs.Math.Path.{sym, ap}
use Rattle.std.proofs.Common.{◌∙◌, subst}
use native.Mathlib.Omega.{arith}
use Rattle.theory.specs.Problem.{Problem, Row, fill, top, Allowed, plan_end, start_in}
use Rattle.theory.proofs.ProblemLaws.{plan_end_least}
use Rattle.theory.proofs.FillLaws.{fill_plan_end, fill_allowed}
use Rattle.theory.proofs.SufficesLaws.{some_order_suffices}
use Rattle.theory.specs.Arrange.{Arrange}
use Rattle.theory.specs.Orders.{listing}
use Rattle.theory.proofs.OrdersLaws.{orders_arrange, arrange_orders, orders_earlier}
use Rattle.theory.proofs.EarlierLaws.{earlier_lower}
use Rattle.theory.proofs.ListingLaws.{listing_rising}
use Rattle.theory.specs.Walk.{none_met, met}
use Rattle.theory.specs.Search.{Outcome, finished, nothing_fits, unfinished, unfinished_empty, Answer, search, settled}
use Rattle.theory.proofs.SearchLaws.{search_promise}
use Rattle.theory.specs.Groups.{grouped}
use Rattle.theory.proofs.GroupsLaws.{members_alone, grouped_cases, grouped_none}
use Rattle.theory.specs.inner.Grouped.{reach, BestGroups, NoneGrouped, OneGrouped}
use Rattle.theory.specs.inner.Tried.{ends_at}
use Rattle.theory.specs.inner.Promises.{NoneBelow, Grounds, Finished, Promise}

module _ (P : Problem) (S bound K : ℕ) (some : 0 < K) (grounds : Grounds P S bound [] (listing K)) where
  -- a group order reaches what that order of the demands does
  alone : (o : List ℕ) → reach P K K o ≡ fill P [] o
  alone o = ap (fill P []) (members_alone K o some)

  -- an order that ends within S gives an allowed plan, which ends where it does
  order_allowed : (o : List ℕ) → Arrange o (listing K) → top P (fill P [] o) ≤ S → Allowed P S [] (listing K) (start_in (fill P [] o))
  order_allowed o a within = fill_allowed P grounds.two_way S [] o (listing K) a grounds.once within

  module _ (o : List ℕ) (best : BestGroups P S K K (reach P K K o) o) where
    -- the best group order ends within S, as an order of the demands
    own_within : top P (fill P [] o) ≤ S
    own_within = omega (arith, best.within, ap (top P) (alone o))

    -- it ends no lower than a finished search
    no_lower : (a : Answer) (e : ℕ) → Finished P S bound [] (listing K) a e → e ≤ top P (fill P [] o)
    unfolding NoneBelow
    no_lower a e f =
        omega (
          arith,
          f.none_lower (start_in (fill P [] o)) (order_allowed o best.listed own_within),
          fill_plan_end P [] o (listing K) best.listed grounds.once,
        )

    -- so it is the search's order: one before that ends higher, and of one behind it the search's would end higher
    same_order : (a : Answer) (e : ℕ) (f : Finished P S bound [] (listing K) a e) → o ≡ f.order
    unfolding ends_at
    same_order a e f =
        let listed : Arrange f.order (listing K)
        = orders_arrange (listing K) f.order
        (subst (Memᴰ f.order) (sym f.listed) (Memᴰ.append_right f.earlier (Memᴰ.head refl))) in
        let ends : e ≡ top P (reach P K K f.order) = sym f.shown.order_ends ∙ sym (ap (top P) (alone f.order)) in
        let high : e ≤ top P (fill P [] o) = no_lower a e f in
        let low : top P (fill P [] o) ≤ e = omega (arith, best.lowest f.order listed, ap (top P) (alone o)) in
        ⊎_elim
        (λ (m : Memᴰ o f.earlier). absurd (omega (arith, f.first o m)))
        (λ (m : Memᴰ o (f.order ∷ f.later)).
        ⊎_elim
        (λ (q : o ≡ f.order). q)
        (λ (q : Memᴰ o f.later).
        absurd
        (omega (
          arith,
          best.first f.order listed
              (earlier_lower (listing K) (listing_rising K) f.order o
              (orders_earlier (listing K) f.earlier f.later f.order o f.listed q)),
          ap (top P) (alone o),
        )))
        (Memᴰ.cases_cons m))
        (Memᴰ.append_cases f.earlier (subst (Memᴰ o) f.listed (arrange_orders (listing K) o best.listed)))

  -- no group order inside S: no allowed plan at all
  pub alone_none : ((o : List ℕ) → Arrange o (listing K) → S < top P (reach P K K o)) → (plan : ℕ → ℕ) →
      Allowed P S [] (listing K) plan → ⊥
  alone_none each plan allowed =
      let (o, listed, by_start, as_low) = some_order_suffices P S [] (listing K) plan grounds.once grounds.wide allowed in
      let within : plan_end P [] (listing K) plan ≤ S = plan_end_least P [] (listing K) plan S grounds.rows_within allowed.within in
      omega (arith, each o listed, ap (top P) (alone o), as_low.top_no_higher)

  -- the best of all group orders is what a search holds that has settled the question
  settled_best : (limit : ℕ) (a : Answer) (out : Outcome) → settled out ≡ true → Promise P S bound limit [] (listing K) a out →
      grouped P S K K ≡ a.best
  unfolding Promise settled ends_at NoneBelow
  settled_best limit a (finished e) s f =
      ⊎_elim
      (λ (none : NoneGrouped P S K K).
      absurd (alone_none none.1 (start_in (fill P [] f.order)) f.shown.allowed))
      (λ (one : OneGrouped P S K K).
      let (o, is, best) = one in
      is
      ∙ ap (λ (rows : List Row). met rows o) (alone o)
      ∙ ap (λ (x : List ℕ). met (fill P [] x) x) (same_order o best a e f)
      ∙ sym f.shown.best_is)
      (grouped_cases P S K K)
  settled_best limit a nothing_fits s n =
      ⊎_elim
      (λ (none : NoneGrouped P S K K).
      none.0 ∙ sym n.best_is)
      (λ (one : OneGrouped P S K K).
      let (o, is, best) = one in
      absurd (n.none_allowed (start_in (fill P [] o)) (order_allowed o best.listed (own_within o best))))
      (grouped_cases P S K K)
  settled_best limit a (unfinished e) s u = absurd (false≢true s)
  settled_best limit a unfinished_empty s u = absurd (false≢true s)

  -- so where each demand is a group, groups and a search that is not cut short find the same plan along the same order, or both none
  pub groups_as_search : (limit : ℕ) → settled (search P S bound limit [] (listing K)).outcome ≡ true →
      grouped P S K K ≡ (search P S bound limit [] (listing K)).best
  groups_as_search limit s =
      settled_best limit (search P S bound limit [] (listing K)) (search P S bound limit [] (listing K)).outcome s
      (search_promise P S bound limit [] (listing K) grounds)

  -- nothing is found exactly where no plan is allowed
  pub nothing_exactly : (grouped P S K K ≡ none_met → (plan : ℕ → ℕ) → Allowed P S [] (listing K) plan → ⊥)
      × (((plan : ℕ → ℕ) → Allowed P S [] (listing K) plan → ⊥) → grouped P S K K ≡ none_met)
  nothing_exactly = (
    (λ none. alone_none (grouped_none P S K K none)),
    (λ each.
        ⊎_elim
        (λ (none : NoneGrouped P S K K). none.0)
        (λ (one : OneGrouped P S K K).
        let (o, is, best) = one in
        absurd (each (start_in (fill P [] o)) (order_allowed o best.listed (own_within o best))))
        (grouped_cases P S K K)),
  )
