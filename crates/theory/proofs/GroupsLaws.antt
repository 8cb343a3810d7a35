-- Groups: each demand is in one of them, a group order is an order of all demands, and a branch that cannot end lower may be left.
use Prim.Native.Nat.{ℕ, zero, suc, ◌+◌, ◌*◌, ◌/◌, ◌%◌, ◌≤◌, ◌<◌, min}
use Rattle.std.specs.Prelude.{Bool, ◌⊎◌, ◌≡◌, ltb}
use Rattle.std.proofs.Math.Bool.{cond}
use mathlib.Core.List.Memᴰ
use mathlib.Core.List.{
  List,
  [],
  ◌∷◌,
  ◌++◌,
  Memᴰ,
  append_assoc,
  append-nil,
}
use Rattle.std.proofs.Common.{inl, inr, ◌∙◌, div-add-mod', mod-lt, suc-mul, mul_comm, ltb-true, ltb-false, lt-ltb, le-ltb}
use Rattle.std.proofs.Math.Logic.{⊎_elim}
use Rattle.std.proofs.Math.Path.{refl, sym, ap, ap₂, subst}
use native.Mathlib.Omega.{arith}
use Rattle.std.proofs.Math.Arith.{digits_div, digits_mod}
use Rattle.theory.specs.Problem.{Problem, Row, top, Fitted, placed, refused, first_fit}
use Rattle.theory.proofs.ProblemLaws.{top_nil}
use Rattle.theory.proofs.FirstFitLaws.{top_placed, placed_top, placed_fill}
use Rattle.theory.proofs.TestLaws.{by_test}
use Rattle.theory.specs.Arrange.{Arrange}
use Rattle.theory.proofs.ArrangeLaws.{arrange_mem}
use Rattle.theory.specs.Orders.{count_up, listing, orders}
use Rattle.theory.proofs.OrdersLaws.{orders_arrange, arrange_orders, earlier_listed_before}
use Rattle.theory.proofs.EarlierLaws.{lower_earlier}
use Rattle.theory.proofs.ListingLaws.{count_up-append, count_up_last, listing_no_repeats, listing_rising}
use Rattle.theory.specs.Walk.{Best, none_met, met}
use Rattle.theory.specs.Groups.{group_size, group_start, group, members, lowers, better, best_along, grouped}
use Rattle.theory.specs.inner.Grouped.{reach, BestGroups, NoneGrouped, OneGrouped}
use Rattle.theory.specs.inner.Tried.{Lead, ends_at, lead_by, try, FirstLowest, Leads, unbeaten, taken}
use Rattle.theory.proofs.TriedLaws.{below_or_not, try_better, try_equalled, try_leads}

-- groups one behind the other: g times the even share, and one more for each of the longer groups before
share_out : (q r g : ℕ) → (g * q + min g r) + (q + cond (ltb g r) 1 0) ≡ suc g * q + min (suc g) r
share_out q r g =
    by_test (ltb g r)
    (λ t. rw t (let h = ltb-true g r t in omega (arith, suc-mul g q)))
    (λ f. rw f (let h = ltb-false g r f in omega (arith, suc-mul g q)))

starts_at : (K M g : ℕ) → group_start K M g ≡ g * (K / M) + min g (K % M)
unfolding group_start group_size
starts_at K M zero = omega arith
starts_at K M (suc g) = ap (λ (n : ℕ). n + (K / M + cond (ltb g (K % M)) 1 0)) (starts_at K M g) ∙ share_out (K / M) (K % M) g

-- behind the last group all demands are counted
pub groups_whole : (K M : ℕ) → 0 < M → group_start K M M ≡ K
groups_whole K M some =
    starts_at K M M
    ∙ (let r : K % M < M = mod-lt K some in
    let whole : K / M * M + K % M ≡ K = div-add-mod' K M in
    omega (arith, mul_comm M (K / M)))

-- with no more groups than demands none is empty
pub group_some : (K M g : ℕ) → 0 < M → M ≤ K → 1 ≤ group_size K M g
unfolding group_size
group_some K M g some many =
    ⊎_elim
    (λ (share : 0 < K / M). omega arith)
    (λ (none : K / M ≤ 0).
    absurd
    (omega (
      arith,
      mod-lt K some,
      div-add-mod' K M,
      ap (λ (q : ℕ). q * M) (let e : K / M ≡ 0 = omega arith in e),
    )))
    (below_or_not 0 (K / M))

-- groups begin one behind the other
pub group_next : (K M g : ℕ) → group_start K M (suc g) ≡ group_start K M g + group_size K M g
unfolding group_start
group_next K M g = refl

-- a later group begins no lower
pub starts_below : (K M g h : ℕ) → g ≤ h → group_start K M g ≤ group_start K M h
starts_below K M g zero le = omega (arith, ap (group_start K M) (let z : g ≡ 0 = omega arith in z))
starts_below K M g (suc h) le =
    ⊎_elim
    (λ (low : g < suc h). omega (arith, starts_below K M g h (omega arith), group_next K M h))
    (λ (high : suc h ≤ g). omega (arith, ap (group_start K M) (let z : g ≡ suc h = omega arith in z)))
    (below_or_not g (suc h))

-- an order of the others stays one with a block of numbers in front, which stand together in the list
block_first : (block rest before after : List ℕ) → Arrange rest (before ++ after) → Arrange (block ++ rest) (before ++ (block ++ after))
unfolding Arrange
block_first [] rest before after a = a
block_first (i ∷ block) rest before after a = (before, block ++ after, refl, block_first block rest before after a)

module _ (K M : ℕ) where
  -- the members of groups in a row
  pub members_append : (front back : List ℕ) → members K M (front ++ back) ≡ members K M front ++ members K M back
  unfolding members
  members_append [] back = refl
  members_append (g ∷ front) back =
      ap (λ (l : List ℕ). group K M g ++ l) (members_append front back)
      ∙ sym (append_assoc (group K M g) (members K M front) (members K M back))

  -- the members of one group
  pub members_one : (g : ℕ) → members K M (g ∷ []) ≡ group K M g
  unfolding members
  members_one g = append-nil (group K M g)

  -- the first n groups hold the first positions
  members_first : (n : ℕ) → members K M (count_up n 0) ≡ count_up (group_start K M n) 0
  unfolding members count_up group_start group
  members_first zero = refl
  members_first (suc n) =
      let m : ℕ = 0 + n in
      ap (members K M) (count_up_last n 0)
      ∙ members_append (count_up n 0) (m ∷ [])
      ∙ ap₂ (λ (a b : List ℕ). a ++ b) (members_first n) (members_one m)
      ∙ ap (λ (k : ℕ). count_up (group_start K M n) 0 ++ group K M k) (let e : m ≡ n = omega arith in e)
      ∙ ap (λ (k : ℕ). count_up (group_start K M n) 0 ++ count_up (group_size K M n) k)
      (let e : group_start K M n ≡ 0 + group_start K M n = omega arith in e)
      ∙ count_up-append (group_start K M n) (group_size K M n) 0

  -- all groups hold all positions
  pub members_listing : 0 < M → members K M (listing M) ≡ listing K
  unfolding listing
  members_listing some = members_first M ∙ ap (λ (n : ℕ). count_up n 0) (groups_whole K M some)

  -- the members of an order of groups are an order of the members
  arrange_members : (order todo : List ℕ) → Arrange order todo → Arrange (members K M order) (members K M todo)
  unfolding Arrange members
  arrange_members [] todo e = ap (members K M) e
  arrange_members (g ∷ order) todo (before, after, split, rest) =
      subst (Arrange (group K M g ++ members K M order)) (sym (ap (members K M) split ∙ members_append before (g ∷ after)))
      (block_first (group K M g) (members K M order) (members K M before) (members K M after)
      (subst (Arrange (members K M order)) (members_append before after) (arrange_members order (before ++ after) rest)))

  -- a group order is an order of all demands
  pub members_arrange : (order : List ℕ) → 0 < M → Arrange order (listing M) → Arrange (members K M order) (listing K)
  members_arrange order some a = subst (Arrange (members K M order)) (members_listing some) (arrange_members order (listing M) a)

-- where each demand is a group, a group order is that order itself
alone_size : (K g : ℕ) → 0 < K → group_size K K g ≡ 1
unfolding group_size
alone_size K g some =
    ap₂ (λ (q r : ℕ). q + cond (ltb g r) 1 0)
    (ap (λ (n : ℕ). n / K) (let e : K ≡ 1 * K + 0 = omega arith in e) ∙ digits_div 1 some)
    (ap (λ (n : ℕ). n % K) (let e : K ≡ 1 * K + 0 = omega arith in e) ∙ digits_mod 1 some)
    ∙ ap (λ (b : Bool). 1 + cond b 1 0) (le-ltb g 0 (omega arith))

alone_start : (K g : ℕ) → 0 < K → group_start K K g ≡ g
unfolding group_start
alone_start K zero some = refl
alone_start K (suc g) some = omega (arith, alone_start K g some, alone_size K g some)

pub members_alone : (K : ℕ) (order : List ℕ) → 0 < K → members K K order ≡ order
unfolding members group count_up
members_alone K [] some = refl
members_alone K (g ∷ order) some =
    ap₂ (λ (a b : List ℕ). a ++ b) (ap₂ count_up (alone_size K g some) (alone_start K g some)) (members_alone K order some)

module _ (P : Problem) (S K M : ℕ) where
  -- the mark that a best sets: its end, and without one the first end above S
  unfoldable pub mark_of : Best → ℕ
  mark_of none_met = S + 1
  mark_of (met rows order) = top P rows

  -- the lead that a best has
  abbrev pub lead_with : Best → Lead
  lead_with best = record { mark = mark_of best; best = best }

  -- a group order that ends below the mark is placed inside S and becomes the best
  better_below : (order : List ℕ) (best : Best) → mark_of best ≤ S + 1 → ends_at P (reach P K M) order < mark_of best →
      better P order (first_fit P S [] (members K M order)) best ≡ met (reach P K M order) order
  unfolding better lowers mark_of ends_at
  better_below order none_met within below =
      ap (λ (f : Fitted). better P order f none_met) (top_placed P S [] (members K M order) (omega arith))
  better_below order (met rows other) within below =
      ap (λ (f : Fitted). better P order f (met rows other)) (top_placed P S [] (members K M order) (omega arith))
      ∙ ap (λ (b : Bool). cond b (met (reach P K M order) order) (met rows other)) (lt-ltb (top P (reach P K M order)) (top P rows) below)

  -- one that does not leaves the best as it is
  better_not : (order : List ℕ) (best : Best) → mark_of best ≤ ends_at P (reach P K M) order → (f : Fitted) →
      first_fit P S [] (members K M order) ≡ f → better P order f best ≡ best
  unfolding better lowers mark_of ends_at
  better_not order best high (refused rows i) is = refl
  better_not order none_met high (placed rows) is =
      absurd (omega (arith, placed_top P S [] (members K M order) rows (omega (arith, top_nil P)) is))
  better_not order (met stood other) high (placed rows) is =
      ap (λ (b : Bool). cond b (met rows order) (met stood other))
      (le-ltb (top P rows) (top P stood) (omega (arith, ap (top P) (placed_fill P S [] (members K M order) rows is))))

  -- so the best of some group orders is that which takes the lead
  pub best_leads : (os : List (List ℕ)) (best : Best) → mark_of best ≤ S + 1 →
      best_along P S K M os best ≡ (try P (reach P K M) [] os (lead_with best)).best
  unfolding best_along try mark_of
  best_leads [] best within = refl
  best_leads (order ∷ os) best within =
      ⊎_elim
      (λ (below : ends_at P (reach P K M) order < mark_of best).
      ap (best_along P S K M os) (better_below order best within below)
      ∙ best_leads os (met (reach P K M order) order) (above_all order best within below)
      ∙ ap (λ (l : Lead). l.best) (sym (try_better P (reach P K M) [] order os (lead_with best) below)))
      (λ (high : mark_of best ≤ ends_at P (reach P K M) order).
      ap (best_along P S K M os) (better_not order best high (first_fit P S [] (members K M order)) refl)
      ∙ best_leads os best within
      ∙ ap (λ (l : Lead). l.best) (sym (try_equalled P (reach P K M) [] order os (lead_with best) high)))
      (below_or_not (ends_at P (reach P K M) order) (mark_of best))
    where
      above_all : (order : List ℕ) (best : Best) → mark_of best ≤ S + 1 → ends_at P (reach P K M) order < mark_of best →
          top P (reach P K M order) ≤ S + 1
      above_all order best within below = omega arith

  -- the first of the lowest, as the best of all group orders
  taken_best : (o : List ℕ) → FirstLowest P (reach P K M) (S + 1) (orders (listing M)) o → BestGroups P S K M (reach P K M o) o
  unfolding ends_at
  taken_best o lowest =
      record {
        listed =
            orders_arrange (listing M) o
            (subst (Memᴰ o) (sym lowest.stands) (Memᴰ.append_right lowest.earlier (Memᴰ.head refl)));
        rows_are = refl;
        within = omega (arith, lowest.below_mark);
        lowest =
            λ (other : List ℕ) a.
            ⊎_elim
            (λ (e : Memᴰ other lowest.earlier). omega (arith, lowest.earlier_higher other e))
            (λ (e : Memᴰ other (o ∷ lowest.later)).
            ⊎_elim
            (λ (q : other ≡ o). omega (arith, ap (λ (x : List ℕ). top P (reach P K M x)) q))
            (λ (q : Memᴰ other lowest.later). omega (arith, lowest.later_no_lower other q))
            (Memᴰ.cases_cons e))
            (Memᴰ.append_cases lowest.earlier (subst (Memᴰ other) lowest.stands (arrange_orders (listing M) other a)));
        first =
            λ (other : List ℕ) a low.
            lowest.earlier_higher other
            (earlier_listed_before (listing M) (listing_no_repeats M) lowest.earlier lowest.later o other lowest.stands a
            (lower_earlier (listing M) (listing_rising M) other o (arrange_mem other (listing M) a)
            (arrange_mem o (listing M)
            (orders_arrange (listing M) o
            (subst (Memᴰ o) (sym lowest.stands) (Memᴰ.append_right lowest.earlier (Memᴰ.head refl)))))
            low));
      }

  -- the best of all group orders: there is none, and each ends above S; or it is the first of the lowest
  pub grouped_cases : NoneGrouped P S K M ⊎ OneGrouped P S K M
  unfolding grouped lead_by mark_of ends_at
  grouped_cases = by_lead (try_leads P (reach P K M) [] (orders (listing M)) (lead_with none_met))
    where
      led : grouped P S K M ≡ (try P (reach P K M) [] (orders (listing M)) (lead_with none_met)).best
      led = best_leads (orders (listing M)) none_met (omega arith)

      by_lead : Leads P (reach P K M) [] (orders (listing M)) (lead_with none_met)
          (try P (reach P K M) [] (orders (listing M)) (lead_with none_met)) →
          NoneGrouped P S K M ⊎ OneGrouped P S K M
      by_lead (unbeaten each same) =
          inl (led ∙ ap (λ (l : Lead). l.best) same, λ (o : List ℕ) a. omega (arith, each o (arrange_orders (listing M) o a)))
      by_lead (taken o lowest same) = inr (o, led ∙ ap (λ (l : Lead). l.best) same, taken_best o lowest)

  -- a best that is one is the first of the lowest
  pub grouped_met : (rows : List Row) (order : List ℕ) → grouped P S K M ≡ met rows order → BestGroups P S K M rows order
  grouped_met rows order is =
      ⊎_elim
      (λ (none : NoneGrouped P S K M).
      let clash : none_met ≡ met rows order = sym none.0 ∙ is in
      absurd (let z : ◌≡◌ {A = ℕ} 0 1 = cc in omega arith))
      (λ (one : OneGrouped P S K M).
      let (o, found, best) = one in
      let same : met (reach P K M o) o ≡ met rows order = sym found ∙ is in
      let rows_are : reach P K M o ≡ rows = cc in
      let order_is : o ≡ order = cc in
      subst (λ (x : List ℕ). BestGroups P S K M rows x) order_is (subst (λ (r : List Row). BestGroups P S K M r o) rows_are best))
      grouped_cases

  -- without one each group order ends above S
  pub grouped_none : grouped P S K M ≡ none_met → (o : List ℕ) → Arrange o (listing M) → S < top P (reach P K M o)
  grouped_none is o a =
      ⊎_elim
      (λ (none : NoneGrouped P S K M). none.1 o a)
      (λ (one : OneGrouped P S K M).
      let (x, found, best) = one in
      let clash : met (reach P K M x) x ≡ none_met = sym found ∙ is in
      absurd (let z : ◌≡◌ {A = ℕ} 0 1 = cc in omega arith))
      grouped_cases
