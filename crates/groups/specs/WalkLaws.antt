-- The walk over group orders, level by level: a group that is placed, a branch that is left, a whole order, and the level below.
use Prim.Native.Nat.{ℕ, zero, suc, ◌+◌, ◌-◌, ◌≤◌, ◌<◌}
use mathlib.Core.Bool.{Bool, true, false}
use mathlib.Core.List.{List, [], ◌∷◌, ◌++◌}
use Rattle.std.specs.Prelude.{◌⊎◌, ◌≡◌, refl, cond, eqb, length, take, drop, replicate}
use Rattle.std.proofs.Common.{inl, inr, ⊎_elim, ◌∙◌, add-one, length-set, length-drop, take-append-drop, ext_get_or, take-suc, length-take-le, get_or-drop, get_or-set_other, eqb-true}
use Rattle.std.proofs.Math.Path.{sym, ap, ap₂, subst}
use native.Mathlib.Omega.{arith}
use Rattle.std.proofs.Math.ListN.{get_or, set}
use Rattle.std.proofs.lemmas.List.{take-set-le}
use Rattle.std.proofs.Math.Seq.{get_or-set_same}
use Rattle.std.proofs.lemmas.Bool.{eqb-false}
use Rattle.theory.specs.Problem.{Problem, Row, lowest, place, fill, top}
use Rattle.theory.proofs.ProblemLaws.{end_is, fill_cons, top_fill, top_place}
use Rattle.theory.proofs.TestLaws.{by_test}
use Rattle.theory.proofs.TriedLaws.{below_or_not}
use Rattle.theory.specs.Orders.{count_up, spread, orders_of}
use Rattle.theory.specs.Groups.{group_size, group_start, group}
use Rattle.theory.proofs.GroupsLaws.{group_next, groups_whole, starts_below}
use Rattle.theory.proofs.GroupWalkLaws.{reach_more, branch_left, whole_leads, siblings_more, siblings_none, orders_spread, unmarked_passed, unmarked_first, unmarked_up_to, unmarked_with, unmarked_without}
use Rattle.theory.specs.inner.Grouped.{reach, below, unmarked}
use Rattle.theory.specs.inner.Tried.{Lead, try, lead_by, ends_at}
use Rattle.board.specs.inner.Standing.{OnBoard, Standing}
use Rattle.lent.specs.Lent.{over}
use Rattle.meeting.specs.declared.Compact.{Compact}
use Rattle.meeting.specs.CompactLaws.{bit_swap}
use Rattle.meeting.specs.inner.Small.{problem_in, Small}
use Rattle.groups.specs.Reply.{order_told}
use Rattle.groups.specs.declared.walk.Cut.{Cut}
use Rattle.groups.specs.declared.walk.Level.{Level}
use Rattle.groups.specs.PlaceLaws.{so_far_none}
use Rattle.groups.specs.inner.Table.{MeetingTable}
use Rattle.groups.specs.inner.Walk.{posed, demands, path_of, rows_of, top_with, GroupSoFar, Ready, GroupPlaced, Held, orders_left, tried_group, tried_from}

-- in an array of zeros there is none but 0, nor behind it
pub none_anywhere : (n j : ℕ) → ◌≡◌ {A = ℕ} (get_or (replicate n 0) j 0) 0
none_anywhere zero j = refl
none_anywhere (suc n) zero = refl
none_anywhere (suc n) (suc j) = none_anywhere n j

-- an order with one entry more
pub path_more : (order : List ℕ) (placed g : ℕ) → placed < length order → take (placed + 1) (set order placed g) ≡ take placed order ++ (g ∷ [])
path_more order placed g room =
    ap (λ (n : ℕ). take n (set order placed g)) (add-one placed)
    ∙ take-suc (set order placed g) placed 0 (omega (arith, length-set order placed g))
    ∙ ap₂ (λ (l : List ℕ) (x : ℕ). l ++ (x ∷ [])) (take-set-le placed order placed g (omega arith)) (get_or-set_same order placed g 0 room)

-- a demand that is placed ends above 0
some_top : (P : Problem) (K guard : ℕ) (rows : List Row) (n k : ℕ) → OnBoard P K guard → 1 ≤ n → k < K → 1 ≤ top P (fill P rows (count_up n k))
unfolding count_up
some_top P K guard rows zero k board some listed = absurd (omega arith)
some_top P K guard rows (suc n) k board some listed =
    omega (
      arith,
      ap (top P) (fill_cons P rows k (count_up n (suc k))),
      top_fill P (place P rows k) (count_up n (suc k)),
      top_place P rows k,
      end_is P k (lowest P rows k),
      board.wide k listed,
    )

-- an array with an order in front and 0 behind it is that order as it is told
pub order_whole : (order path : List ℕ) (n : ℕ) → length order ≡ 8 → n ≤ 8 → take n order ≡ path → ((k : ℕ) → n ≤ k → get_or order k 0 ≡ 0) →
    order ≡ order_told path
unfolding order_told over
order_whole order path n full few front behind =
    sym (take-append-drop n order)
    ∙ ap₂ (λ (a b : List ℕ). a ++ b) front
    (rest ∙ ap (λ (k : ℕ). drop k none) (sym (ap length (sym front) ∙ length-take-le n order (omega arith))))
  where
    none : List ℕ
    none = replicate 8 0

    long : length (drop n order) ≡ length (drop n none)
    long = length-drop n order ∙ ap (λ (k : ℕ). k - n) full ∙ sym (length-drop n none)

    rest : drop n order ≡ drop n none
    rest =
        ext_get_or 0 (drop n order) (drop n none) long
        (λ k h.
        get_or-drop n order k 0
        ∙ behind (n + k) (omega arith)
        ∙ sym (get_or-drop n none k 0 ∙ none_anywhere 8 (n + k)))

-- the demands of a request made small have room on the board
pub on_board : (c : Compact) → Small c → OnBoard (problem_in c) c.count c.guard
unfolding problem_in
on_board c small = record { few = small.most_demands; wide = small.some_width; gaps = λ i j. refl }

-- a row of the table says whom a demand meets
pub row_meets : (c : Compact) (table : List (List Bool)) → MeetingTable c.words table → (i j : ℕ) →
    get_or (get_or table i []) j false ≡ (problem_in c).joined j i
unfolding problem_in
row_meets c table meets i j = meets.entry i j ∙ bit_swap (get_or c.words i 0) (get_or c.words j 0)

module _ {cut : Cut} {level : Level} (ready : Ready cut level) (g : ℕ) (inside : g < cut.m) where
  abbrev P : Problem
  P = posed cut

  abbrev K : ℕ
  K = demands cut

  abbrev M : ℕ
  M = cut.m

  abbrev first : List ℕ
  first = cut.first

  abbrev path : List ℕ
  path = path_of level

  -- where group g begins and ends
  pub from_is : get_or first g 0 ≡ group_start K M g
  from_is = ready.begins.begins g (omega arith)

  pub to_is : get_or first (g + 1) 0 ≡ group_start K M (suc g)
  to_is = ready.begins.begins (g + 1) (omega arith) ∙ ap (group_start K M) (add-one g)

  -- it ends behind its beginning, and not behind the last demand
  pub group_listed : (get_or first g 0 ≤ get_or first (g + 1) 0) × (get_or first (g + 1) 0 ≤ K)
  group_listed = (
    omega (arith, from_is, to_is, group_next K M g),
    omega (arith, to_is, starts_below K M (suc g) M inside, groups_whole K M (omega arith)),
  )

  -- the demands of group g as they are counted
  group_is : count_up (get_or first (g + 1) 0 - get_or first g 0) (get_or first g 0) ≡ group K M g
  unfolding group
  group_is = ap₂ count_up (let e : get_or first (g + 1) 0 - get_or first g 0 ≡ group_size K M g = omega (arith, from_is, to_is, group_next K M g) in e) from_is

  -- with them the rows are those of the path and g
  rows_more : fill P (reach P K M path) (count_up (get_or first (g + 1) 0 - get_or first g 0) (get_or first g 0)) ≡ reach P K M (path ++ (g ∷ []))
  rows_more = ap (fill P (reach P K M path)) group_is ∙ sym (reach_more P K M path g)

  module _ (free : get_or level.used g false ≡ false) where
    -- it may be placed
    pub group_begun : GroupSoFar P K (reach P K M path) (get_or first g 0) (get_or first (g + 1) 0) (get_or first g 0) level level
    group_begun =
        so_far_none P K (reach P K M path) (get_or first g 0) (get_or first (g + 1) 0) level ready.starts_full ready.ends_full ready.standing
        ready.top_is (λ j low high. ready.clear g inside free j (omega (arith, from_is)) (omega (arith, to_is)))

    -- where some demand does not end below the mark, neither do the orders below it
    pub group_left : (mark : ℕ) →
        mark ≤ top P (fill P (reach P K M path) (count_up (get_or first (g + 1) 0 - get_or first g 0) (get_or first g 0))) →
        mark ≤ top_with cut level g
    unfolding top_with
    group_left mark high = omega (arith, ap (top P) rows_more)

    -- all are placed: the group stands
    module _ (mark i : ℕ) (now : Level) (done : i ≡ get_or first (g + 1) 0) (some : level.placed < M) (low : now.top < mark)
        (so_far : GroupSoFar P K (reach P K M path) (get_or first g 0) (get_or first (g + 1) 0) i level now) where
      abbrev after : Level
      after = record now { used = set now.used g true; order = set now.order now.placed g; placed = now.placed + 1 }

      -- the path with g
      down_path : take after.placed after.order ≡ path ++ (g ∷ [])
      down_path =
          ap₂ (λ (n : ℕ) (o : List ℕ). take (n + 1) (set o n g)) so_far.placed_kept so_far.order_kept
          ∙ path_more level.order level.placed g (omega (arith, ready.order_full, ready.few))

      -- its rows
      down_rows : fill P (reach P K M path) (count_up (i - get_or first g 0) (get_or first g 0)) ≡ reach P K M (take after.placed after.order)
      down_rows =
          ap (λ (n : ℕ). fill P (reach P K M path) (count_up (n - get_or first g 0) (get_or first g 0))) done
          ∙ rows_more
          ∙ ap (reach P K M) (sym down_path)

      -- behind the path with g the order holds nothing
      down_behind : (k : ℕ) → after.placed ≤ k → get_or after.order k 0 ≡ 0
      down_behind k h =
          get_or-set_other now.order now.placed k g 0 (λ e. omega arith)
          ∙ ap (λ (o : List ℕ). get_or o k 0) so_far.order_kept
          ∙ ready.behind k (omega (arith, so_far.placed_kept))

      -- the demands of a group that is still free are not among those placed
      still_clear : (h : ℕ) → h < M → get_or after.used h false ≡ false → (j : ℕ) → group_start K M h ≤ j → j < group_start K M (suc h) →
          get_or after.ends j 0 ≡ 0
      still_clear h inside-h free-h j from to =
          by_test (eqb h g)
          (λ t.
          absurd
          (let z : ◌≡◌ {A = Bool} true false
          = sym (get_or-set_same now.used g true false (omega (arith, ap length so_far.used_kept, ready.used_full, ready.few)))
          ∙ ap (λ (n : ℕ). get_or after.used n false) (sym (eqb-true h g t))
          ∙ free-h in
          mathlib.Core.Bool.false≢true (sym z)))
          (λ f.
          let other : h ≡ g → ⊥ = eqb-false h g f in
          let still : get_or level.used h false ≡ false
          = ap (λ (u : List Bool). get_or u h false) (sym so_far.used_kept) ∙ sym (get_or-set_other now.used g h true false other) ∙ free-h in
          so_far.others j (elsewhere h other j from to) ∙ ready.clear h inside-h still j from to)
        where
          elsewhere : (h : ℕ) → (h ≡ g → ⊥) → (j : ℕ) → group_start K M h ≤ j → j < group_start K M (suc h) →
              (j < get_or first g 0) ⊎ (get_or first (g + 1) 0 ≤ j)
          elsewhere h other j from to =
              ⊎_elim
              (λ (less : h < g). inl (omega (arith, starts_below K M (suc h) g less, from_is)))
              (λ (more : g ≤ h). inr (omega (arith, starts_below K M (suc g) h (omega (arith, other)), to_is)))
              (below_or_not h g)

      pub group_stands : GroupPlaced cut level g mark after
      group_stands =
          record {
            ready = record {
              small = ready.small;
              meets = ready.meets;
              begins = ready.begins;
              few = ready.few;
              many = ready.many;
              used_full = length-set now.used g true ∙ ap length so_far.used_kept ∙ ready.used_full;
              order_full = length-set now.order now.placed g ∙ ap length so_far.order_kept ∙ ready.order_full;
              starts_full = so_far.starts_full;
              ends_full = so_far.ends_full;
              behind = down_behind;
              standing = subst (λ (r : List Row). Standing P K r now.starts now.ends) down_rows so_far.standing;
              top_is = so_far.top_is ∙ ap (top P) down_rows;
              clear = still_clear;
            };
            below_mark = low;
            used_is = ap (λ (u : List Bool). set u g true) so_far.used_kept;
            order_is = ap₂ (λ (o : List ℕ) (n : ℕ). set o n g) so_far.order_kept so_far.placed_kept;
            placed_is = ap (λ (n : ℕ). n + 1) so_far.placed_kept;
          }

  -- a branch that ends no lower than the mark is left
  pub branch_kept : (lead : Lead) → lead.mark ≤ top_with cut level g → tried_group cut level g lead ≡ lead
  unfolding tried_group top_with
  branch_kept lead high =
      branch_left P K M (path ++ (g ∷ [])) (orders_of (M - (level.placed + 1)) (unmarked (set level.used g true) 0 M)) lead high

  -- so a group of which some demand does not end below the mark leaves the lead as it is
  pub group_kept : get_or level.used g false ≡ false → (mark : ℕ) →
      mark ≤ top P (fill P (reach P K M path) (count_up (get_or first (g + 1) 0 - get_or first g 0) (get_or first g 0))) →
      (lead : Lead) → mark ≡ lead.mark → tried_group cut level g lead ≡ lead
  group_kept free mark high lead is = branch_kept lead (omega (arith, is, group_left free mark high))

  -- group g is placed, below the mark
  module _ {mark : ℕ} {after : Level} (some : level.placed < M) (down : GroupPlaced cut level g mark after) where
    -- the path with g
    after_path : take after.placed after.order ≡ path ++ (g ∷ [])
    after_path =
        ap₂ (λ (n : ℕ) (o : List ℕ). take n o) down.placed_is down.order_is
        ∙ path_more level.order level.placed g (omega (arith, ready.order_full, ready.few))

    -- a whole order takes the lead
    pub order_taken : M ≤ after.placed → (lead : Lead) → mark ≡ lead.mark →
        Held (record { end = after.top; order = after.order }) (tried_group cut level g lead)
    unfolding lead_by ends_at tried_group
    order_taken whole lead is =
        subst (Held (record { end = after.top; order = after.order })) (sym led)
        (record {
          mark_is = end_more;
          order_is =
              λ rows o e.
              let same : path ++ (g ∷ []) ≡ o = cc in
              order_whole after.order o after.placed down.ready.order_full
              (omega (arith, down.placed_is, ready.few)) (after_path ∙ same) down.ready.behind;
        })
      where
        end_more : after.top ≡ top P (reach P K M (path ++ (g ∷ [])))
        end_more = down.ready.top_is ∙ ap (λ (p : List ℕ). top P (reach P K M p)) after_path

        led : tried_group cut level g lead ≡ lead_by P (reach P K M) [] (path ++ (g ∷ []))
        led =
            ap (λ (n : ℕ). try P (reach P K M) [] (below (path ++ (g ∷ [])) (orders_of n (unmarked (set level.used g true) 0 M))) lead)
            (let e : M - (level.placed + 1) ≡ 0 = omega (arith, down.placed_is) in e)
            ∙ whole_leads P K M (path ++ (g ∷ [])) (unmarked (set level.used g true) 0 M) lead
            (omega (arith, end_more, down.below_mark))

    -- what the level below tries are the orders below g
    pub down_tried : after.placed < M → (lead : Lead) → tried_from cut after 0 lead ≡ tried_group cut level g lead
    unfolding tried_from tried_group unmarked
    down_tried room lead =
        let left : List Bool = set level.used g true in
        let n : ℕ = M - (after.placed + 1) in
        ap₂ (λ (p : List ℕ) (m : ℕ). try P (reach P K M) [] (below p (spread (orders_of n) [] (unmarked after.used 0 m))) lead)
        after_path (let e : M - 0 ≡ M = omega arith in e)
        ∙ ap (λ (u : List Bool). try P (reach P K M) [] (below (path ++ (g ∷ [])) (spread (orders_of n) [] (unmarked u 0 M))) lead) down.used_is
        ∙ ap (λ (os : List (List ℕ)). try P (reach P K M) [] (below (path ++ (g ∷ [])) os) lead)
        (sym (orders_spread n (unmarked left 0 M))
        ∙ ap (λ (m : ℕ). orders_of m (unmarked left 0 M)) (let e : suc n ≡ M - (level.placed + 1) = omega (arith, down.placed_is) in e))

  abbrev n : ℕ
  n = M - (g + 1)

  abbrev others : List ℕ → List (List ℕ)
  others = orders_of (M - (level.placed + 1))

  later : unmarked level.used (g + 1) n ≡ unmarked level.used (suc g) n
  later = ap (λ (k : ℕ). unmarked level.used k n) (add-one g)

  -- the siblings from g on: those after it, where it stands
  pub tried_past : (lead : Lead) → get_or level.used g false ≡ true → tried_from cut level (g + 1) lead ≡ tried_from cut level g lead
  unfolding tried_from
  tried_past lead t =
      ap₂ (λ (a b : List ℕ). try P (reach P K M) [] (below path (spread others a b)) lead)
      (unmarked_up_to level.used g t)
      (later ∙ sym (unmarked_passed level.used g n t) ∙ ap (unmarked level.used g) (let e : suc n ≡ M - g = omega arith in e))

  -- else g, and those after it
  pub tried_on : (lead : Lead) → get_or level.used g false ≡ false →
      tried_from cut level (g + 1) (tried_group cut level g lead) ≡ tried_from cut level g lead
  unfolding tried_from tried_group
  tried_on lead f =
      ap (λ (l : Lead). try P (reach P K M) [] (below path (spread others (unmarked level.used 0 (g + 1)) (unmarked level.used (g + 1) n))) l)
      (ap (λ (left : List ℕ). try P (reach P K M) [] (below (path ++ (g ∷ [])) (others left)) lead)
      (unmarked_without level.used g (omega (arith, ready.used_full, ready.few)) M inside))
      ∙ ap
      (λ (a : List ℕ).
      try P (reach P K M) [] (below path (spread others a (unmarked level.used (g + 1) n)))
      (try P (reach P K M) [] (below (path ++ (g ∷ [])) (others (unmarked level.used 0 g ++ unmarked level.used (g + 1) n))) lead))
      (unmarked_with level.used g f)
      ∙ sym (siblings_more P K M others path (unmarked level.used 0 g) g (unmarked level.used (g + 1) n) lead)
      ∙ ap (λ (b : List ℕ). try P (reach P K M) [] (below path (spread others (unmarked level.used 0 g) b)) lead)
      (ap (λ (l : List ℕ). g ∷ l) later ∙ sym (unmarked_first level.used g n f)
      ∙ ap (unmarked level.used g) (let e : suc n ≡ M - g = omega arith in e))

  -- both in one: where g stands nothing is tried for it
  pub tried_next : (lead : Lead) →
      tried_from cut level (g + 1) (cond (get_or level.used g false) lead (tried_group cut level g lead)) ≡ tried_from cut level g lead
  tried_next lead =
      by_test (get_or level.used g false)
      (λ t. ap (λ (b : Bool). tried_from cut level (g + 1) (cond b lead (tried_group cut level g lead))) t ∙ tried_past lead t)
      (λ f. ap (λ (b : Bool). tried_from cut level (g + 1) (cond b lead (tried_group cut level g lead))) f ∙ tried_on lead f)

-- once the mark has come down to the rows that stand, nothing below them takes the lead
pub tried_left : (cut : Cut) (level : Level) (g : ℕ) (lead : Lead) → lead.mark ≤ top (posed cut) (rows_of cut level) →
    tried_from cut level g lead ≡ lead
unfolding tried_from
tried_left cut level g lead high =
    branch_left (posed cut) (demands cut) cut.m (path_of level)
    (spread (orders_left cut level g) (unmarked level.used 0 g) (unmarked level.used g (cut.m - g))) lead high

-- behind the last group there is nothing to try
pub tried_none : (cut : Cut) (level : Level) (g : ℕ) → g ≡ cut.m → (lead : Lead) → tried_from cut level g lead ≡ lead
unfolding tried_from unmarked
tried_none cut level g done lead =
    let P : Problem = posed cut in
    let K : ℕ = demands cut in
    ap (λ (n : ℕ). try P (reach P K cut.m) []
    (below (path_of level) (spread (orders_left cut level g) (unmarked level.used 0 g) (unmarked level.used g n))) lead)
    (let e : cut.m - g ≡ 0 = omega arith in e)
    ∙ siblings_none P K cut.m (orders_left cut level g) (path_of level) (unmarked level.used 0 g) lead
