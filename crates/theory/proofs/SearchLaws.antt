-- The search keeps its promises.
use Prim.Native.Nat.{ℕ, suc, ◌+◌, ◌≤◌, ◌<◌}
use Rattle.std.specs.Prelude.{true, ◌⊎◌, ◌≢◌, ◌≡◌, refl}
use Rattle.std.proofs.lemmas.Bool.{false≢true}
use mathlib.Core.List.Memᴰ
use mathlib.Core.List.{List, [], ◌∷◌, ◌++◌, Memᴰ, append-nil, append_assoc}
use Rattle.std.proofs.Common.{inl, inr, ⊎_elim, sym, ◌∙◌, lt-ltb, le-ltb}
use Rattle.std.proofs.Math.Path.{ap, subst}
use native.Mathlib.Omega.{arith}
use Rattle.std.proofs.Math.ListN.{length, length-append}
use Rattle.theory.specs.Problem.{Problem, Row, fill, top, Allowed, plan_end, start_in}
use Rattle.theory.proofs.ProblemLaws.{plan_end_least, plan_end-nil}
use Rattle.theory.proofs.FillLaws.{fill_plan_end, fill_allowed}
use Rattle.theory.proofs.SufficesLaws.{some_order_suffices}
use Rattle.theory.specs.Arrange.{Arrange}
use Rattle.theory.specs.Orders.{factorial, orders_of, orders}
use Rattle.theory.proofs.OrdersLaws.{orders_length, orders_arrange, arrange_orders, earlier_listed_before}
use Rattle.theory.specs.Earlier.{Earlier, NoRepeats}
use Rattle.theory.specs.Walk.{Best, none_met, met, Course, going, at_bound, out_of_steps, Tally, walk}
use Rattle.theory.specs.Search.{finished, nothing_fits, unfinished, unfinished_empty, Answer, fresh, outcome_of, conclude, too_narrow, at_once, search_walk, search, settled}
use Rattle.theory.specs.inner.Tried.{Lead, lead_of, ends_at, lead_by, try, FirstLowest, Leads, unbeaten, taken, EndsAtBound, Walked}
use Rattle.theory.proofs.TriedLaws.{below_or_not, try_append, try_better, try_leads, leads_mark, leads_least}
use Rattle.theory.proofs.WalkLaws.{going_not_at_bound, going_not_out, at_bound_not_out, walk_walked, walked_leads}
use Rattle.theory.proofs.LimitLaws.{walk_same}
use Rattle.theory.specs.inner.Promises.{NoneBelow, Grounds, Shown, Finished, NothingFits, Stopped, Unfinished, UnfinishedEmpty, Promise}

-- a bound above S: nothing fits, and the walk is not begun
pub search_too_narrow : (P : Problem) (S bound limit : ℕ) (rows : List Row) (todo : List ℕ) → S < bound →
    search P S bound limit rows todo ≡ too_narrow bound (length todo)
unfolding search
search_too_narrow P S bound limit rows todo h = rw (lt-ltb S bound h)

-- a bound within S: the walk decides
pub search_walks : (P : Problem) (S bound limit : ℕ) (rows : List Row) (todo : List ℕ) → bound ≤ S →
    search P S bound limit rows todo ≡ search_walk P S bound limit rows todo
unfolding search
search_walks P S bound limit rows todo h = rw (le-ltb S bound h)

-- the walk from its start takes in a first part of all orders
pub start_walked : (P : Problem) (S bound limit : ℕ) (rows : List Row) (todo : List ℕ) →
    Walked P limit bound rows [] (orders todo) (fresh (S + 1)) (walk P limit bound (length todo) rows [] todo (fresh (S + 1)))
unfolding orders fresh
start_walked P S bound limit rows todo = walk_walked P limit bound (length todo) rows [] todo (fresh (S + 1)) refl refl

-- a walk goes on, has met the bound, or ran out of steps
course_cases : (c : Course) → (c ≡ going) ⊎ ((c ≡ at_bound) ⊎ (c ≡ out_of_steps))
course_cases going = inl refl
course_cases at_bound = inr (inl refl)
course_cases out_of_steps = inr (inr refl)

-- what stands in a list is in it
mem_stands : (tried earlier : List (List ℕ)) (o : List ℕ) (later : List (List ℕ)) → tried ≡ earlier ++ (o ∷ later) → Memᴰ o tried
mem_stands tried earlier o later e = subst (Memᴰ o) (sym e) (Memᴰ.append_right earlier (Memᴰ.head refl))

-- a list that is not empty has a length
length_some : (l : List (List ℕ)) → l ≢ [] → 0 < length l
length_some [] h = absurd (h refl)
length_some (x ∷ l) h = omega arith

module _ (P : Problem) (S bound limit : ℕ) (rows : List Row) (todo : List ℕ) (grounds : Grounds P S bound rows todo) where
  -- an allowed plan ends within S
  plan_within : (plan : ℕ → ℕ) → Allowed P S rows todo plan → plan_end P rows todo plan ≤ S
  plan_within plan a = plan_end_least P rows todo plan S grounds.rows_within a.within

  -- a bound above S leaves no allowed plan
  narrow_promise : S < bound → NothingFits P S rows todo (too_narrow bound (length todo))
  unfolding NoneBelow too_narrow
  narrow_promise h =
      record {
        best_is = refl;
        none_allowed = λ plan a. omega (arith, plan_within plan a, grounds.bounded plan a);
        sum = omega arith;
      }

  -- if each listed order ends at e or higher, so does every allowed plan
  none_below : (e : ℕ) → ((o : List ℕ) → Memᴰ o (orders todo) → e ≤ ends_at P (fill P rows) o) → NoneBelow P S rows todo e
  unfolding NoneBelow ends_at
  none_below e each plan a =
      let (o, listed, by_start, as_low) = some_order_suffices P S rows todo plan grounds.once grounds.wide a in
      omega (arith, each o (arrange_orders todo o listed), as_low.top_no_higher)

  -- an order listed that ends within S is shown as an allowed plan
  shown_by : (a : Answer) (o : List ℕ) → Memᴰ o (orders todo) → a.best ≡ met (fill P rows o) o → ends_at P (fill P rows) o ≤ S →
      Shown P S rows todo a o (ends_at P (fill P rows) o)
  unfolding ends_at
  shown_by a o m best_is within =
      let listed : Arrange o todo = orders_arrange todo o m in
      record {
        best_is = best_is;
        order_ends = refl;
        within = within;
        allowed = fill_allowed P grounds.two_way S rows o todo listed grounds.once within;
        plan_ends = fill_plan_end P rows o todo listed grounds.once;
      }

  -- the outcome of a walk's end, from what it holds
  outcome_is : (u : Tally) (c : Course) (b : Best) (m : ℕ) → u.course ≡ c → u.best ≡ b → u.mark ≡ m →
      (conclude bound u).outcome ≡ outcome_of c b m
  unfolding conclude
  outcome_is u c b m ec eb em = cc

  module _ (within-band : bound ≤ S) where
    -- a walk that ended without meeting the bound has another mark
    unmet_at_end : (u : Tally) (w : Walked P limit bound rows [] (orders todo) (fresh (S + 1)) u) → (u.course ≡ at_bound → ⊥) →
        u.mark ≢ bound
    unfolding fresh
    unmet_at_end u w unmet = w.bound_unmet unmet (omega arith)

    -- a walk that goes on has taken in all orders
    all_taken_in : (u : Tally) (w : Walked P limit bound rows [] (orders todo) (fresh (S + 1)) u) → u.course ≡ going →
        orders todo ≡ w.eaten
    all_taken_in u w on =
        w.split ∙ ap (λ (r : List (List ℕ)). w.eaten ++ r) (w.when_going on) ∙ append-nil w.eaten

    -- a walk through all orders without one that ends within S: nothing fits
    all_without : (u : Tally) (w : Walked P limit bound rows [] (orders todo) (fresh (S + 1)) u) → u.course ≡ going →
        ((o : List ℕ) → Memᴰ o w.eaten → S + 1 ≤ ends_at P (fill P rows) o) → u.best ≡ none_met →
        NothingFits P S rows todo (conclude bound u)
    unfolding conclude fresh NoneBelow
    all_without u w on each none =
        let whole : orders todo ≡ w.eaten = all_taken_in u w on in
        let beyond : NoneBelow P S rows todo (S + 1)
        = none_below (S + 1) (λ (o : List ℕ) m. each o (subst (Memᴰ o) whole m)) in
        record {
          best_is = none;
          none_allowed = λ plan a. omega (arith, beyond plan a, plan_within plan a);
          sum = omega (arith, w.counted, ap length whole, orders_length todo);
        }

    -- a walk through all orders with one that ends within S: finished with the first of the lowest
    all_with : (u : Tally) (w : Walked P limit bound rows [] (orders todo) (fresh (S + 1)) u) → u.course ≡ going →
        (o : List ℕ) → FirstLowest P (fill P rows) (S + 1) w.eaten o → lead_of u ≡ lead_by P (fill P rows) [] o →
        Finished P S bound rows todo (conclude bound u) (ends_at P (fill P rows) o)
    unfolding conclude fresh lead_of lead_by
    all_with u w on o lowest leads =
        let whole : orders todo ≡ w.eaten = all_taken_in u w on in
        let listed : orders todo ≡ lowest.earlier ++ (o ∷ lowest.later) = whole ∙ lowest.stands in
        let mark_is : u.mark ≡ ends_at P (fill P rows) o = ap (λ (l : Lead). l.mark) leads in
        let least : (x : List ℕ) → Memᴰ x w.eaten → u.mark ≤ ends_at P (fill P rows) x
        = leads_least P (fill P rows) [] w.eaten (lead_of (fresh (S + 1))) (lead_of u)
        (walked_leads P limit bound rows [] (orders todo) (fresh (S + 1)) u w) in
        record {
          order = o;
          earlier = lowest.earlier;
          later = lowest.later;
          listed = listed;
          shown =
              shown_by
              (conclude bound u)
              o
              (mem_stands (orders todo) lowest.earlier o lowest.later listed)
              (ap (λ (l : Lead). l.best) leads)
              (omega (arith, lowest.below_mark));
          none_lower =
              none_below
              (ends_at P (fill P rows) o)
              (λ (x : List ℕ) m. omega (arith, mark_is, least x (subst (Memᴰ x) whole m)));
          first = lowest.earlier_higher;
          sum_at_bound = λ q. absurd (unmet_at_end u w (λ e. going_not_at_bound (sym on ∙ e)) (mark_is ∙ q));
          sum_above_bound = λ q. omega (arith, w.counted, ap length whole, orders_length todo);
        }

    -- a walk that met the bound has the order that meets it in the lead
    bound_leads : (u : Tally) (w : Walked P limit bound rows [] (orders todo) (fresh (S + 1)) u)
        (b : EndsAtBound P bound rows [] w.eaten (lead_of (fresh (S + 1)))) → lead_of u ≡ lead_by P (fill P rows) [] b.order
    unfolding try
    bound_leads u w b =
        let start : Lead = lead_of (fresh (S + 1)) in
        w.led
        ∙ ap (λ (tried : List (List ℕ)). try P (fill P rows) [] tried start) b.stands
        ∙ try_append P (fill P rows) [] b.earlier (b.order ∷ []) start
        ∙ try_better P (fill P rows) [] b.order [] (try P (fill P rows) [] b.earlier start) (omega (arith, b.meets, b.beaten))

    -- a walk that met the bound: finished with the first order that meets it
    bound_with : (u : Tally) (w : Walked P limit bound rows [] (orders todo) (fresh (S + 1)) u)
        (b : EndsAtBound P bound rows [] w.eaten (lead_of (fresh (S + 1)))) →
        Finished P S bound rows todo (conclude bound u) (ends_at P (fill P rows) b.order)
    unfolding conclude fresh lead_of lead_by NoneBelow
    bound_with u w b =
        let start : Lead = lead_of (fresh (S + 1)) in
        let o : List ℕ = b.order in
        let listed : orders todo ≡ b.earlier ++ (o ∷ w.remaining)
        = w.split ∙ ap (λ (l : List (List ℕ)). l ++ w.remaining) b.stands ∙ append_assoc b.earlier (o ∷ []) w.remaining in
        let before : Leads P (fill P rows) [] b.earlier start (try P (fill P rows) [] b.earlier start) = try_leads P (fill P rows) [] b.earlier start in
        let fallen = leads_mark P (fill P rows) [] b.earlier start (try P (fill P rows) [] b.earlier start) before in
        let least = leads_least P (fill P rows) [] b.earlier start (try P (fill P rows) [] b.earlier start) before in
        record {
          order = o;
          earlier = b.earlier;
          later = w.remaining;
          listed = listed;
          shown =
              shown_by
              (conclude bound u)
              o
              (mem_stands (orders todo) b.earlier o w.remaining listed)
              (ap (λ (l : Lead). l.best) (bound_leads u w b))
              (omega (arith, b.meets, b.beaten, fallen));
          none_lower = λ plan a. omega (arith, b.meets, grounds.bounded plan a);
          first = λ (x : List ℕ) m. omega (arith, b.meets, b.beaten, least x m);
          sum_at_bound = λ q. omega (arith, w.counted, ap length b.stands, length-append b.earlier (o ∷ []));
          sum_above_bound = λ q. absurd (q b.meets);
        }

    -- a walk that ran out of steps
    out_stopped : (u : Tally) (w : Walked P limit bound rows [] (orders todo) (fresh (S + 1)) u) → u.course ≡ out_of_steps →
        Stopped limit todo (conclude bound u) w.eaten
    unfolding conclude fresh
    out_stopped u w out =
        record {
          remaining = w.remaining;
          split = w.split;
          steps_are = omega (arith, w.steps_held, (w.when_out out).1);
          sum = omega (arith, w.counted);
          sum_below =
              omega (
                arith,
                w.counted,
                length_some w.remaining (w.when_out out).0,
                ap length w.split,
                length-append w.eaten w.remaining,
                orders_length todo,
              );
        }

    -- a walk that ran out of steps before it met an order that ends within S
    out_without : (u : Tally) (w : Walked P limit bound rows [] (orders todo) (fresh (S + 1)) u) → u.course ≡ out_of_steps →
        ((o : List ℕ) → Memᴰ o w.eaten → S + 1 ≤ ends_at P (fill P rows) o) → u.best ≡ none_met →
        UnfinishedEmpty P S limit rows todo (conclude bound u)
    unfolding conclude
    out_without u w out each none =
        record {
          taken_in = w.eaten;
          stopped = out_stopped u w out;
          best_is = none;
          none_within = λ (o : List ℕ) m. omega (arith, each o m);
        }

    -- a walk that ran out of steps after it met one
    out_with : (u : Tally) (w : Walked P limit bound rows [] (orders todo) (fresh (S + 1)) u) → u.course ≡ out_of_steps →
        (o : List ℕ) → FirstLowest P (fill P rows) (S + 1) w.eaten o → lead_of u ≡ lead_by P (fill P rows) [] o →
        Unfinished P S bound limit rows todo (conclude bound u) (ends_at P (fill P rows) o)
    unfolding conclude lead_of lead_by NoneBelow
    out_with u w out o lowest leads =
        let listed : orders todo ≡ lowest.earlier ++ (o ∷ (lowest.later ++ w.remaining))
        = w.split
        ∙ ap (λ (l : List (List ℕ)). l ++ w.remaining) lowest.stands
        ∙ append_assoc lowest.earlier (o ∷ lowest.later) w.remaining in
        let shown : Shown P S rows todo (conclude bound u) o (ends_at P (fill P rows) o)
        = shown_by
        (conclude bound u)
        o
        (mem_stands (orders todo) lowest.earlier o (lowest.later ++ w.remaining) listed)
        (ap (λ (l : Lead). l.best) leads)
        (omega (arith, lowest.below_mark)) in
        record {
          order = o;
          taken_in = w.eaten;
          stopped = out_stopped u w out;
          shown = shown;
          lowest_first = lowest;
          above_bound =
              omega (
                arith,
                shown.plan_ends,
                grounds.bounded (start_in (fill P rows o)) shown.allowed,
                unmet_at_end u w (λ e. at_bound_not_out (sym e ∙ out)),
                ap (λ (l : Lead). l.mark) leads,
              );
        }

    -- what a walk's end promises where the lead stayed at its start: there is no plan
    promise_without : (u : Tally) (w : Walked P limit bound rows [] (orders todo) (fresh (S + 1)) u) →
        ((o : List ℕ) → Memᴰ o w.eaten → S + 1 ≤ ends_at P (fill P rows) o) → lead_of u ≡ lead_of (fresh (S + 1)) →
        (u.course ≡ going) ⊎ (u.course ≡ out_of_steps) →
        Promise P S bound limit rows todo (conclude bound u) (conclude bound u).outcome
    unfolding Promise fresh lead_of outcome_of
    promise_without u w each same (inl on) =
        let none : u.best ≡ none_met = ap (λ (l : Lead). l.best) same in
        subst
        (Promise P S bound limit rows todo (conclude bound u))
        (sym (outcome_is u going none_met u.mark on none refl))
        (all_without u w on each none)
    promise_without u w each same (inr out) =
        let none : u.best ≡ none_met = ap (λ (l : Lead). l.best) same in
        subst
        (Promise P S bound limit rows todo (conclude bound u))
        (sym (outcome_is u out_of_steps none_met u.mark out none refl))
        (out_without u w out each none)

    -- what a walk's end promises where an order has the lead
    promise_with : (u : Tally) (w : Walked P limit bound rows [] (orders todo) (fresh (S + 1)) u) → (o : List ℕ) →
        FirstLowest P (fill P rows) (S + 1) w.eaten o → lead_of u ≡ lead_by P (fill P rows) [] o → (u.course ≡ going) ⊎ (u.course ≡ out_of_steps) →
        Promise P S bound limit rows todo (conclude bound u) (conclude bound u).outcome
    unfolding Promise lead_of lead_by outcome_of
    promise_with u w o lowest leads (inl on) =
        subst
        (Promise P S bound limit rows todo (conclude bound u))
        (sym
        (outcome_is
        u
        going
        (met (fill P rows o) o)
        (ends_at P (fill P rows) o)
        on
        (ap (λ (l : Lead). l.best) leads)
        (ap (λ (l : Lead). l.mark) leads)))
        (all_with u w on o lowest leads)
    promise_with u w o lowest leads (inr out) =
        subst
        (Promise P S bound limit rows todo (conclude bound u))
        (sym
        (outcome_is
        u
        out_of_steps
        (met (fill P rows o) o)
        (ends_at P (fill P rows) o)
        out
        (ap (λ (l : Lead). l.best) leads)
        (ap (λ (l : Lead). l.mark) leads)))
        (out_with u w out o lowest leads)

    -- what a walk's end promises where it did not meet the bound
    promise_unmet : (u : Tally) (w : Walked P limit bound rows [] (orders todo) (fresh (S + 1)) u) →
        Leads P (fill P rows) [] w.eaten (lead_of (fresh (S + 1))) (lead_of u) → (u.course ≡ going) ⊎ (u.course ≡ out_of_steps) →
        Promise P S bound limit rows todo (conclude bound u) (conclude bound u).outcome
    unfolding fresh lead_of
    promise_unmet u w (unbeaten each same) course-is = promise_without u w each same course-is
    promise_unmet u w (taken o lowest leads) course-is = promise_with u w o lowest leads course-is

    -- what a walk's end promises where it met the bound
    promise_met : (u : Tally) (w : Walked P limit bound rows [] (orders todo) (fresh (S + 1)) u) → u.course ≡ at_bound →
        Promise P S bound limit rows todo (conclude bound u) (conclude bound u).outcome
    unfolding Promise lead_of lead_by outcome_of
    promise_met u w met_it =
        let b = w.when_at_bound met_it in
        let leads : lead_of u ≡ lead_by P (fill P rows) [] b.order = bound_leads u w b in
        subst
        (Promise P S bound limit rows todo (conclude bound u))
        (sym
        (outcome_is
        u
        at_bound
        (met (fill P rows b.order) b.order)
        (ends_at P (fill P rows) b.order)
        met_it
        (ap (λ (l : Lead). l.best) leads)
        (ap (λ (l : Lead). l.mark) leads)))
        (bound_with u w b)

    -- what a walk's end promises
    walk_promise : (u : Tally) (w : Walked P limit bound rows [] (orders todo) (fresh (S + 1)) u) →
        Promise P S bound limit rows todo (conclude bound u) (conclude bound u).outcome
    walk_promise u w =
        let leads = walked_leads P limit bound rows [] (orders todo) (fresh (S + 1)) u w in
        ⊎_elim
        (λ (on : u.course ≡ going). promise_unmet u w leads (inl on))
        (λ (ended : (u.course ≡ at_bound) ⊎ (u.course ≡ out_of_steps)).
        ⊎_elim
        (λ (met_it : u.course ≡ at_bound). promise_met u w met_it)
        (λ (out : u.course ≡ out_of_steps). promise_unmet u w leads (inr out))
        ended)
        (course_cases u.course)

-- with nothing to place the rows that stand are the plan
none_promise : (P : Problem) (S bound : ℕ) (rows : List Row) → Grounds P S bound rows [] →
    Finished P S bound rows [] (at_once P bound rows) (top P rows)
unfolding at_once orders orders_of ends_at fill NoneBelow factorial
none_promise P S bound rows grounds =
    record {
      order = [];
      earlier = [];
      later = [];
      listed = refl;
      shown =
          record {
            best_is = refl;
            order_ends = refl;
            within = grounds.rows_within;
            allowed =
                record {
                  within = λ (i : ℕ) m. absurd (Memᴰ.not-nil m);
                  clear_of_rows = λ (i : ℕ) m. absurd (Memᴰ.not-nil m);
                  clear_of_others = λ (i j : ℕ) m n ne. absurd (Memᴰ.not-nil m);
                };
            plan_ends = plan_end-nil P rows (start_in rows);
          };
      none_lower = λ plan a. omega (arith, plan_end-nil P rows plan);
      first = λ (o : List ℕ) m. absurd (Memᴰ.not-nil m);
      sum_at_bound = λ q. refl;
      sum_above_bound = λ q. refl;
    }

-- the walk's answer keeps its promise
search_walk_promise : (P : Problem) (S bound limit : ℕ) (rows : List Row) (todo : List ℕ) → Grounds P S bound rows todo → bound ≤ S →
    Promise P S bound limit rows todo (search_walk P S bound limit rows todo) (search_walk P S bound limit rows todo).outcome
unfolding search_walk Promise at_once
search_walk_promise P S bound limit rows [] grounds within = none_promise P S bound rows grounds
search_walk_promise P S bound limit rows (i ∷ todo) grounds within =
    let n : ℕ = suc (length todo) in
    walk_promise
    P
    S
    bound
    limit
    rows
    (i ∷ todo)
    grounds
    within
    (walk P limit bound n rows [] (i ∷ todo) (fresh (S + 1)))
    (start_walked P S bound limit rows (i ∷ todo))

-- the search keeps its promise, whatever its outcome
pub search_promise : (P : Problem) (S bound limit : ℕ) (rows : List Row) (todo : List ℕ) → Grounds P S bound rows todo →
    Promise P S bound limit rows todo (search P S bound limit rows todo) (search P S bound limit rows todo).outcome
unfolding Promise too_narrow
search_promise P S bound limit rows todo grounds =
    let kept : Answer → Type 0 = λ (a : Answer). Promise P S bound limit rows todo a a.outcome in
    ⊎_elim
    (λ (above : S < bound).
    subst kept (sym (search_too_narrow P S bound limit rows todo above)) (narrow_promise P S bound limit rows todo grounds above))
    (λ (within : bound ≤ S).
    subst kept (sym (search_walks P S bound limit rows todo within)) (search_walk_promise P S bound limit rows todo grounds within))
    (below_or_not S bound)

-- finished: no allowed plan ends lower, and the order shown is the first that ends there
pub search_finished : (P : Problem) (S bound limit : ℕ) (rows : List Row) (todo : List ℕ) (e : ℕ) → Grounds P S bound rows todo →
    (search P S bound limit rows todo).outcome ≡ finished e →
    Finished P S bound rows todo (search P S bound limit rows todo) e
unfolding Promise
search_finished P S bound limit rows todo e grounds h =
    subst
    (Promise P S bound limit rows todo (search P S bound limit rows todo))
    h
    (search_promise P S bound limit rows todo grounds)

-- finished: every order that is earlier by listing position than the one shown ends higher
pub finished_earliest : (P : Problem) (S bound : ℕ) (rows : List Row) (todo : List ℕ) (a : Answer) (e : ℕ) → NoRepeats todo →
    (f : Finished P S bound rows todo a e) → (o : List ℕ) → Arrange o todo → Earlier todo o f.order → e < ends_at P (fill P rows) o
finished_earliest P S bound rows todo a e once f o listed h =
    f.first o (earlier_listed_before todo once f.earlier f.later f.order o f.listed listed h)

-- nothing fits: there is no allowed plan
pub search_nothing_fits : (P : Problem) (S bound limit : ℕ) (rows : List Row) (todo : List ℕ) → Grounds P S bound rows todo →
    (search P S bound limit rows todo).outcome ≡ nothing_fits →
    NothingFits P S rows todo (search P S bound limit rows todo)
unfolding Promise
search_nothing_fits P S bound limit rows todo grounds h =
    subst
    (Promise P S bound limit rows todo (search P S bound limit rows todo))
    h
    (search_promise P S bound limit rows todo grounds)

-- unfinished with a plan: the limit was used up, and the plan is the best of the orders taken in
pub search_unfinished : (P : Problem) (S bound limit : ℕ) (rows : List Row) (todo : List ℕ) (e : ℕ) → Grounds P S bound rows todo →
    (search P S bound limit rows todo).outcome ≡ unfinished e →
    Unfinished P S bound limit rows todo (search P S bound limit rows todo) e
unfolding Promise
search_unfinished P S bound limit rows todo e grounds h =
    subst
    (Promise P S bound limit rows todo (search P S bound limit rows todo))
    h
    (search_promise P S bound limit rows todo grounds)

-- unfinished without a plan: the limit was used up, and none of the orders taken in ends within S
pub search_unfinished_empty : (P : Problem) (S bound limit : ℕ) (rows : List Row) (todo : List ℕ) → Grounds P S bound rows todo →
    (search P S bound limit rows todo).outcome ≡ unfinished_empty →
    UnfinishedEmpty P S limit rows todo (search P S bound limit rows todo)
unfolding Promise
search_unfinished_empty P S bound limit rows todo grounds h =
    subst
    (Promise P S bound limit rows todo (search P S bound limit rows todo))
    h
    (search_promise P S bound limit rows todo grounds)

-- the walk's answer takes no step past the limit
search_walk_steps : (P : Problem) (S bound limit : ℕ) (rows : List Row) (todo : List ℕ) →
    (search_walk P S bound limit rows todo).steps ≤ limit
unfolding search_walk at_once conclude fresh
search_walk_steps P S bound limit rows [] = omega arith
search_walk_steps P S bound limit rows (i ∷ todo) =
    omega (arith, (start_walked P S bound limit rows (i ∷ todo)).steps_held)

-- the search never takes more steps than the limit
pub search_steps : (P : Problem) (S bound limit : ℕ) (rows : List Row) (todo : List ℕ) →
    (search P S bound limit rows todo).steps ≤ limit
unfolding too_narrow
search_steps P S bound limit rows todo =
    let few : Answer → Type 0 = λ (a : Answer). a.steps ≤ limit in
    ⊎_elim
    (λ (above : S < bound). subst few (sym (search_too_narrow P S bound limit rows todo above)) (omega arith))
    (λ (within : bound ≤ S). subst few (sym (search_walks P S bound limit rows todo within)) (search_walk_steps P S bound limit rows todo))
    (below_or_not S bound)

-- an outcome that settles the question is none of a walk that ran out of steps
settled_not_out : (c : Course) (b : Best) (m : ℕ) → settled (outcome_of c b m) ≡ true → c ≡ out_of_steps → ⊥
unfolding settled outcome_of
settled_not_out going b m h e = going_not_out e
settled_not_out at_bound b m h e = at_bound_not_out e
settled_not_out out_of_steps none_met m h e = false≢true h
settled_not_out out_of_steps (met rows order) m h e = false≢true h

-- a walk's answer that settles the question is the same under every limit of at least its steps
search_walk_same : (P : Problem) (S bound limit other : ℕ) (rows : List Row) (todo : List ℕ) →
    settled (search_walk P S bound limit rows todo).outcome ≡ true → (search_walk P S bound limit rows todo).steps ≤ other →
    search_walk P S bound other rows todo ≡ search_walk P S bound limit rows todo
unfolding search_walk conclude fresh
search_walk_same P S bound limit other rows [] h few = refl
search_walk_same P S bound limit other rows (i ∷ todo) h few =
    let u : Tally = walk P limit bound (suc (length todo)) rows [] (i ∷ todo) (fresh (S + 1)) in
    ap
    (conclude bound)
    (walk_same
    P
    bound
    limit
    other
    (suc (length todo))
    rows
    []
    (i ∷ todo)
    (fresh (S + 1))
    refl
    refl
    (settled_not_out u.course u.best u.mark h)
    few)

-- an answer that settles the question stays the same with any limit that is no lower than its steps
pub search_same : (P : Problem) (S bound limit other : ℕ) (rows : List Row) (todo : List ℕ) →
    settled (search P S bound limit rows todo).outcome ≡ true → (search P S bound limit rows todo).steps ≤ other →
    search P S bound other rows todo ≡ search P S bound limit rows todo
search_same P S bound limit other rows todo h few =
    ⊎_elim
    (λ (above : S < bound).
    search_too_narrow P S bound other rows todo above ∙ sym (search_too_narrow P S bound limit rows todo above))
    (λ (within : bound ≤ S).
    let here : search P S bound limit rows todo ≡ search_walk P S bound limit rows todo = search_walks P S bound limit rows todo within in
    search_walks P S bound other rows todo within
    ∙ search_walk_same
    P
    S
    bound
    limit
    other
    rows
    todo
    (subst (λ (a : Answer). settled a.outcome ≡ true) here h)
    (subst (λ (a : Answer). a.steps ≤ other) here few)
    ∙ sym here)
    (below_or_not S bound)

-- the walk's answer carries the bound
search_walk_bound : (P : Problem) (S bound limit : ℕ) (rows : List Row) (todo : List ℕ) →
    (search_walk P S bound limit rows todo).bound ≡ bound
unfolding search_walk at_once conclude
search_walk_bound P S bound limit rows [] = refl
search_walk_bound P S bound limit rows (i ∷ todo) = refl

-- the answer carries the bound
pub search_bound : (P : Problem) (S bound limit : ℕ) (rows : List Row) (todo : List ℕ) →
    (search P S bound limit rows todo).bound ≡ bound
unfolding too_narrow
search_bound P S bound limit rows todo =
    let carries : Answer → Type 0 = λ (a : Answer). a.bound ≡ bound in
    ⊎_elim
    (λ (above : S < bound). subst carries (sym (search_too_narrow P S bound limit rows todo above)) refl)
    (λ (within : bound ≤ S). subst carries (sym (search_walks P S bound limit rows todo within)) (search_walk_bound P S bound limit rows todo))
    (below_or_not S bound)

-- with something to place the walk runs from its start, with S + 1 as the mark
pub search_walk_some : (P : Problem) (S bound limit : ℕ) (rows : List Row) (i : ℕ) (todo : List ℕ) →
    search_walk P S bound limit rows (i ∷ todo) ≡
    conclude bound (walk P limit bound (length (i ∷ todo)) rows [] (i ∷ todo) (fresh (S + 1)))
unfolding search_walk
search_walk_some P S bound limit rows i todo = refl
