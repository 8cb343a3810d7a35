-- The walk takes in a first part of all orders, counts each of them, and keeps the first of the lowest.
use Prim.Native.Nat.{ℕ, zero, suc, ◌+◌, ◌≤◌, ◌<◌, max}
use Rattle.std.specs.Prelude.{true, false, ◌⊎◌, ◌≢◌, ◌≡◌}
use mathlib.Core.List.{List, [], ◌∷◌, ◌++◌, map, cons≢nil, append_assoc, append-nil, map-append}
use Rattle.std.proofs.Common.{inl, inr, ◌∙◌, arith}
use Rattle.std.proofs.Math.Logic.{⊎_elim}
use Rattle.std.proofs.Math.Path.{refl, sym, ap, subst}
use Rattle.std.proofs.Math.ListN.{length, length-append}
use Rattle.std.proofs.lemmas.List.{length-map}
use Rattle.theory.specs.Problem.{Problem, Row, place, fill, top}
use Rattle.theory.specs.Orders.{factorial, spread, orders_of}
use Rattle.theory.proofs.OrdersLaws.{factorial_pos, orders_of-length}
use Rattle.theory.specs.Walk.{met, Course, going, at_bound, out_of_steps, Tally, stepped, leave, exhausted, equalled, improved, goes_on, complete, judge, step, siblings, walk}
use Rattle.theory.proofs.WalkBranchLaws.{complete_at_bound, complete_above_bound, complete_equalled, judge_left, judge_deeper, step_spent, step_taken, siblings_none, siblings_on, siblings_stop}
use Rattle.theory.specs.inner.Tried.{Lead, lead_of, ends_at, lead_by, try, Leads, Walked}
use Rattle.theory.proofs.TriedLaws.{below_or_not, equal_or_not, ends_above_rows, try_append, try_map, try_none, try_better, try_equalled, try_leads, leads_mark}

-- a walk that goes on has not met the bound
pub going_not_at_bound : going ≡ at_bound → ⊥
going_not_at_bound e = let z : ◌≡◌ {A = ℕ} 0 1 = cc in omega arith

-- a walk that goes on did not run out of steps
pub going_not_out : going ≡ out_of_steps → ⊥
going_not_out e = let z : ◌≡◌ {A = ℕ} 0 1 = cc in omega arith

-- a walk that met the bound did not run out of steps
pub at_bound_not_out : at_bound ≡ out_of_steps → ⊥
at_bound_not_out e = let z : ◌≡◌ {A = ℕ} 0 1 = cc in omega arith

-- a walk goes on, or it has ended
pub on_or_ended : (c : Course) → ((c ≡ going) × (goes_on c ≡ true)) ⊎ ((c ≡ going → ⊥) × (goes_on c ≡ false))
unfolding goes_on
on_or_ended going = inl (refl, refl)
on_or_ended at_bound = inr (λ e. going_not_at_bound (sym e), refl)
on_or_ended out_of_steps = inr (λ e. going_not_out (sym e), refl)

module _ (P : Problem) (limit bound : ℕ) where
  -- over no orders nothing happens
  walked_none : (rows : List Row) (path : List ℕ) (t : Tally) → t.course ≡ going → Walked P limit bound rows path [] t t
  unfolding try lead_of
  walked_none rows path t on =
      record {
        eaten = [];
        remaining = [];
        split = refl;
        counted = omega arith;
        led = refl;
        steps_rise = omega arith;
        steps_held = omega arith;
        when_going = λ e. refl;
        when_at_bound = λ e. absurd (going_not_at_bound (sym on ∙ e));
        when_out = λ e. absurd (going_not_out (sym on ∙ e));
        bound_unmet = λ unmet before. before;
      }

  -- a walk over orders after i was placed is one over those orders with i in front
  walked_under : (rows : List Row) (path : List ℕ) (i : ℕ) (os : List (List ℕ)) (t u : Tally) →
      Walked P limit bound (place P rows i) (path ++ (i ∷ [])) os t u →
      Walked P limit bound rows path (map (λ (o : List ℕ). i ∷ o) os) t u
  unfolding ends_at fill
  walked_under rows path i os t u w =
      let front : List ℕ → List ℕ = λ (o : List ℕ). i ∷ o in
      record {
        eaten = map front w.eaten;
        remaining = map front w.remaining;
        split = ap (map front) w.split ∙ map-append front w.eaten w.remaining;
        counted = w.counted ∙ ap (λ (n : ℕ). t.reached + t.ruled + n) (sym (length-map w.eaten front));
        led = w.led ∙ sym (try_map P rows path i w.eaten (lead_of t));
        steps_rise = w.steps_rise;
        steps_held = w.steps_held;
        when_going = λ e. ap (map front) (w.when_going e);
        when_at_bound = λ e.
            let b = w.when_at_bound e in
            record {
              earlier = map front b.earlier;
              order = i ∷ b.order;
              stands = ap (map front) b.stands ∙ map-append front b.earlier (b.order ∷ []);
              meets = b.meets;
              beaten = subst (λ (l : Lead). bound < l.mark) (sym (try_map P rows path i b.earlier (lead_of t))) b.beaten;
            };
        when_out = λ e. (map_not_empty w.remaining (w.when_out e).0, (w.when_out e).1);
        bound_unmet = w.bound_unmet;
      }
    where
      map_not_empty : (l : List (List ℕ)) → l ≢ [] → map (λ (o : List ℕ). i ∷ o) l ≢ []
      map_not_empty [] h e = h refl
      map_not_empty (x ∷ l) h e = cons≢nil e

  -- two walks, the second where the first goes on
  walked_then : (rows : List Row) (path : List ℕ) (xs ys : List (List ℕ)) (t u v : Tally) →
      Walked P limit bound rows path xs t u → u.course ≡ going → Walked P limit bound rows path ys u v →
      Walked P limit bound rows path (xs ++ ys) t v
  walked_then rows path xs ys t u v a on b =
      let whole : xs ≡ a.eaten = a.split ∙ ap (λ (r : List (List ℕ)). a.eaten ++ r) (a.when_going on) ∙ append-nil a.eaten in
      let led-both : try P (fill P rows) path b.eaten (lead_of u) ≡ try P (fill P rows) path (a.eaten ++ b.eaten) (lead_of t)
      = ap (try P (fill P rows) path b.eaten) a.led ∙ sym (try_append P (fill P rows) path a.eaten b.eaten (lead_of t)) in
      record {
        eaten = a.eaten ++ b.eaten;
        remaining = b.remaining;
        split = ap (λ (l : List (List ℕ)). l ++ ys) whole ∙ ap (λ (l : List (List ℕ)). a.eaten ++ l) b.split
            ∙ sym (append_assoc a.eaten b.eaten b.remaining);
        counted = simp length-append (omega (arith, a.counted, b.counted));
        led = b.led ∙ led-both;
        steps_rise = omega (arith, a.steps_rise, b.steps_rise);
        steps_held = omega (arith, a.steps_held, b.steps_held);
        when_going = b.when_going;
        when_at_bound = λ e.
            let z = b.when_at_bound e in
            record {
              earlier = a.eaten ++ z.earlier;
              order = z.order;
              stands = ap (λ (l : List (List ℕ)). a.eaten ++ l) z.stands
                  ∙ sym (append_assoc a.eaten z.earlier (z.order ∷ []));
              meets = z.meets;
              beaten = subst
                  (λ (l : Lead). bound < l.mark)
                  (ap (try P (fill P rows) path z.earlier) a.led ∙ sym (try_append P (fill P rows) path a.eaten z.earlier (lead_of t)))
                  z.beaten;
            };
        when_out = b.when_out;
        bound_unmet = λ unmet before. b.bound_unmet unmet (a.bound_unmet (λ e. going_not_at_bound (sym on ∙ e)) before);
      }

  -- a walk that has ended leaves what comes after untouched
  walked_stop : (rows : List Row) (path : List ℕ) (xs ys : List (List ℕ)) (t u : Tally) →
      Walked P limit bound rows path xs t u → (u.course ≡ going → ⊥) → Walked P limit bound rows path (xs ++ ys) t u
  walked_stop rows path xs ys t u w ended =
      record {
        eaten = w.eaten;
        remaining = w.remaining ++ ys;
        split = ap (λ (l : List (List ℕ)). l ++ ys) w.split ∙ append_assoc w.eaten w.remaining ys;
        counted = w.counted;
        led = w.led;
        steps_rise = w.steps_rise;
        steps_held = w.steps_held;
        when_going = λ e. absurd (ended e);
        when_at_bound = w.when_at_bound;
        when_out = λ e. (append_not_empty w.remaining (w.when_out e).0, (w.when_out e).1);
        bound_unmet = w.bound_unmet;
      }
    where
      append_not_empty : (l : List (List ℕ)) → l ≢ [] → l ++ ys ≢ []
      append_not_empty [] h e = absurd (h refl)
      append_not_empty (x ∷ l) h e = cons≢nil e

  -- one order taken in without a step
  walked_one : (rows : List Row) (path : List ℕ) (t u : Tally) → u.reached + u.ruled ≡ t.reached + t.ruled + 1 →
      lead_of u ≡ try P (fill P rows) path ([] ∷ []) (lead_of t) → u.steps ≡ t.steps → (u.course ≡ out_of_steps → ⊥) →
      (u.course ≡ at_bound → (top P rows ≡ bound) × (bound < t.mark)) →
      ((u.course ≡ at_bound → ⊥) → t.mark ≢ bound → u.mark ≢ bound) → Walked P limit bound rows path ([] ∷ []) t u
  unfolding try lead_of ends_at fill
  walked_one rows path t u one led same-steps not-out met_it unmet =
      record {
        eaten = [] ∷ [];
        remaining = [];
        split = refl;
        counted = one;
        led = led;
        steps_rise = omega arith;
        steps_held = omega arith;
        when_going = λ e. refl;
        when_at_bound = λ e.
            record { earlier = []; order = []; stands = refl; meets = (met_it e).0; beaten = (met_it e).1 };
        when_out = λ e. absurd (not-out e);
        bound_unmet = unmet;
      }

  -- the lead of a complete order is that of nothing more placed
  lead_here : (rows : List Row) (path : List ℕ) (t u : Tally) → lead_of u ≡ record { mark = top P rows; best = met rows path } →
      top P rows < t.mark → lead_of u ≡ try P (fill P rows) path ([] ∷ []) (lead_of t)
  unfolding try lead_of lead_by ends_at fill
  lead_here rows path t u e below =
      e
      ∙ ap (λ (order : List ℕ). record { mark = top P rows; best = met rows order }) (sym (append-nil path))
      ∙ sym (try_better P (fill P rows) path [] [] (lead_of t) below)

  -- a complete order that meets the bound below the mark
  walked_at_bound : (rows : List Row) (path : List ℕ) (t : Tally) → top P rows < t.mark → top P rows ≡ bound →
      Walked P limit bound rows path ([] ∷ []) t (improved (top P rows) rows path at_bound t)
  unfolding improved lead_of
  walked_at_bound rows path t below e =
      let u : Tally = improved (top P rows) rows path at_bound t in
      walked_one
      rows
      path
      t
      u
      (omega arith)
      (lead_here rows path t u refl below)
      refl
      (λ out. at_bound_not_out out)
      (λ q. (e, omega arith))
      (λ unmet. absurd (unmet refl))

  -- a complete order below the mark and above the bound
  walked_better : (rows : List Row) (path : List ℕ) (t : Tally) → t.course ≡ going → top P rows < t.mark →
      top P rows ≢ bound →
      Walked P limit bound rows path ([] ∷ []) t (improved (top P rows) rows path t.course t)
  unfolding improved lead_of
  walked_better rows path t on below above =
      let u : Tally = improved (top P rows) rows path t.course t in
      walked_one
      rows
      path
      t
      u
      (omega arith)
      (lead_here rows path t u refl below)
      refl
      (λ out. going_not_out (sym on ∙ out))
      (λ q. absurd (going_not_at_bound (sym on ∙ q)))
      (λ unmet before. above)

  -- a complete order not below the mark
  walked_equalled : (rows : List Row) (path : List ℕ) (t : Tally) → t.course ≡ going → t.mark ≤ top P rows →
      Walked P limit bound rows path ([] ∷ []) t (equalled t)
  unfolding equalled lead_of try ends_at fill
  walked_equalled rows path t on not-below =
      walked_one
      rows
      path
      t
      (equalled t)
      (omega arith)
      (sym (try_equalled P (fill P rows) path [] [] (lead_of t) not-below))
      refl
      (λ out. going_not_out (sym on ∙ out))
      (λ q. absurd (going_not_at_bound (sym on ∙ q)))
      (λ unmet before. before)

  -- an order completed is that order taken in
  walked_complete : (rows : List Row) (path : List ℕ) (t : Tally) → t.course ≡ going →
      Walked P limit bound rows path ([] ∷ []) t (complete P limit bound rows path t)
  walked_complete rows path t on =
      let here : Tally → Type 0 = Walked P limit bound rows path ([] ∷ []) t in
      ⊎_elim
      (λ (below : top P rows < t.mark).
      ⊎_elim
      (λ (e : top P rows ≡ bound).
      subst here (sym (complete_at_bound P limit bound rows path t below e)) (walked_at_bound rows path t below e))
      (λ (e : top P rows ≡ bound → ⊥).
      subst here (sym (complete_above_bound P limit bound rows path t below e)) (walked_better rows path t on below e))
      (equal_or_not (top P rows) bound))
      (λ (not-below : t.mark ≤ top P rows).
      subst here (sym (complete_equalled P limit bound rows path t not-below)) (walked_equalled rows path t on not-below))
      (below_or_not (top P rows) t.mark)

  -- a branch left is all its orders taken in: none of them ends below the mark
  walked_left : (n : ℕ) (rows : List Row) (path left : List ℕ) (t : Tally) → t.course ≡ going → length left ≡ n →
      t.mark ≤ top P rows → Walked P limit bound rows path (orders_of n left) t (leave (factorial n) t)
  unfolding leave lead_of
  walked_left n rows path left t on sized not-below =
      record {
        eaten = orders_of n left;
        remaining = [];
        split = sym (append-nil (orders_of n left));
        counted = omega (arith, orders_of-length n left sized);
        led = sym
            (try_none P (fill P rows) path (orders_of n left) (lead_of t) (λ (o : List ℕ) m. omega (arith, ends_above_rows P rows o)));
        steps_rise = omega arith;
        steps_held = omega arith;
        when_going = λ e. refl;
        when_at_bound = λ e. absurd (going_not_at_bound (sym on ∙ e));
        when_out = λ e. absurd (going_not_out (sym on ∙ e));
        bound_unmet = λ unmet before. before;
      }

  -- a walk after a step that the limit allowed is a walk from before it
  walked_stepped : (rows : List Row) (path : List ℕ) (os : List (List ℕ)) (t u : Tally) → t.steps < limit →
      Walked P limit bound rows path os (stepped t) u → Walked P limit bound rows path os t u
  unfolding stepped lead_of
  walked_stepped rows path os t u allowed w =
      record {
        eaten = w.eaten;
        remaining = w.remaining;
        split = w.split;
        counted = w.counted;
        led = w.led;
        steps_rise = omega (arith, w.steps_rise);
        steps_held = omega (arith, w.steps_held);
        when_going = w.when_going;
        when_at_bound = w.when_at_bound;
        when_out = w.when_out;
        bound_unmet = w.bound_unmet;
      }

  -- a step that is due with none left takes in nothing
  walked_spent : (rows : List Row) (path : List ℕ) (os : List (List ℕ)) (t : Tally) → limit ≤ t.steps → os ≢ [] →
      Walked P limit bound rows path os t (exhausted t)
  unfolding exhausted lead_of try
  walked_spent rows path os t spent some =
      record {
        eaten = [];
        remaining = os;
        split = refl;
        counted = omega arith;
        led = refl;
        steps_rise = omega arith;
        steps_held = omega arith;
        when_going = λ e. absurd (going_not_out (sym e));
        when_at_bound = λ e. absurd (at_bound_not_out (sym e));
        when_out = λ e. (some, spent);
        bound_unmet = λ unmet before. before;
      }

  -- what one level down must do: walk over the orders of n demands left
  Walks : ℕ → (List Row → List ℕ → List ℕ → Tally → Tally) → Type 0
  Walks n deeper =
      (rows : List Row) (path left : List ℕ) (t : Tally) → t.course ≡ going → length left ≡ n →
      Walked P limit bound rows path (orders_of n left) t (deeper rows path left t)

  -- after a step, judging walks over the orders of what is left
  walked_judge : (deeper : List Row → List ℕ → List ℕ → Tally → Tally) (n : ℕ) → Walks n deeper → (rows : List Row)
      (path left : List ℕ) (t : Tally) → t.course ≡ going → length left ≡ n →
      Walked P limit bound rows path (orders_of n left) t (judge P limit bound deeper n rows path left t)
  unfolding orders_of Walks judge
  walked_judge deeper zero walks rows path left t on sized = walked_complete rows path t on
  walked_judge deeper (suc n) walks rows path left t on sized =
      let here : Tally → Type 0 = Walked P limit bound rows path (orders_of (suc n) left) t in
      ⊎_elim
      (λ (below : top P rows < t.mark).
      subst here (sym (judge_deeper P limit bound deeper n rows path left t below)) (walks rows path left t on sized))
      (λ (not-below : t.mark ≤ top P rows).
      subst here (sym (judge_left P limit bound deeper n rows path left t not-below)) (walked_left (suc n) rows path left t on sized not-below))
      (below_or_not (top P rows) t.mark)

  -- a list of n has an order
  orders_of_some : (n i : ℕ) (left : List ℕ) → length left ≡ n → map (λ (o : List ℕ). i ∷ o) (orders_of n left) ≢ []
  orders_of_some n i left sized e =
      omega (
        arith,
        factorial_pos n,
        orders_of-length n left sized,
        length-map (orders_of n left) (λ (o : List ℕ). i ∷ o),
        ap length e,
      )

  -- a step walks over the orders that begin with its demand
  walked_step : (deeper : List Row → List ℕ → List ℕ → Tally → Tally) (n : ℕ) → Walks n deeper → (rows : List Row)
      (path : List ℕ) (i : ℕ) (left : List ℕ) (t : Tally) → t.course ≡ going → length left ≡ n →
      Walked P limit bound rows path (map (λ (o : List ℕ). i ∷ o) (orders_of n left)) t (step P limit bound deeper n rows path i left t)
  unfolding stepped
  walked_step deeper n walks rows path i left t on sized =
      let front : List (List ℕ) = map (λ (o : List ℕ). i ∷ o) (orders_of n left) in
      let here : Tally → Type 0 = Walked P limit bound rows path front t in
      ⊎_elim
      (λ (allowed : t.steps < limit).
      let judged : Tally = judge P limit bound deeper n (place P rows i) (path ++ (i ∷ [])) left (stepped t) in
      subst
      here
      (sym (step_taken P limit bound deeper n rows path i left t allowed))
      (walked_stepped
      rows
      path
      front
      t
      judged
      allowed
      (walked_under
      rows
      path
      i
      (orders_of n left)
      (stepped t)
      judged
      (walked_judge deeper n walks (place P rows i) (path ++ (i ∷ [])) left (stepped t) on sized))))
      (λ (spent : limit ≤ t.steps).
      subst
      here
      (sym (step_spent P limit bound deeper n rows path i left t spent))
      (walked_spent rows path front t spent (orders_of_some n i left sized)))
      (below_or_not t.steps limit)

  -- the siblings walk over the orders that begin with one of them
  walked_siblings : (deeper : List Row → List ℕ → List ℕ → Tally → Tally) (n : ℕ) → Walks n deeper → (rows : List Row)
      (path before after : List ℕ) (t : Tally) → t.course ≡ going → length before + length after ≡ suc n →
      Walked P limit bound rows path (spread (orders_of n) before after) t (siblings P limit bound deeper n rows path before after t)
  unfolding spread
  walked_siblings deeper n walks rows path before [] t on sized =
      subst
      (Walked P limit bound rows path [] t)
      (sym (siblings_none P limit bound deeper n rows path before t))
      (walked_none rows path t on)
  walked_siblings deeper n walks rows path before (i ∷ after) t on sized =
      let others : length (before ++ after) ≡ n = simp length-append (omega arith) in
      let moved : length (before ++ (i ∷ [])) + length after ≡ suc n = simp length-append (omega arith) in
      let front : List (List ℕ) = map (λ (o : List ℕ). i ∷ o) (orders_of n (before ++ after)) in
      let rest : List (List ℕ) = spread (orders_of n) (before ++ (i ∷ [])) after in
      let here : Tally → Type 0 = Walked P limit bound rows path (front ++ rest) t in
      let stood : Tally = step P limit bound deeper n rows path i (before ++ after) t in
      let first : Walked P limit bound rows path front t stood
      = walked_step deeper n walks rows path i (before ++ after) t on others in
      ⊎_elim
      (λ (still : (stood.course ≡ going) × (goes_on stood.course ≡ true)).
      subst
      here
      (sym (siblings_on P limit bound deeper n rows path before i after t still.1))
      (walked_then
      rows
      path
      front
      rest
      t
      stood
      (siblings P limit bound deeper n rows path (before ++ (i ∷ [])) after stood)
      first
      still.0
      (walked_siblings deeper n walks rows path (before ++ (i ∷ [])) after stood still.0 moved)))
      (λ (ended : (stood.course ≡ going → ⊥) × (goes_on stood.course ≡ false)).
      subst
      here
      (sym (siblings_stop P limit bound deeper n rows path before i after t ended.1))
      (walked_stop rows path front rest t stood first ended.0))
      (on_or_ended stood.course)

  -- the walk takes in a first part of all orders of the n demands left, from any rows, path and tally
  pub walk_walked : (n : ℕ) (rows : List Row) (path left : List ℕ) (t : Tally) → t.course ≡ going → length left ≡ n →
      Walked P limit bound rows path (orders_of n left) t (walk P limit bound n rows path left t)
  unfolding orders_of walk Walks
  walk_walked zero rows path left t on sized = walked_complete rows path t on
  walk_walked (suc n) rows path left t on sized =
      walked_siblings (walk P limit bound n) n (walk_walked n) rows path [] left t on (omega arith)

  -- judging in the walk takes in a first part of the orders of what is left
  pub judge_walked : (n : ℕ) (rows : List Row) (path left : List ℕ) (t : Tally) → t.course ≡ going → length left ≡ n →
      Walked P limit bound rows path (orders_of n left) t (judge P limit bound (walk P limit bound n) n rows path left t)
  unfolding Walks
  judge_walked n rows path left t on sized = walked_judge (walk P limit bound n) n (walk_walked n) rows path left t on sized

  -- the siblings of the walk take in a first part of the orders that begin with one of them
  pub siblings_walked : (n : ℕ) (rows : List Row) (path before after : List ℕ) (t : Tally) → t.course ≡ going →
      length before + length after ≡ suc n →
      Walked P limit bound rows path (spread (orders_of n) before after) t
      (siblings P limit bound (walk P limit bound n) n rows path before after t)
  unfolding Walks
  siblings_walked n rows path before after t on sized =
      walked_siblings (walk P limit bound n) n (walk_walked n) rows path before after t on sized

  -- what a walk makes of the lead: it stays, or the first of the lowest among the orders taken in has it
  pub walked_leads : (rows : List Row) (path : List ℕ) (os : List (List ℕ)) (t u : Tally) →
      (w : Walked P limit bound rows path os t u) → Leads P (fill P rows) path w.eaten (lead_of t) (lead_of u)
  walked_leads rows path os t u w =
      subst (Leads P (fill P rows) path w.eaten (lead_of t)) (sym w.led) (try_leads P (fill P rows) path w.eaten (lead_of t))

  -- a walk never raises the mark
  pub walked_mark : (rows : List Row) (path : List ℕ) (os : List (List ℕ)) (t u : Tally) → Walked P limit bound rows path os t u →
      u.mark ≤ t.mark
  unfolding lead_of
  walked_mark rows path os t u w =
      leads_mark P (fill P rows) path w.eaten (lead_of t) (lead_of u) (walked_leads rows path os t u w)

  -- a walk over a list of orders counts no more than that list has
  pub walked_counts : (rows : List Row) (path : List ℕ) (os : List (List ℕ)) (t u : Tally) → Walked P limit bound rows path os t u →
      u.reached + u.ruled ≤ t.reached + t.ruled + length os
  walked_counts rows path os t u w =
      omega (arith, w.counted, ap length w.split, length-append w.eaten w.remaining)

  -- the walk never raises the mark
  pub walk_mark : (n : ℕ) (rows : List Row) (path left : List ℕ) (t : Tally) → t.course ≡ going → length left ≡ n →
      (walk P limit bound n rows path left t).mark ≤ t.mark
  walk_mark n rows path left t on sized =
      walked_mark rows path (orders_of n left) t (walk P limit bound n rows path left t) (walk_walked n rows path left t on sized)

  -- the walk counts n! orders at the most
  pub walk_counts : (n : ℕ) (rows : List Row) (path left : List ℕ) (t : Tally) → t.course ≡ going → length left ≡ n →
      (walk P limit bound n rows path left t).reached + (walk P limit bound n rows path left t).ruled ≤ t.reached + t.ruled + factorial n
  walk_counts n rows path left t on sized =
      omega (
        arith,
        walked_counts rows path (orders_of n left) t (walk P limit bound n rows path left t) (walk_walked n rows path left t on sized),
        orders_of-length n left sized,
      )

  -- the walk takes no step past the limit
  pub walk_steps_held : (n : ℕ) (rows : List Row) (path left : List ℕ) (t : Tally) → t.course ≡ going → length left ≡ n →
      (walk P limit bound n rows path left t).steps ≤ max limit t.steps
  walk_steps_held n rows path left t on sized = (walk_walked n rows path left t on sized).steps_held
