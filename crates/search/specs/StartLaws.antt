-- The walk from its start, and what its end tells.
use Rattle.std.specs.Prelude.{Option, Some, None, is_some, ℕ, zero, suc, ◌+◌, ◌-◌, ◌*◌, ◌≤◌, ◌<◌, Bool, ◌≡◌, eqb, get_or, length, replicate}
use mathlib.Core.List.{List, [], ◌∷◌, Memᴰ, map}
use Rattle.std.proofs.Common.{⊎_elim, sym, subst, ◌∙◌, eqb-true}
use Rattle.std.proofs.Math.Path.{refl, ap}
use native.Mathlib.Omega.{arith}
use Rattle.std.proofs.lemmas.Bool.{eqb-false}
use Rattle.std.proofs.lemmas.List.{get_or-replicate}
use Rattle.theory.proofs.ArrangeLaws.{arrange_back}
use Rattle.theory.proofs.ListingLaws.{listing_length, listing_mem}
use Rattle.theory.specs.Orders.{factorial, count_up, listing, orders_of}
use Rattle.theory.proofs.OrdersLaws.{orders_of_arrange}
use Rattle.theory.specs.Problem.{Problem, Row, fill, top, lowest, start_in}
use Rattle.theory.proofs.ProblemLaws.{lowest_nil, top_nil, start_here, start_other}
use Rattle.theory.specs.Search.{fresh}
use Rattle.theory.proofs.TestLaws.{by_test}
use Rattle.theory.specs.inner.Tried.{Leads, unbeaten, taken, Lead, lead_of, lead_by}
use Rattle.theory.specs.Walk.{Best, none_met, met, siblings, walk}
use Rattle.theory.specs.Walk as walk-specs
use Rattle.theory.proofs.WalkBranchLaws.{walk_siblings}
use Rattle.theory.proofs.WalkLaws.{walk_walked, walked_leads, walk_mark, walk_steps_held}
use Rattle.search.specs.declared.tally.Course.TheVariants.{Going}
use Rattle.search.specs.declared.tally.Plan.{Plan}
use Rattle.search.specs.declared.tally.Tally.{Tally}
use Rattle.search.specs.inner.Arrays.{problem_of, entries, rows_of}
use Rattle.search.specs.inner.Tally.{course_of, best_of, tally_of, Counting}
use Rattle.search.specs.ArraysLaws.{rows_none}
use Rattle.search.specs.FactorialLaws.{factorial_most}
use Rattle.search.specs.inner.Kept.{Sized, Lowest, Ready}
use Rattle.search.specs.StepLaws.{counting_below}
use Rattle.search.specs.inner.Told.{is_met}
use Rattle.search.specs.inner.Tries.{tried_from}
use Rattle.meeting.specs.MeetingLaws.{listing_at}

-- the entries of a list that counts up are the numbers themselves
entries_counted : (list : List ℕ) (from n : ℕ) → ((q : ℕ) → q < n → get_or list (from + q) 0 ≡ from + q) →
    entries list from n ≡ count_up n from
unfolding entries count_up
entries_counted list from zero all = refl
entries_counted list from (suc n) all =
    let first : get_or list from 0 ≡ from =
    subst (λ (r : ℕ). get_or list r 0 ≡ r) (let e : from + 0 ≡ from = omega arith in e) (all 0 (omega arith)) in
    let rest : entries list (suc from) n ≡ count_up n (suc from) =
    entries_counted list (suc from) n
    (λ q h. subst (λ (r : ℕ). get_or list r 0 ≡ r) (let e : from + suc q ≡ suc from + q = omega arith in e) (all (suc q) (omega arith))) in
    ap (λ (i : ℕ). i ∷ entries list (suc from) n) first ∙ ap (λ (l : List ℕ). from ∷ l) rest

-- at the start nothing is placed, and every lowest start is 0
pub ready_first : (table : List (List Bool)) (widths : List ℕ) (guard K : ℕ) (order : List ℕ) → Sized table widths guard K →
    K ≤ length order → ((k : ℕ) → k < K → get_or order k 0 ≡ k) → Ready table widths guard K order (replicate 20 0) (replicate 20 0) 0
unfolding Lowest
ready_first table widths guard K order sized room counted =
    let none : (k : ℕ) → k < K → ◌≡◌ {A = ℕ} (get_or (replicate 20 0) k 0) 0 = λ k h. get_or-replicate 20 k 0 0 (omega (arith, sized.few)) in
    let inside : (p : ℕ) → p < K → get_or order p 0 < K = λ p h. subst (λ (i : ℕ). i < K) (sym (counted p h)) h in
    record {
      sized = sized;
      listed =
          record {
            room = room;
            inside = inside;
            once = λ p q h k e. sym (counted p h) ∙ e ∙ counted q k;
            all = λ k h. record { at = k; within = h; there = counted k h };
          };
      passed =
          record {
            room_low = sized.few;
            room_past = sized.few;
            ended = λ p h. absurd (omega arith);
            unset = λ p h k. none (get_or order p 0) (inside p k);
          };
      kept =
          λ p h k.
          none (get_or order p 0) (inside p k)
          ∙ sym
          (ap (λ (rows : List Row). lowest (problem_of table widths guard) rows (get_or order p 0)) (rows_none (replicate 20 0) order)
          ∙ lowest_nil (problem_of table widths guard) (get_or order p 0));
      below =
          omega (
            arith,
            ap (top (problem_of table widths guard)) (rows_none (replicate 20 0) order),
            top_nil (problem_of table widths guard),
          );
    }

-- nothing is placed: the largest end is 0
pub top_first : (P : Problem) (starts order : List ℕ) → 0 ≡ top P (rows_of starts order 0)
top_first P starts order = sym (ap (top P) (rows_none starts order) ∙ top_nil P)

-- the tally at the start
abbrev pub at_first : ℕ → Tally
at_first S = record { steps = 0; reached = 0; ruled = 0; mark = S + 1; course = Going; best = None }

-- at the start there is room for the orders below each demand
pub counting_first : (K S : ℕ) → 0 < K → K ≤ 20 → S ≤ 384 → Counting (at_first S) ((K - 0) * factorial (K - (0 + 1)))
counting_first K S some few h =
    counting_below (at_first S) K 0 some
    (record {
      on = refl;
      room = omega (arith, factorial_most (K - 0) (omega arith));
      low_mark = omega arith;
    })

-- from the first demand on, with nothing placed and nothing counted: that is the walk from its start
pub tried_first : (P : Problem) (limit bound K S : ℕ) (order starts : List ℕ) → 0 < K → ((k : ℕ) → k < K → get_or order k 0 ≡ k) →
    tried_from P limit bound K order starts 0 0 (tally_of K (at_first S)) ≡
    walk P limit bound K [] [] (listing K) (fresh (S + 1))
unfolding tried_from tally_of best_of course_of fresh listing rows_of entries
tried_first P limit bound K S order starts some counted =
    let m : ℕ = K - (0 + 1) in
    let t : walk-specs.Tally = fresh (S + 1) in
    let all : entries order 0 (K - 0) ≡ count_up K 0 =
    ap (λ (n : ℕ). entries order 0 n) (let e : K - 0 ≡ K = omega arith in e)
    ∙ entries_counted order 0 K
    (λ q h. subst (λ (r : ℕ). get_or order r 0 ≡ r) (let e : q ≡ 0 + q = omega arith in e) (counted q h)) in
    ap (λ (before : List ℕ). siblings P limit bound (walk P limit bound m) m [] [] before (entries order 0 (K - 0)) t)
    (ap (λ (n : ℕ). entries order 0 n) (let e : 0 - 0 ≡ 0 = omega arith in e))
    ∙ ap (λ (after : List ℕ). siblings P limit bound (walk P limit bound m) m [] [] [] after t) all
    ∙ sym (walk_siblings P limit bound m [] [] (count_up K 0) t)
    ∙ ap (λ (n : ℕ). walk P limit bound n [] [] (count_up K 0) t) (let e : suc (K - (0 + 1)) ≡ K = omega arith in e)

-- where a demand stands among entries
record Among (list : List ℕ) (from n k : ℕ) : Type 0 where
  place : ℕ
  within : place < n
  there : get_or list (from + place) 0 ≡ k

-- a demand of some entries stands among them
among : (list : List ℕ) (from n k : ℕ) → Memᴰ k (entries list from n) → Among list from n k
unfolding entries
among list from zero k m = absurd (mathlib.Core.List.Memᴰ.not-nil m)
among list from (suc n) k m =
    ⊎_elim
    (λ (e : k ≡ get_or list from 0).
    record {
      place = 0;
      within = omega arith;
      there = ap (λ (r : ℕ). get_or list r 0) (let z : from + 0 ≡ from = omega arith in z) ∙ sym e;
    })
    (λ (l : Memᴰ k (entries list (suc from) n)).
    let later = among list (suc from) n k l in
    record {
      place = suc later.place;
      within = omega (arith, later.within);
      there = ap (λ (r : ℕ). get_or list r 0) (let z : from + suc later.place ≡ suc from + later.place = omega arith in z) ∙ later.there;
    })
    (mathlib.Core.List.Memᴰ.cases_cons m)

-- rows give each of their demands its start
rows_start : (starts order : List ℕ) (n q k : ℕ) → q < n → get_or order q 0 ≡ k → start_in (rows_of starts order n) k ≡ get_or starts k 0
unfolding rows_of
rows_start starts order zero q k h e = absurd (omega arith)
rows_start starts order (suc n) q k h e =
    let row : Row = record { who = get_or order n 0; at = get_or starts (get_or order n 0) 0 } in
    by_test (eqb (get_or order n 0) k)
    (λ t.
    let same : get_or order n 0 ≡ k = eqb-true (get_or order n 0) k t in
    subst (λ (i : ℕ). start_in (record { who = i; at = get_or starts i 0 } ∷ rows_of starts order n) k ≡ get_or starts k 0) (sym same)
    (start_here k (get_or starts k 0) (rows_of starts order n)))
    (λ f.
    let differ = eqb-false (get_or order n 0) k f in
    let earlier : q < n = by_test (eqb q n)
    (λ t. absurd (differ (ap (λ (r : ℕ). get_or order r 0) (sym (eqb-true q n t)) ∙ e)))
    (λ f. omega (arith, eqb-false q n f)) in
    start_other row (rows_of starts order n) k differ ∙ rows_start starts order n q k earlier e)

-- an order that took the lead from a start with no plan is one of those tried
lead_tried : (P : Problem) (tried : List (List ℕ)) (mark end : ℕ) (best : Best) (rows : List Row) (order : List ℕ) →
    Leads P (fill P []) [] tried (record { mark = mark; best = none_met }) (record { mark = end; best = best }) → best ≡ met rows order →
    Memᴰ order tried
unfolding lead_by
lead_tried P tried mark end best rows order (unbeaten all same) e =
    let none : best ≡ none_met = ap (λ (l : Lead). l.best) same in
    let z : ◌≡◌ {A = ℕ} 0 1 = cc in
    absurd (let no : ⊥ = omega arith in no)
lead_tried P tried mark end best rows order (taken o first is) e =
    let lead : best ≡ met (fill P [] o) o = ap (λ (l : Lead). l.best) is in
    let same : order ≡ o = cc in
    subst (λ (l : List (List ℕ)). Memᴰ order l) (sym first.stands)
    (mathlib.Core.List.Memᴰ.append_right first.earlier (mathlib.Core.List.Memᴰ.head same))

-- the order of the best plan has every demand
best_listed : (P : Problem) (limit bound K mark : ℕ) (rows : List Row) (order : List ℕ) →
    (walk P limit bound K [] [] (listing K) (fresh mark)).best ≡ met rows order → (k : ℕ) → k < K → Memᴰ k order
unfolding fresh lead_of
best_listed P limit bound K mark rows order e k h =
    let t : walk-specs.Tally = fresh mark in
    let u : walk-specs.Tally = walk P limit bound K [] [] (listing K) t in
    let w = walk_walked P limit bound K [] [] (listing K) t refl (listing_length K) in
    let tried =
    lead_tried P w.eaten mark u.mark u.best rows order
    (walked_leads P limit bound [] [] (orders_of K (listing K)) t u w) e in
    let among-all : Memᴰ order (orders_of K (listing K)) =
    subst (λ (l : List (List ℕ)). Memᴰ order l) (sym w.split) (mathlib.Core.List.Memᴰ.append_left w.remaining tried) in
    arrange_back order (listing K) (orders_of_arrange K (listing K) order (listing_length K) among-all) k (listing_mem K k h)

-- whether a plan was met is whether there is one
pub met_some : (K : ℕ) (best : Option Plan) → is_some best ≡ is_met (best_of K best)
unfolding is_met best_of
met_some K None = refl
met_some K (Some plan) = refl

module _ (P : Problem) (limit bound K S : ℕ) (t : Tally)
    (ended : tally_of K t ≡ walk P limit bound K [] [] (listing K) (fresh (S + 1))) where
  -- a plan that is held is the best plan of the walk
  held : (plan : Plan) (rows : List Row) (order : List ℕ) → t.best ≡ Some plan →
      (walk P limit bound K [] [] (listing K) (fresh (S + 1))).best ≡ met rows order →
      (rows_of plan.starts plan.order K ≡ rows) × (entries plan.order 0 K ≡ order)
  unfolding tally_of best_of
  held plan rows order is e =
      let same : met (rows_of plan.starts plan.order K) (entries plan.order 0 K) ≡ met rows order =
      sym (ap (best_of K) is) ∙ ap (λ (u : walk-specs.Tally). u.best) ended ∙ e in
      ((cc), (cc))

  -- the plan held has each demand's start
  pub ended_starts : (plan : Plan) (rows : List Row) (order : List ℕ) → t.best ≡ Some plan →
      (walk P limit bound K [] [] (listing K) (fresh (S + 1))).best ≡ met rows order → (k : ℕ) → k < K →
      get_or plan.starts k 0 ≡ start_in rows k
  ended_starts plan rows order is e k h =
      let same = held plan rows order is e in
      let place =
      among plan.order 0 K k
      (subst (λ (l : List ℕ). Memᴰ k l) (sym same.1) (best_listed P limit bound K (S + 1) rows order e k h)) in
      sym
      (rows_start plan.starts plan.order K place.place k place.within
      (ap (λ (r : ℕ). get_or plan.order r 0) (let z : place.place ≡ 0 + place.place = omega arith in z) ∙ place.there))
      ∙ ap (λ (l : List Row). start_in l k) same.0

  -- and its order
  pub ended_order : (plan : Plan) (rows : List Row) (order : List ℕ) → t.best ≡ Some plan →
      (walk P limit bound K [] [] (listing K) (fresh (S + 1))).best ≡ met rows order → entries plan.order 0 K ≡ order
  ended_order plan rows order is e = (held plan rows order is e).1

  -- no more steps were taken than the limit allows
  pub ended_steps : t.steps ≤ limit
  unfolding tally_of fresh
  ended_steps =
      omega (
        arith,
        ap (λ (u : walk-specs.Tally). u.steps) ended,
        walk_steps_held P limit bound K [] [] (listing K) (fresh (S + 1)) refl (listing_length K),
      )

  -- the mark was never raised
  pub ended_mark : t.mark ≤ S + 1
  unfolding tally_of fresh
  ended_mark =
      omega (
        arith,
        ap (λ (u : walk-specs.Tally). u.mark) ended,
        walk_mark P limit bound K [] [] (listing K) (fresh (S + 1)) refl (listing_length K),
      )

-- twenty listing positions, one by one
abbrev pub twenty : List ℕ
twenty = 0 ∷ 1 ∷ 2 ∷ 3 ∷ 4 ∷ 5 ∷ 6 ∷ 7 ∷ 8 ∷ 9 ∷ 10 ∷ 11 ∷ 12 ∷ 13 ∷ 14 ∷ 15 ∷ 16 ∷ 17 ∷ 18 ∷ 19 ∷ []

twenty_all : twenty ≡ map (λ (j : ℕ). j) (listing 20)
unfolding listing count_up
twenty_all = refl

-- they are the listing positions in listing order
pub twenty_listed : (k : ℕ) → k < 20 → get_or twenty k 0 ≡ k
twenty_listed k h = ap (λ (l : List ℕ). get_or l k 0) twenty_all ∙ listing_at (λ (j : ℕ). j) 20 k 0 h
