-- Putting a demand down: the order with it brought forward, the starts mended, and the walk below it.
use Prim.Native.Nat.{ℕ, suc, ◌+◌, ◌-◌, ◌≤◌, ◌<◌}
use Rattle.std.specs.Prelude.{Bool, cond, ◌≡◌, refl, ltb, eqb, set}
use mathlib.Core.List.{List, [], ◌∷◌, ◌++◌}
use Rattle.std.proofs.Common.{⊎_elim, ◌∙◌, eq-or-lt_of_le, ltb-true, ltb-false, eqb-true, lt-ltb, le-ltb, eq-eqb, ne_eqb, length-set, get_or-set_same, get_or-set_other}
use Rattle.std.proofs.Math.Path.{sym, subst, ap}
use native.Mathlib.Omega.{arith}
use Rattle.std.proofs.lemmas.Bool.{eqb-false}
use Rattle.std.proofs.Math.ListN.{get_or}
use Rattle.theory.specs.Problem.{Problem, Row, place, top, lowest}
use Rattle.theory.proofs.ProblemLaws.{place_is}
use Rattle.theory.proofs.TestLaws.{by_test}
use Rattle.theory.specs.Walk.{Tally, siblings, walk}
use Rattle.theory.proofs.WalkBranchLaws.{walk_siblings}
use Rattle.search.specs.inner.Arrays.{problem_of, entries, rows_of}
use Rattle.search.specs.ArraysLaws.{entries_none, entries_append, entries_last, entries_same, rows_more, rows_same}
use Rattle.search.specs.inner.Kept.{Place, Listed, Passed, Lowest, Ready, Mendable, Mended, Brought}
use Rattle.search.specs.KeptLaws.{kept_bounded, mended_rows, mended_mendable}
use Rattle.search.specs.inner.Tries.{tried_from, gone_into}

-- where the entry at place r goes when the one at place p is brought forward to place n
target : ℕ → ℕ → ℕ → ℕ
target n p r = cond (eqb r p) n (cond (ltb r n) r (cond (ltb r p) (r + 1) r))

-- the entry at place p goes to place n
target_first : (n p r : ℕ) → r ≡ p → target n p r ≡ n
unfolding target
target_first n p r e = rw (eq-eqb r p e)

-- an entry before place n stays
target_front : (n p r : ℕ) → n ≤ p → r < n → target n p r ≡ r
unfolding target
target_front n p r h l = rw (ne_eqb r p (λ e. omega arith), lt-ltb r n l)

-- an entry between goes one back
target_between : (n p r : ℕ) → n ≤ r → r < p → target n p r ≡ r + 1
unfolding target
target_between n p r h l = rw (ne_eqb r p (λ e. omega arith), le-ltb r n h, lt-ltb r p l)

-- an entry behind place p stays
target_back : (n p r : ℕ) → n ≤ p → p < r → target n p r ≡ r
unfolding target
target_back n p r h l = rw (ne_eqb r p (λ e. omega arith), le-ltb r n (omega arith), le-ltb r p (omega arith))

-- where the entry at place q came from
record Source (K n p : ℕ) (order down : List ℕ) (q : ℕ) : Type 0 where
  from : ℕ
  within : from < K
  same : get_or down q 0 ≡ get_or order from 0
  back : target n p from ≡ q
  later : n < q → n ≤ from

module _ (K n p : ℕ) (order down : List ℕ) (h : n ≤ p) (k : p < K) (brought : Brought order n p down) where
  -- each entry came from somewhere
  source : (q : ℕ) → q < K → Source K n p order down q
  source q l =
      by_test (eqb q n)
      (λ e.
      let is : q ≡ n = eqb-true q n e in
      record {
        from = p;
        within = k;
        same = ap (λ (r : ℕ). get_or down r 0) is ∙ brought.first;
        back = target_first n p p refl ∙ sym is;
        later = λ m. h;
      })
      (λ e.
      let not-n = eqb-false q n e in
      by_test (ltb q n)
      (λ f.
      let less : q < n = ltb-true q n f in
      record {
        from = q;
        within = l;
        same = brought.front q less;
        back = target_front n p q h less;
        later = λ m. absurd (omega arith);
      })
      (λ f.
      let more : n ≤ q = ltb-false q n f in
      by_test (ltb p q)
      (λ g.
      let past : p < q = ltb-true p q g in
      record { from = q; within = l; same = brought.back q past; back = target_back n p q h past; later = λ m. more })
      (λ g.
      let not-past : q ≤ p = ltb-false p q g in
      let above : n < q = omega (arith, not-n) in
      let is : q - 1 + 1 ≡ q = omega arith in
      record {
        from = q - 1;
        within = omega arith;
        same = ap (λ (r : ℕ). get_or down r 0) (sym is) ∙ brought.between (q - 1) (omega arith) (omega arith);
        back = target_between n p (q - 1) (omega arith) (omega arith) ∙ is;
        later = λ m. omega arith;
      })))

  -- each entry stands at its target
  moved : (r : ℕ) → r < K → Place K down (get_or order r 0)
  moved r l =
      by_test (eqb r p)
      (λ e.
      let is : r ≡ p = eqb-true r p e in
      record { at = n; within = omega arith; there = brought.first ∙ ap (λ (q : ℕ). get_or order q 0) (sym is) })
      (λ e.
      let not-p = eqb-false r p e in
      by_test (ltb r n)
      (λ f. record { at = r; within = l; there = brought.front r (ltb-true r n f) })
      (λ f.
      let more : n ≤ r = ltb-false r n f in
      by_test (ltb r p)
      (λ g.
      let less : r < p = ltb-true r p g in
      record { at = r + 1; within = omega arith; there = brought.between r more less })
      (λ g.
      let past : p ≤ r = ltb-false r p g in
      record { at = r; within = l; there = brought.back r (omega (arith, not-p)) })))

  -- bringing an entry forward keeps each demand once in the order
  pub brought_listed : Listed K order → Listed K down
  brought_listed listed =
      record {
        room = omega (arith, listed.room, brought.long);
        inside = λ q l. let s = source q l in subst (λ (i : ℕ). i < K) (sym s.same) (listed.inside s.from s.within);
        once =
            λ q r l m e.
            let s = source q l in
            let t = source r m in
            sym s.back
            ∙ ap (target n p) (listed.once s.from t.from s.within t.within (sym s.same ∙ e ∙ t.same))
            ∙ t.back;
        all =
            λ j l.
            let o = listed.all j l in
            let m = moved o.at o.within in
            record { at = m.at; within = m.within; there = m.there ∙ o.there };
      }

module _ (table : List (List Bool)) (widths : List ℕ) (guard K : ℕ) (order low past : List ℕ) (n p : ℕ) (down : List ℕ)
    (ready : Ready table widths guard K order low past n) (h : n ≤ p) (k : p < K) (brought : Brought order n p down) where
  -- the rows with the demand put down are those that the theory places
  pub brought_rows : rows_of low down (n + 1) ≡ place (problem_of table widths guard) (rows_of low order n) (get_or order p 0)
  unfolding Lowest
  brought_rows =
      let P : Problem = problem_of table widths guard in
      let who : get_or down n 0 ≡ get_or order p 0 = brought.first in
      let before : rows_of low down n ≡ rows_of low order n =
      rows_same low low down order n (λ q l. brought.front q l) (λ q l. refl) in
      let at : get_or low (get_or down n 0) 0 ≡ lowest P (rows_of low order n) (get_or order p 0) =
      ap (λ (i : ℕ). get_or low i 0) who ∙ ready.kept p h k in
      rows_more low down n
      ∙ ap (λ (rows : List Row). record { who = get_or down n 0; at = get_or low (get_or down n 0) 0 } ∷ rows) before
      ∙ ap (λ (i : ℕ). record { who = i; at = get_or low (get_or down n 0) 0 } ∷ rows_of low order n) who
      ∙ ap (λ (s : ℕ). record { who = get_or order p 0; at = s } ∷ rows_of low order n) at
      ∙ sym (place_is P (rows_of low order n) (get_or order p 0))

  -- the place past each, with that of the demand put down
  brought_passed : Passed widths guard K down low
      (set past (get_or down n 0) (get_or low (get_or down n 0) 0 + get_or widths (get_or down n 0) 0 + guard)) (n + 1)
  brought_passed =
      let listed = brought_listed K n p order down h k brought ready.listed in
      let i : ℕ = get_or down n 0 in
      let end : ℕ = get_or low i 0 + get_or widths i 0 + guard in
      let other : (q : ℕ) → q < K → (q ≡ n → ⊥) → get_or (set past i end) (get_or down q 0) 0 ≡ get_or past (get_or down q 0) 0 =
      λ q l d. get_or-set_other past i (get_or down q 0) end 0 (λ same. d (listed.once q n l (omega arith) same)) in
      record {
        room_low = ready.passed.room_low;
        room_past = omega (arith, ready.passed.room_past, length-set past i end);
        ended =
            λ q l.
            ⊎_elim
            (λ (e : q ≡ n).
            subst
            (λ (r : ℕ).
            get_or (set past i end) (get_or down r 0) 0 ≡ get_or low (get_or down r 0) 0 + get_or widths (get_or down r 0) 0 + guard)
            (sym e)
            (get_or-set_same past i end 0 (omega (arith, ready.passed.room_past, listed.inside n (omega arith)))))
            (λ (less : q < n).
            other q (omega arith) (λ d. omega arith)
            ∙ subst (λ (j : ℕ). get_or past j 0 ≡ get_or low j 0 + get_or widths j 0 + guard) (sym (brought.front q less))
            (ready.passed.ended q less))
            (eq-or-lt_of_le (let most : q ≤ n = omega arith in most));
        unset =
            λ q l m.
            let s = source K n p order down h k brought q m in
            other q m (λ d. omega arith)
            ∙ subst (λ (j : ℕ). get_or past j 0 ≡ 0) (sym s.same)
            (ready.passed.unset s.from (s.later (omega arith)) s.within);
      }

  -- with the demand put down the starts are ready to be mended
  pub brought_mendable : top (problem_of table widths guard) (place (problem_of table widths guard) (rows_of low order n) (get_or order p 0)) ≤ 384 →
      Mendable table widths guard K down low
      (set past (get_or down n 0) (get_or low (get_or down n 0) 0 + get_or widths (get_or down n 0) 0 + guard)) n (n + 1)
  unfolding Lowest
  brought_mendable below =
      record {
        sized = ready.sized;
        listed = brought_listed K n p order down h k brought ready.listed;
        within = omega arith;
        passed = brought_passed;
        kept =
            λ q l m.
            let s = source K n p order down h k brought q m in
            let before : rows_of low order n ≡ rows_of low down n =
            rows_same low low order down n (λ r b. sym (brought.front r b)) (λ r b. refl) in
            subst
            (λ (j : ℕ). get_or low j 0 ≡ lowest (problem_of table widths guard) (rows_of low down n) j)
            (sym s.same)
            (ready.kept s.from (s.later (omega arith)) s.within
            ∙ ap (λ (rows : List Row). lowest (problem_of table widths guard) rows (get_or order s.from 0)) before);
        below = subst (λ (rows : List Row). top (problem_of table widths guard) rows ≤ 384) (sym brought_rows) below;
      }

  -- the demand put down is one of the twenty, starts no higher than 392 and is no wider than 384
  pub brought_small : (get_or low (get_or down n 0) 0 ≤ 392) × (get_or widths (get_or down n 0) 0 ≤ 384) × (get_or down n 0 < 20)
  brought_small =
      subst (λ (i : ℕ). (get_or low i 0 ≤ 392) × (get_or widths i 0 ≤ 384) × (i < 20)) (sym brought.first) (
        kept_bounded table widths guard K order low past n ready.sized ready.below n ready.kept p h k,
        ready.sized.narrow (get_or order p 0) (ready.listed.inside p k),
        omega (arith, ready.sized.few, ready.listed.inside p k),
      )

-- with the starts mended the walk may go on
pub mended_ready : (table : List (List Bool)) (widths : List ℕ) (guard K : ℕ) (order low past : List ℕ) (n : ℕ) (mended : List ℕ) →
    Mendable table widths guard K order low past n (n + 1) → Mended table widths guard K order low n K mended →
    Ready table widths guard K order mended past (n + 1)
unfolding Lowest
mended_ready table widths guard K order low past n mended m all =
    let after = mended_mendable table widths guard K order low past n K mended m.within m all in
    record {
      sized = m.sized;
      listed = m.listed;
      passed = after.passed;
      kept =
          λ q l k.
          all.done q (omega arith) k k
          ∙ ap (λ (rows : List Row). lowest (problem_of table widths guard) rows (get_or order q 0))
          (sym (mended_rows table widths guard K order low past n K mended all (n + 1) (omega arith)));
      below = after.below;
    }

module _ (P : Problem) (limit bound K : ℕ) (order low : List ℕ) (n p : ℕ) (down starts : List ℕ) (h : n ≤ p) (k : p < K)
    (brought : Brought order n p down) where
  -- the path with the demand put down
  brought_path : entries down 0 (n + 1) ≡ entries order 0 n ++ (get_or order p 0 ∷ [])
  brought_path =
      entries_last down 0 n
      ∙ ap (λ (l : List ℕ). l ++ (get_or down (0 + n) 0 ∷ []))
      (entries_same down order 0 0 n
      (λ q l. subst (λ (r : ℕ). get_or down r 0 ≡ get_or order r 0) (let e : q ≡ 0 + q = omega arith in e) (brought.front q l)))
      ∙ ap (λ (i : ℕ). entries order 0 n ++ (i ∷ []))
      (ap (λ (r : ℕ). get_or down r 0) (let e : 0 + n ≡ n = omega arith in e) ∙ brought.first)

  -- the demands left below it
  brought_left : entries down (n + 1) (K - (n + 1)) ≡ entries order n (p - n) ++ entries order (p + 1) (K - (p + 1))
  brought_left =
      ap (λ (m : ℕ). entries down (n + 1) m) (let e : K - (n + 1) ≡ (p - n) + (K - (p + 1)) = omega arith in e)
      ∙ entries_append down (n + 1) (p - n) (K - (p + 1))
      ∙ ap (λ (l : List ℕ). l ++ entries down (n + 1 + (p - n)) (K - (p + 1)))
      (entries_same down order (n + 1) n (p - n)
      (λ q l.
      ap (λ (r : ℕ). get_or down r 0) (let e : n + 1 + q ≡ n + q + 1 = omega arith in e)
      ∙ brought.between (n + q) (omega arith) (omega arith)))
      ∙ ap (λ (l : List ℕ). entries order n (p - n) ++ l)
      (entries_same down order (n + 1 + (p - n)) (p + 1) (K - (p + 1))
      (λ q l.
      ap (λ (r : ℕ). get_or down r 0) (let e : n + 1 + (p - n) + q ≡ p + 1 + q = omega arith in e)
      ∙ brought.back (p + 1 + q) (omega arith)))

  -- the walk below a demand that was put down tries all that are left, from the first on
  pub gone_tried : n + 1 < K → (t : Tally) → rows_of starts down (n + 1) ≡ place P (rows_of low order n) (get_or order p 0) →
      gone_into P limit bound K order low n p t ≡ tried_from P limit bound K down starts (n + 1) (n + 1) t
  unfolding gone_into tried_from
  gone_tried more t rows =
      let m : ℕ = K - (n + 1 + 1) in
      let sub : List Row → List ℕ → List ℕ → Tally → Tally = walk P limit bound m in
      ap
      (λ (m : ℕ).
      walk P limit bound m (place P (rows_of low order n) (get_or order p 0)) (entries order 0 n ++ (get_or order p 0 ∷ []))
      (entries order n (p - n) ++ entries order (p + 1) (K - (p + 1))) t)
      (let e : K - (n + 1) ≡ suc (K - (n + 1 + 1)) = omega arith in e)
      ∙ walk_siblings P limit bound m (place P (rows_of low order n) (get_or order p 0)) (entries order 0 n ++ (get_or order p 0 ∷ []))
      (entries order n (p - n) ++ entries order (p + 1) (K - (p + 1))) t
      ∙ ap
      (λ (r : List Row).
      siblings P limit bound sub m r (entries order 0 n ++ (get_or order p 0 ∷ [])) []
      (entries order n (p - n) ++ entries order (p + 1) (K - (p + 1))) t)
      (sym rows)
      ∙ ap
      (λ (path : List ℕ).
      siblings P limit bound sub m (rows_of starts down (n + 1)) path []
      (entries order n (p - n) ++ entries order (p + 1) (K - (p + 1))) t)
      (sym brought_path)
      ∙ ap
      (λ (left : List ℕ). siblings P limit bound sub m (rows_of starts down (n + 1)) (entries down 0 (n + 1)) [] left t)
      (sym brought_left)
      ∙ ap
      (λ (before : List ℕ).
      siblings P limit bound sub m (rows_of starts down (n + 1)) (entries down 0 (n + 1)) before (entries down (n + 1) (K - (n + 1))) t)
      (sym
      (ap (λ (r : ℕ). entries down (n + 1) r) (let e : n + 1 - (n + 1) ≡ 0 = omega arith in e) ∙ entries_none down (n + 1)))

module _ (table : List (List Bool)) (widths : List ℕ) (guard K : ℕ) (order low past : List ℕ) (n p : ℕ) (down starts : List ℕ)
    (ready : Ready table widths guard K order low past n) (h : n ≤ p) (k : p < K) (brought : Brought order n p down)
    (below : top (problem_of table widths guard) (place (problem_of table widths guard) (rows_of low order n) (get_or order p 0)) ≤ 384)
    (mended : Mended table widths guard K down low n K starts) where
  -- one level down, the walk may go on
  pub down_ready : Ready table widths guard K down starts
      (set past (get_or down n 0) (get_or low (get_or down n 0) 0 + get_or widths (get_or down n 0) 0 + guard)) (n + 1)
  down_ready =
      mended_ready table widths guard K down low
      (set past (get_or down n 0) (get_or low (get_or down n 0) 0 + get_or widths (get_or down n 0) 0 + guard)) n starts
      (brought_mendable table widths guard K order low past n p down ready h k brought below) mended

  -- the rows one level down are those that the theory places
  pub down_rows : rows_of starts down (n + 1) ≡ place (problem_of table widths guard) (rows_of low order n) (get_or order p 0)
  down_rows =
      mended_rows table widths guard K down low past n K starts mended (n + 1) (omega arith)
      ∙ brought_rows table widths guard K order low past n p down ready h k brought
