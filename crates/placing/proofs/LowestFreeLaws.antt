-- First fit keeps its promise.
use Prim.Native.Nat.{ℕ, zero, suc, ◌+◌}
use Rattle.std.specs.Prelude.{true, false, ◌⊎◌, ◌≡◌, refl}
use mathlib.Core.List.{List, [], ◌∷◌, ◌++◌, Memᴰ}
use Rattle.std.proofs.Common.{inl, inr, ap₂, ◌∙◌}
use Rattle.std.proofs.Math.Logic.{⊎_elim}
use Rattle.std.proofs.Math.Path.{sym, ap, subst}
use native.Mathlib.Omega.{arith}
use Rattle.theory.specs.Problem.{Problem, Row, apart, fits, lowest, place, fill, start_in, placed, first_fit}
use Rattle.theory.proofs.ApartLaws.{apart_cases, clash_facts, clash_from}
use Rattle.theory.proofs.ProblemLaws.{end_is, place_is, fill_nil, fill_cons, fill_append, start_placed, start_kept, start_filled, start_first}
use Rattle.theory.specs.Blocker.{blocker_at, blocker_below, blocker_in}
use Rattle.theory.proofs.BlockerLaws.{misfit_clash, misfit_blocker, below_misfit, blocker_ends, blocker_filled}
use Rattle.theory.specs.inner.Clashes.{ClashAt}
use Rattle.board.specs.Board.{blocker_told, entry_of}
use Rattle.theory.proofs.FillLaws.{fill_pairwise}
use Rattle.theory.proofs.FirstFitLaws.{placed_each}
use Rattle.theory.proofs.ArrangeLaws.{mem_middle, no_repeats_first, no_repeats_rest, no_repeats_with, no_repeats_middle}
use Rattle.theory.specs.Earlier.{NoRepeats, Chained}
use Rattle.request.specs.View.{View}
use Rattle.request.specs.Sharing.{problem_of}
use Rattle.meeting.specs.MeetingLaws.{joined_swap}
use Rattle.placing.specs.LowestFree.{Clashing, ClashesWith, LowestFree, EachLowest, InTheWay, BlockerNamed, EachBlocked}
use Rattle.placing.specs.FirstFit.{blocker_entry}

-- a row of a fill stood before, or is a demand of the order at its start
pub fill_row : (P : Problem) (rows : List Row) (order : List ℕ) → NoRepeats order → (r : Row) → Memᴰ r (fill P rows order) →
    Memᴰ r rows ⊎ (Memᴰ r.who order × (start_in (fill P rows order) r.who ≡ r.at))
fill_row P rows [] once r m = inl (rw fill_nil at m)
fill_row P rows (j ∷ order) once r m =
    ⊎_elim
    (λ (stood : Memᴰ r (place P rows j)).
    ⊎_elim
    (λ (e : r ≡ record { who = j; at = lowest P rows j }).
    let who-is : r.who ≡ j = ap (λ (q : Row). q.who) e in
    let at-is : r.at ≡ lowest P rows j = ap (λ (q : Row). q.at) e in
    inr (
      mathlib.Core.List.Memᴰ.head who-is,
      ap (start_in (fill P rows (j ∷ order))) who-is
          ∙ ap (λ (out : List Row). start_in out j) (fill_cons P rows j order)
          ∙ start_kept P (place P rows j) order j (no_repeats_first j order once)
          ∙ start_placed P rows j
          ∙ sym at-is,
    ))
    (λ (n : Memᴰ r rows). inl n)
    (mathlib.Core.List.Memᴰ.cases_cons (rw place_is at stood)))
    (λ (n : Memᴰ r.who order × (start_in (fill P (place P rows j) order) r.who ≡ r.at)).
    inr (mathlib.Core.List.Memᴰ.tail n.0, ap (λ (out : List Row). start_in out r.who) (fill_cons P rows j order) ∙ n.1))
    (fill_row P (place P rows j) order (no_repeats_rest j order once) r (rw fill_cons at m))

-- a row that stands stays while others are placed
fill_keeps : (P : Problem) (rows : List Row) (order : List ℕ) (r : Row) → Memᴰ r rows → Memᴰ r (fill P rows order)
fill_keeps P rows [] r m = rw fill_nil m
fill_keeps P rows (j ∷ order) r m =
    rw fill_cons (fill_keeps P (place P rows j) order r (rw place_is (mathlib.Core.List.Memᴰ.tail m)))

-- a demand of the order has its row in the fill
fill_there : (P : Problem) (rows : List Row) (order : List ℕ) → NoRepeats order → (j : ℕ) → Memᴰ j order →
    Memᴰ (record { who = j; at = start_in (fill P rows order) j }) (fill P rows order)
fill_there P rows [] once j m = absurd (mathlib.Core.List.Memᴰ.not-nil m)
fill_there P rows (i ∷ order) once j m =
    ⊎_elim
    (λ (e : j ≡ i).
    rw (e, start_first P rows i order (no_repeats_first i order once), fill_cons)
    (fill_keeps P (place P rows i) order (record { who = i; at = lowest P rows i }) (rw place_is (mathlib.Core.List.Memᴰ.head refl))))
    (λ (n : Memᴰ j order). rw fill_cons (fill_there P (place P rows i) order (no_repeats_rest i order once) j n))
    (mathlib.Core.List.Memᴰ.cases_cons m)

-- in a list in which nothing stands twice, no element of its front is in its back
parts_differ : (front back : List ℕ) → NoRepeats (front ++ back) → (j : ℕ) → Memᴰ j front → Memᴰ j back → ⊥
parts_differ [] back once j m n = mathlib.Core.List.Memᴰ.not-nil m
parts_differ (x ∷ front) back once j m n =
    ⊎_elim
    (λ (e : j ≡ x). no_repeats_first x (front ++ back) once (mathlib.Core.List.Memᴰ.append_right front (mathlib.Core.List.Memᴰ.cast (sym e) n)))
    (λ (l : Memᴰ j front). parts_differ front back (no_repeats_rest x (front ++ back) once) j l n)
    (mathlib.Core.List.Memᴰ.cases_cons m)

-- nothing stands twice in its front
pub front_once : (front back : List ℕ) → NoRepeats (front ++ back) → NoRepeats front
unfolding NoRepeats Chained
front_once [] back once = tt
front_once (x ∷ front) back once =
    no_repeats_with x front
    (λ m. no_repeats_first x (front ++ back) once (mathlib.Core.List.Memᴰ.append_left back m))
    (front_once front back (no_repeats_rest x (front ++ back) once))

module _ (v : View) where
  -- two demands that are not apart clash
  clash_is : (j t i s : ℕ) → apart (problem_of v) j t i s ≡ false → Clashing v i s j t
  unfolding problem_of
  clash_is j t i s c =
      let (joined, low, high) = clash_facts (problem_of v) j t i s c in
      record {
        share = joined_swap v i j ∙ joined;
        not_before = omega (arith, end_is (problem_of v) i s);
        not_after = omega (arith, end_is (problem_of v) j t);
      }

  -- two demands that are apart do not
  apart_clears : (i s j t : ℕ) → apart (problem_of v) i s j t ≡ true → Clashing v i s j t → ⊥
  unfolding problem_of
  apart_clears i s j t a c =
      ⊎_elim
      (λ before. omega (arith, end_is (problem_of v) i s, c.not_before))
      (λ after. omega (arith, end_is (problem_of v) j t, c.not_after))
      (apart_cases (problem_of v) i s j t a c.share)

  -- two demands that clash are not apart
  clash_parts : (i s j t : ℕ) → Clashing v i s j t → apart (problem_of v) j t i s ≡ false
  unfolding problem_of
  clash_parts i s j t c =
      clash_from (problem_of v) j t i s (joined_swap v j i ∙ c.share)
      (omega (arith, end_is (problem_of v) j t, c.not_after))
      (omega (arith, end_is (problem_of v) i s, c.not_before))

  -- those placed before, at the starts of a plan
  module _ (plan : ℕ → ℕ) (before : List ℕ) (once : NoRepeats before)
      (starts : (j : ℕ) → Memᴰ j before → plan j ≡ start_in (fill (problem_of v) [] before) j) where
    -- a number that clashes is a demand placed before, at its start
    clash_start : (i s b : ℕ) (c : ClashAt (problem_of v) (fill (problem_of v) [] before) i s b) →
        Memᴰ b before × (c.row.at ≡ plan b)
    clash_start i s b c =
        ⊎_elim
        (λ (stood : Memᴰ c.row []). absurd (mathlib.Core.List.Memᴰ.not-nil stood))
        (λ (n : Memᴰ c.row.who before × (start_in (fill (problem_of v) [] before) c.row.who ≡ c.row.at)).
        let there : Memᴰ b before = mathlib.Core.List.Memᴰ.cast (sym c.number) n.0 in
        (there, sym n.1 ∙ ap (start_in (fill (problem_of v) [] before)) c.number ∙ sym (starts b there)))
        (fill_row (problem_of v) [] before once c.row c.stands)

    -- and it clashes there
    clash_before : (i s b : ℕ) → ClashAt (problem_of v) (fill (problem_of v) [] before) i s b → Clashing v i s b (plan b)
    clash_before i s b c =
        clash_is b (plan b) i s
        (ap₂ (λ (k t : ℕ). apart (problem_of v) k t i s) (sym c.number) (sym (clash_start i s b c).1) ∙ c.clash)

    -- and a demand placed before that clashes is such a number
    clash_among : (i s b : ℕ) → Memᴰ b before → Clashing v i s b (plan b) →
        ClashAt (problem_of v) (fill (problem_of v) [] before) i s b
    clash_among i s b m c =
        record {
          row = record { who = b; at = start_in (fill (problem_of v) [] before) b };
          stands = fill_there (problem_of v) [] before once b m;
          number = refl;
          clash = ap (λ (t : ℕ). apart (problem_of v) b t i s) (sym (starts b m)) ∙ clash_parts i s b (plan b) c;
        }

    -- where a demand does not fit beside those before it, it clashes with one of them
    pub before_clashes : (i s : ℕ) → fits (problem_of v) (fill (problem_of v) [] before) i s ≡ false → ClashesWith v plan before i s
    before_clashes i s f =
        let (b, c) = misfit_clash (problem_of v) (fill (problem_of v) [] before) i s f in
        record { other = b; placed_before = (clash_start i s b c).0; clash = clash_before i s b c }

    -- and the blocker there is the one of them that is in the way
    pub before_blocked : (i s : ℕ) → fits (problem_of v) (fill (problem_of v) [] before) i s ≡ false →
        InTheWay v plan before i s (blocker_entry (blocker_at (problem_of v) (fill (problem_of v) [] before) i s))
    unfolding blocker_entry blocker_told entry_of
    before_blocked i s f =
        let (b, is, c, least) = misfit_blocker (problem_of v) (fill (problem_of v) [] before) i s f in
        rw is
        (record {
          placed_before = (clash_start i s b c).0;
          clash = clash_before i s b c;
          lowest_listed = λ other m hits. least other (clash_among i s other m hits);
        })

    -- it ends a guard below a lowest start that is one above
    blocker_under : (i s : ℕ) → lowest (problem_of v) (fill (problem_of v) [] before) i ≡ suc s →
        let b : ℕ = blocker_entry (blocker_at (problem_of v) (fill (problem_of v) [] before) i s) in
        plan b + (problem_of v).width b + v.band.guard ≡ suc s
    unfolding blocker_entry blocker_told entry_of problem_of
    blocker_under i s low =
        let rows : List Row = fill (problem_of v) [] before in
        let (b, is, c, least) = misfit_blocker (problem_of v) rows i s (below_misfit (problem_of v) rows i s (omega (arith, low))) in
        rw is
        (omega (
          arith,
          low,
          (clash_start i s b c).1,
          ap (λ (k : ℕ). (problem_of v).width k) c.number,
          end_is (problem_of v) c.row.who c.row.at,
          blocker_ends (problem_of v) rows i s c.row c.stands low c.clash,
        ))

    -- the blocker below a demand's lowest start is named as promised
    named_at : (i start : ℕ) → plan i ≡ start → start ≡ lowest (problem_of v) (fill (problem_of v) [] before) i →
        BlockerNamed v plan before i (blocker_entry (blocker_below (problem_of v) (fill (problem_of v) [] before) i start))
    unfolding blocker_below blocker_entry blocker_told entry_of problem_of
    named_at i zero at low =
        record {
          none_at_0 = λ e. refl;
          in_the_way = λ s e. absurd (omega (arith, at, e));
          ends_below = λ above. absurd (omega (arith, at, above));
        }
    named_at i (suc s) at low =
        record {
          none_at_0 = λ e. absurd (omega (arith, at, e));
          in_the_way =
              λ t e.
              subst (λ (u : ℕ). InTheWay v plan before i u (blocker_entry (blocker_at (problem_of v) (fill (problem_of v) [] before) i s)))
              (let same : s ≡ t = omega (arith, at, e) in same)
              (before_blocked i s (below_misfit (problem_of v) (fill (problem_of v) [] before) i s (omega (arith, low))));
          ends_below = λ above. blocker_under i s (sym low) ∙ sym at;
        }

    blocker_promised : (i : ℕ) → plan i ≡ lowest (problem_of v) (fill (problem_of v) [] before) i →
        BlockerNamed v plan before i
        (blocker_entry (blocker_below (problem_of v) (fill (problem_of v) [] before) i (lowest (problem_of v) (fill (problem_of v) [] before) i)))
    blocker_promised i here = named_at i (lowest (problem_of v) (fill (problem_of v) [] before) i) here refl

  -- what a plan that follows first fit along an order does where the order is split
  module _ (plan : ℕ → ℕ) (order : List ℕ) (once : NoRepeats order)
      (starts : (j : ℕ) → Memᴰ j order → plan j ≡ start_in (fill (problem_of v) [] order) j)
      (before : List ℕ) (i : ℕ) (after : List ℕ) (split : order ≡ before ++ (i ∷ after)) where
    once_split : NoRepeats (before ++ (i ∷ after))
    once_split = subst NoRepeats split once

    -- nothing stands twice before the split
    once_before : NoRepeats before
    once_before = front_once before (i ∷ after) once_split

    starts_split : (j : ℕ) → Memᴰ j (before ++ (i ∷ after)) → plan j ≡ start_in (fill (problem_of v) [] (before ++ (i ∷ after))) j
    starts_split j m =
        starts j (subst (Memᴰ j) (sym split) m) ∙ ap (λ (o : List ℕ). start_in (fill (problem_of v) [] o) j) split

    -- the demand at the split stands nowhere else
    lone : Memᴰ i (before ++ after) → ⊥
    lone = (no_repeats_middle before i after once_split).0

    -- it has its lowest start beside those before it
    here_lowest : plan i ≡ lowest (problem_of v) (fill (problem_of v) [] before) i
    here_lowest =
        starts_split i (mem_middle before i after)
        ∙ start_filled (problem_of v) [] before i after (λ m. lone (mathlib.Core.List.Memᴰ.append_right before m))

    -- and those keep the starts that they had
    earlier : (j : ℕ) → Memᴰ j before → plan j ≡ start_in (fill (problem_of v) [] before) j
    earlier j m =
        starts_split j (mathlib.Core.List.Memᴰ.append_left (i ∷ after) m)
        ∙ ap (λ (rows : List Row). start_in rows j) (fill_append (problem_of v) [] before (i ∷ after))
        ∙ start_kept (problem_of v) (fill (problem_of v) [] before) (i ∷ after) j (parts_differ before (i ∷ after) once_split j m)

    -- its start is the lowest free one
    lowest_there : (out : List Row) → first_fit (problem_of v) v.band.slots [] order ≡ placed out → LowestFree v plan before i
    unfolding problem_of
    lowest_there out all =
        let P : Problem = problem_of v in
        let placed-split : first_fit P v.band.slots [] (before ++ (i ∷ after)) ≡ placed out = sym (ap (first_fit P v.band.slots []) split) ∙ all in
        record {
          inside =
              omega (
                arith,
                here_lowest,
                placed_each P v.band.slots [] before i after out placed-split,
                end_is P i (lowest P (fill P [] before) i),
              );
          free =
              λ hits.
              let j : ℕ = hits.other in
              let there : Memᴰ j (before ++ (i ∷ after)) = mathlib.Core.List.Memᴰ.append_left (i ∷ after) hits.placed_before in
              apart_clears i (plan i) j (plan j)
              (rw (starts_split i (mem_middle before i after), starts_split j there)
              (fill_pairwise P (joined_swap v) [] (before ++ (i ∷ after)) once_split i j (mem_middle before i after) there
              (λ e. lone (mathlib.Core.List.Memᴰ.append_left after (mathlib.Core.List.Memᴰ.cast e hits.placed_before)))))
              hits.clash;
          none_lower =
              λ s lower.
              before_clashes plan before once_before earlier i s
              (below_misfit P (fill P [] before) i s (omega (arith, here_lowest)));
        }

    -- and its blocker is named as promised
    blocked_there : BlockerNamed v plan before i (blocker_entry (blocker_in (problem_of v) (fill (problem_of v) [] order) i))
    blocked_there =
        rw (split, blocker_filled (problem_of v) [] before i after (λ m. lone (mathlib.Core.List.Memᴰ.append_right before m)))
        (blocker_promised plan before once_before earlier i here_lowest)

  module _ (plan : ℕ → ℕ) (order : List ℕ) (once : NoRepeats order)
      (starts : (j : ℕ) → Memᴰ j order → plan j ≡ start_in (fill (problem_of v) [] order) j) where
    -- first fit along an order gives each demand its lowest free start
    pub each_lowest : (out : List Row) → first_fit (problem_of v) v.band.slots [] order ≡ placed out → EachLowest v plan order
    unfolding EachLowest
    each_lowest out all before i after split = lowest_there plan order once starts before i after split out all

    -- and tells each its blocker
    pub each_blocked : (blocker : ℕ → ℕ) →
        ((j : ℕ) → Memᴰ j order → blocker j ≡ blocker_entry (blocker_in (problem_of v) (fill (problem_of v) [] order) j)) →
        EachBlocked v plan blocker order
    unfolding EachBlocked
    each_blocked blocker named before i after split =
        subst (BlockerNamed v plan before i) (sym (named i (subst (Memᴰ i) (sym split) (mem_middle before i after))))
        (blocked_there plan order once starts before i after split)
