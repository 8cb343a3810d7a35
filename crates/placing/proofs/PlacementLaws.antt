-- First fit as it goes on: how it starts, what one demand more does, and how it ends.
use Rattle.std.specs.Prelude.{ℕ, zero, suc, ◌+◌, ◌-◌, ◌≤◌, ◌<◌, max, ◌≡◌, refl, eqb, length, get_or, set, take, replicate, Some, None, Ok, Err}
use mathlib.Core.List.Memᴰ
use mathlib.Core.List.{List, [], ◌∷◌, ◌++◌, Memᴰ}
use Rattle.std.proofs.Common.{⊎_elim, subst, ◌∙◌, arith, add-one, drop_of_length-le, take-append-drop, take-suc, drop-cons, get_or-set_same}
use Rattle.std.proofs.Math.Path.{sym, ap, ap₂}
use Rattle.std.proofs.Math.ListN.{drop, length-set}
use Rattle.std.proofs.lemmas.List.{length-replicate, get_or-replicate}
use Rattle.std.proofs.Math.Seq.{get_or-set_other}
use borrow.Author.Tests.{eqb-true, eqb-false}
use Rattle.refusal.specs.declared.Refusal.TheVariants.{NoStart}
use Rattle.theory.specs.Blocker.{blocker_at, blocker_below, blocker_in}
use Rattle.theory.proofs.BlockerLaws.{blocker_here, blocker_other}
use Rattle.theory.specs.Problem.{Problem, Row, lowest, place, fill, start_in, Fitted, placed, refused, first_fit, top}
use Rattle.theory.proofs.ProblemLaws.{end_is, top_nil, top_place, place_is, fill_nil, fill_cons, fill_append, start_here, start_other}
use Rattle.theory.proofs.FirstFitLaws.{first_fit-nil, first_fit_on, first_fit_refuses}
use Rattle.theory.proofs.ArrangeLaws.{no_repeats_middle}
use Rattle.theory.specs.Earlier.{NoRepeats}
use Rattle.theory.proofs.TestLaws.{by_test}
use Rattle.board.specs.declared.Placement.{Placement}
use Rattle.board.specs.Board.{entry_of, placed_beside, placed_one}
use Rattle.board.proofs.BoardLaws.{spot_found, spot_none}
use Rattle.board.proofs.BesideLaws.{board_same, standing_none, standing_more}
use Rattle.board.specs.inner.Standing.{OnBoard, Standing}
use Rattle.request.specs.View.{View}
use Rattle.request.specs.Sound.{SoundRequest}
use Rattle.request.specs.Sharing.{problem_of}
use Rattle.request.specs.inner.Limits.{Limits}
use Rattle.meeting.specs.declared.Compact.{Compact}
use Rattle.meeting.specs.Compact.{compact_of, word_row}
use Rattle.meeting.specs.CompactLaws.{small_problem, word_entry}
use Rattle.meeting.specs.inner.Small.{problem_in, Small}
use Rattle.placing.specs.declared.Unplaced.TheVariants as unplaced
use Rattle.placing.specs.FirstFit.{fitted, fitted_reply, blocker_entry}
use Rattle.placing.proofs.LowestFreeLaws.{fill_row, front_once}
use Rattle.placing.specs.inner.Placement.{OrderAsked, fitted_in, reply_in, PlanKept, PlacedTo}

-- a clean slate holds nothing
pub clean_slate : (n j : ℕ) → ◌≡◌ {A = ℕ} (get_or (replicate n 0) j 0) 0
clean_slate zero j = refl
clean_slate (suc n) zero = refl
clean_slate (suc n) (suc j) = clean_slate n j

-- at the start nothing is placed
pub placed_none : (c : Compact) (order : List ℕ) → PlacedTo c order 0 0 (replicate 200 0) (replicate 200 65535) (replicate 200 0)
unfolding fitted_in start_in blocker_in blocker_entry entry_of
placed_none c order =
    record {
      rest = rw (fill_nil (problem_in c) []);
      end_is = rw (fill_nil (problem_in c) []) (sym (top_nil (problem_in c)));
      end_within = omega arith;
      starts_are = λ j h. rw (fill_nil (problem_in c) []) (clean_slate 200 j);
      starts_full = length-replicate {A = ℕ} 200 0;
      blockers_are = λ j h. rw (fill_nil (problem_in c) []) (get_or-replicate {A = ℕ} 200 j 65535 0 h);
      blockers_full = length-replicate {A = ℕ} 200 65535;
      standing = rw (fill_nil (problem_in c) []) (standing_none (problem_in c) c.count (replicate 200 0) (replicate 200 0) (clean_slate 200));
      ends_full = length-replicate {A = ℕ} 200 0;
    }

-- a small request has room on the board
pub small_board : (c : Compact) → Small c → OnBoard (problem_in c) c.count c.guard
unfolding problem_in
small_board c small =
    record {
      few = small.most_demands;
      wide = small.some_width;
      gaps = λ i j. refl;
    }

-- a demand is placed beside the arrays as beside the rows that they hold
pub beside_rows : (c : Compact) (rows : List Row) (at ends : List ℕ) (i : ℕ) → Small c → length c.words ≡ 200 →
    Standing (problem_in c) c.count rows at ends →
    placed_one (word_row c.words i) at ends c.count ((problem_in c).width i) c.guard c.slots
    ≡ placed_beside (problem_in c) rows i c.slots
beside_rows c rows at ends i small full standing =
    board_same (problem_in c) c.count c.guard rows at ends i (small_board c small) standing (word_row c.words i)
    (λ j h. word_entry c i j (omega arith))
    c.slots

module _ (c : Compact) (order : List ℕ) (k end : ℕ) (at by ends : List ℕ) (h : k < length order) (asked : OrderAsked c order)
    (so_far : PlacedTo c order k end at by ends) where
  -- the rows so far, and the demand to place
  abbrev rows : List Row
  rows = fill (problem_in c) [] (take k order)

  abbrev here : ℕ
  here = get_or order k 0

  -- filling along one entry more places its demand
  fill_more : fill (problem_in c) [] (take (k + 1) order) ≡ place (problem_in c) rows here
  fill_more =
      rw (
        add-one k,
        take-suc order k 0 h,
        fill_append (problem_in c) [] (take k order) (here ∷ []),
        fill_cons (problem_in c) rows here [],
      )
      (fill_nil (problem_in c) (place (problem_in c) rows here))

  -- the demand to place is none of those placed
  here_new : (r : Row) → Memᴰ r rows → r.who ≡ here → ⊥
  here_new r m e =
      let split : NoRepeats (take k order ++ (here ∷ drop (suc k) order))
      = subst NoRepeats (sym (take-append-drop k order) ∙ ap (λ (l : List ℕ). take k order ++ l) (drop-cons order k 0 h)) asked.once in
      ⊎_elim
      (λ (stood : Memᴰ r []). Memᴰ.not-nil stood)
      (λ (there : Memᴰ r.who (take k order) × (start_in rows r.who ≡ r.at)).
      (no_repeats_middle (take k order) here (drop (suc k) order) split).0
      (Memᴰ.append_left (drop (suc k) order) (Memᴰ.cast (sym e) there.0)))
      (fill_row (problem_in c) [] (take k order) (front_once (take k order) (here ∷ drop (suc k) order) split) r m)

  here_small : here < 200
  here_small = omega (arith, asked.positions k h, asked.small.most_demands)

  module _ (p : Placement) (is : p ≡ placed_beside (problem_in c) rows here c.slots) (entry : ℕ) (named : entry ≡ entry_of p.blocker) where
    -- no start inside the band: first fit is refused at this demand
    placed_refused : None ≡ p.spot → (problem_in c).width here ≤ c.slots → fitted_in c order ≡ refused rows here
    placed_refused none fits =
        so_far.rest
        ∙ ap (first_fit (problem_in c) c.slots rows) (drop-cons order k 0 h)
        ∙ first_fit_refuses (problem_in c) c.slots rows here (drop (suc k) order)
        (spot_none (problem_in c) rows here c.slots p is (sym none) fits).0

    -- the reply is 13 with who is in the way
    pub refused_reply : None ≡ p.spot → (problem_in c).width here ≤ c.slots →
        Err (unplaced.Blocked (NoStart here) entry) ≡ reply_in c (fitted_in c order)
    unfolding reply_in blocker_entry
    refused_reply none fits =
        ap (λ (n : ℕ). Err (unplaced.Blocked (NoStart here) n))
        (named ∙ ap entry_of (spot_none (problem_in c) rows here c.slots p is (sym none) fits).1)
        ∙ sym (ap (reply_in c) (placed_refused none fits))

    -- and nothing is kept
    pub refused_kept : None ≡ p.spot → (problem_in c).width here ≤ c.slots → PlanKept (problem_in c) (fitted_in c order) at by
    refused_kept none fits =
        let out : fitted_in c order ≡ refused rows here = placed_refused none fits in
        record {
          starts_full = so_far.starts_full;
          blockers_full = so_far.blockers_full;
          starts_are = λ all e j b. absurd (let z : ◌≡◌ {A = ℕ} 0 1 = cc in omega arith);
          blockers_are = λ all e j b. absurd (let z : ◌≡◌ {A = ℕ} 0 1 = cc in omega arith);
        }

    -- a start that was found ends inside the band
    pub found_inside : (s : ℕ) → Some s ≡ p.spot → s + (problem_in c).width here ≤ c.slots
    found_inside s found =
        let (low, inside, blocker) = spot_found (problem_in c) rows here c.slots p is s (sym found) in
        omega (arith, low, inside, end_is (problem_in c) here (lowest (problem_in c) rows here))

    -- one demand more is placed at its lowest start
    pub placed_more : (s up : ℕ) → Some s ≡ p.spot → up ≡ max end (s + (problem_in c).width here) →
        PlacedTo c order (k + 1) up (set at here s) (set by here entry) (set ends here (s + (problem_in c).width here))
    unfolding blocker_entry
    placed_more s up found ups =
        let P : Problem = problem_in c in
        let spot = spot_found P rows here c.slots p is s (sym found) in
        let low : s ≡ lowest P rows here = spot.0 in
        let within : s + P.width here ≤ c.slots = found_inside s found in
        let row_is : fill P [] (take (k + 1) order) ≡ record { who = here; at = s } ∷ rows
        = fill_more ∙ place_is P rows here ∙ ap (λ (t : ℕ). record { who = here; at = t } ∷ rows) (sym low) in
        record {
          rest =
              so_far.rest
              ∙ ap (first_fit P c.slots rows) (drop-cons order k 0 h)
              ∙ first_fit_on P c.slots rows here (drop (suc k) order) spot.1
              ∙ ap₂ (first_fit P c.slots) (sym fill_more) (ap (λ (n : ℕ). drop n order) (sym (add-one k)));
          end_is = rw fill_more (omega (arith, ups, low, top_place P rows here, end_is P here (lowest P rows here), so_far.end_is));
          end_within = omega (arith, ups, so_far.end_within);
          starts_are =
              λ j b.
              rw row_is
              (by_test (eqb here j)
              (λ t.
              let same : here ≡ j = eqb-true here j t in
              rw (← same, start_here here s rows) (get_or-set_same at here s 0 (omega (arith, so_far.starts_full, here_small))))
              (λ f.
              let other : here ≡ j → ⊥ = eqb-false here j f in
              rw (start_other (record { who = here; at = s }) rows j other, get_or-set_other at here j s 0 (λ e. other (sym e)))
              (so_far.starts_are j b)));
          starts_full = length-set at here s ∙ so_far.starts_full;
          blockers_are =
              λ j b.
              rw row_is
              (by_test (eqb here j)
              (λ t.
              let same : here ≡ j = eqb-true here j t in
              rw (← same, blocker_here P here s rows)
              (get_or-set_same by here entry 0 (omega (arith, so_far.blockers_full, here_small))
              ∙ named
              ∙ ap entry_of spot.2
              ∙ ap (λ (t : ℕ). blocker_entry (blocker_below P rows here t)) (sym low)))
              (λ f.
              let other : here ≡ j → ⊥ = eqb-false here j f in
              rw (blocker_other P (record { who = here; at = s }) rows j other, get_or-set_other by here j entry 0 (λ e. other (sym e)))
              (so_far.blockers_are j b)));
          blockers_full = length-set by here entry ∙ so_far.blockers_full;
          standing =
              rw row_is
              (standing_more P c.count rows at ends here s so_far.starts_full so_far.ends_full (asked.positions k h) here_small here_new
              so_far.standing);
          ends_full = length-set ends here (s + P.width here) ∙ so_far.ends_full;
        }

module _ (c : Compact) (order : List ℕ) (k end : ℕ) (at by ends : List ℕ) (done : length order ≤ k)
    (so_far : PlacedTo c order k end at by ends) where
  -- behind the last entry all are placed
  placed_all : fitted_in c order ≡ placed (fill (problem_in c) [] (take k order))
  placed_all =
      so_far.rest
      ∙ ap (first_fit (problem_in c) c.slots (fill (problem_in c) [] (take k order))) (drop_of_length-le order {i = k} done)
      ∙ first_fit-nil (problem_in c) c.slots (fill (problem_in c) [] (take k order))

  -- the reply where all are placed
  pub placed_answer : Ok end ≡ reply_in c (fitted_in c order)
  unfolding reply_in
  placed_answer = ap Ok so_far.end_is ∙ sym (ap (reply_in c) placed_all)

  -- the starts and the blockers kept are those of the rows
  pub placed_kept : PlanKept (problem_in c) (fitted_in c order) at by
  placed_kept =
      let out : fitted_in c order ≡ placed (fill (problem_in c) [] (take k order)) = placed_all in
      record {
        starts_full = so_far.starts_full;
        blockers_full = so_far.blockers_full;
        starts_are =
            λ rows e j h.
            let same : fill (problem_in c) [] (take k order) ≡ rows = cc in
            so_far.starts_are j h ∙ ap (λ (r : List Row). start_in r j) same;
        blockers_are =
            λ rows e j h.
            let same : fill (problem_in c) [] (take k order) ≡ rows = cc in
            so_far.blockers_are j h ∙ ap (λ (r : List Row). blocker_entry (blocker_in (problem_in c) r j)) same;
      }

-- what is placed for a sound request made small is the request's
module _ (v : View) (sound : SoundRequest v) (limits : Limits v) (c : Compact) (is : c ≡ compact_of v) where
  -- the problem, and the slots
  same_problem : problem_in c ≡ problem_of v
  same_problem = ap problem_in is ∙ small_problem v sound limits

  same_slots : c.slots ≡ v.band.slots
  unfolding compact_of
  same_slots = ap (λ (d : Compact). d.slots) is

  -- so the fitting
  same_fitted : (order : List ℕ) → fitted_in c order ≡ fitted v order
  unfolding fitted_in fitted
  same_fitted order = ap₂ (λ (P : Problem) (S : ℕ). first_fit P S [] order) same_problem same_slots

  -- the reply to any fitting
  same_reply : (out : Fitted) → reply_in c out ≡ fitted_reply v out
  unfolding reply_in fitted_reply
  same_reply (placed rows) = ap (λ (P : Problem). Ok (top P rows)) same_problem
  same_reply (refused rows i) =
      ap₂ (λ (P : Problem) (S : ℕ). Err (unplaced.Blocked (NoStart i) (blocker_entry (blocker_at P rows i (S - P.width i))))) same_problem same_slots

  -- so the reply to the request's
  pub small_reply : (order : List ℕ) → reply_in c (fitted_in c order) ≡ fitted_reply v (fitted v order)
  small_reply order = same_reply (fitted_in c order) ∙ ap (fitted_reply v) (same_fitted order)

  -- and what the arrays keep
  pub small_kept : (order at by : List ℕ) → PlanKept (problem_in c) (fitted_in c order) at by → PlanKept (problem_of v) (fitted v order) at by
  small_kept order at by kept = rw (← same_problem, ← same_fitted order) kept
