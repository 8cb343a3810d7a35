-- Placing one demand keeps its promise: the number that is told is the lowest in the way.
use Rattle.std.specs.Prelude.{ℕ, suc, ◌-◌, ◌<◌, min, Bool, false, List, ◌≡◌, refl, ltb}
use Rattle.std.proofs.Common.{sym, ap, ◌∙◌}
use native.Mathlib.Omega.{arith}
use Rattle.std.proofs.Math.ListN.{get_or}
use borrow.Author.Tests.{lt-ltb, ltb-true}
use Rattle.theory.specs.Problem.{Problem, Row, apart, fits, lowest}
use Rattle.theory.specs.Blocker as theory
use Rattle.theory.proofs.TestLaws.{and_both, and_first, and_second}
use Rattle.theory.proofs.ApartLaws.{clash_facts, clash_from}
use Rattle.theory.proofs.BlockerLaws.{misfit_blocker, below_misfit, blocker_ends}
use Rattle.theory.specs.inner.Clashes.{ClashAt}
use Rattle.board.specs.declared.Placement.{Placement}
use Rattle.board.specs.Board.{board_problem, number_rows, blocker_told, placed_one}
use Rattle.board.proofs.ScanLaws.{row_there, clash_number, below_zero}
use Rattle.board.proofs.StandingLaws.{number_end, demand_end}
use Rattle.board.proofs.BoardLaws.{beside_nowhere, last_none, spot_found, spot_none}
use Rattle.board.specs.Named.{NumberClashes, InWay, KeepsAbove, PlacedWell}

module _ (meets : List Bool) (starts ends : List ℕ) (count width guard : ℕ) where
  -- what stands as a problem, and its rows
  abbrev B : Problem
  B = board_problem meets starts ends width guard

  abbrev rows : List Row
  rows = number_rows (min count 200) starts

  -- a number that is not apart from the demand clashes with it
  number_clashes : (s j : ℕ) → j < 200 → apart B j (get_or starts j 0) 200 s ≡ false → NumberClashes meets starts ends width guard s j
  unfolding board_problem
  number_clashes s j small c =
      let facts = clash_facts B j (get_or starts j 0) 200 s c in
      let holds : get_or starts j 0 < get_or ends j 0
      = ltb-true (get_or starts j 0) (get_or ends j 0) (and_second (get_or meets j false) (ltb (get_or starts j 0) (get_or ends j 0)) facts.0) in
      record {
        met = and_first (get_or meets j false) (ltb (get_or starts j 0) (get_or ends j 0)) facts.0;
        holds = holds;
        not_over = omega (arith, facts.1, number_end meets starts ends guard width j small holds);
        not_later = omega (arith, facts.2, demand_end meets starts ends guard width s);
      }

  -- and one that clashes with it is not apart
  clashes_there : (s j : ℕ) → j < min count 200 → NumberClashes meets starts ends width guard s j → ClashAt B rows 200 s j
  unfolding board_problem
  clashes_there s j there c =
      record {
        row = record { who = j; at = get_or starts j 0 };
        stands = row_there starts (min count 200) j there;
        number = refl;
        clash =
            clash_from B j (get_or starts j 0) 200 s
            (and_both (get_or meets j false) (ltb (get_or starts j 0) (get_or ends j 0)) c.met (lt-ltb (get_or starts j 0) (get_or ends j 0) c.holds))
            (omega (arith, c.not_over, number_end meets starts ends guard width j (omega arith) c.holds))
            (omega (arith, c.not_later, demand_end meets starts ends guard width s));
      }

  -- where the demand does not fit, the blocker is a number in the way
  misfit_in_way : (s : ℕ) → fits B rows 200 s ≡ false →
      (j : ℕ) × (theory.blocker_at B rows 200 s ≡ theory.blocked_by j) × InWay meets starts ends count width guard s j
  misfit_in_way s f =
      let (j, is, c, least) = misfit_blocker B rows 200 s f in
      let (there, clash) = clash_number B starts (min count 200) s j c in (
        j,
        is,
        record {
          stands = there;
          clash = number_clashes s j (omega arith) clash;
          none_lower = λ k low hits. omega (arith, least k (clashes_there s k (omega arith) hits));
        },
      )

  -- one that is in the way just below the lowest start ends a guard below that start
  lowest_kept : (s : ℕ) → lowest B rows 200 ≡ suc s → (j : ℕ) → InWay meets starts ends count width guard s j →
      KeepsAbove meets starts ends count width guard s j
  unfolding board_problem
  lowest_kept s low j way =
      let c : ClashAt B rows 200 s j = clashes_there s j way.stands way.clash in
      record {
        in_way = way;
        ends_below =
            omega (
              arith,
              way.stands,
              low,
              number_end meets starts ends guard width j (omega (arith, way.stands)) way.clash.holds,
              blocker_ends B rows 200 s (record { who = j; at = get_or starts j 0 }) (row_there starts (min count 200) j way.stands) low (clash_number B starts (min count 200) s j c).1,
            );
      }

-- what the call for one demand answers keeps its promise, whatever stands
pub place_one_promise : (meets : List Bool) (starts ends : List ℕ) (count width guard slots : ℕ) →
    PlacedWell meets starts ends count width guard slots (placed_one meets starts ends count width guard slots)
unfolding placed_one board_problem blocker_told theory.blocker_below
place_one_promise meets starts ends count width guard slots =
    record {
      at_0 =
          λ e.
          let (low, inside, told) = spot_found P beside 200 slots p refl 0 e in
          told ∙ ap blocker_told (sym (below_zero P beside 200 (lowest P beside 200) (sym low)));
      at_higher =
          λ s e.
          let (low, inside, told) = spot_found P beside 200 slots p refl (suc s) e in
          let (j, is, way) = misfit_in_way meets starts ends count width guard s (below_misfit P beside 200 s (omega (arith, low))) in (
            j,
            told ∙ ap (λ (t : ℕ). blocker_told (theory.blocker_below P beside 200 t)) (sym low) ∙ ap blocker_told is,
            lowest_kept meets starts ends count width guard s (sym low) j way,
          );
      nowhere =
          λ e narrow.
          let (above, told) = spot_none P beside 200 slots p refl e narrow in
          let (j, is, way) = misfit_in_way meets starts ends count width guard (slots - width)
          (below_misfit P beside 200 (slots - width) (omega (arith, above, demand_end meets starts ends guard width (lowest P beside 200)))) in
          (j, told ∙ ap blocker_told is, way);
      too_wide =
          λ wide.
          let is = beside_nowhere P beside 200 slots (omega (arith, demand_end meets starts ends guard width (lowest P beside 200))) in (
            ap (λ (q : Placement). q.spot) is,
            ap (λ (q : Placement). q.blocker) is ∙ ap blocker_told (last_none P beside 200 slots wide),
          );
    }
  where
    P : Problem
    P = board_problem meets starts ends width guard

    beside : List Row
    beside = number_rows (min count 200) starts

    p : Placement
    p = placed_one meets starts ends count width guard slots
