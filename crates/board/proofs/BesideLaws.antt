-- A demand to be placed clashes with the numbers on the board exactly where it clashes with the rows that they stand for; and that the
-- board holds no row at first, and then one row more.
use Rattle.std.specs.Prelude.{ℕ, ◌+◌, ◌<◌, min, Bool, false, ◌≡◌, refl, ltb, eqb, length, get_or, set}
use mathlib.Core.List.Memᴰ
use mathlib.Core.List.{List, [], ◌∷◌, Memᴰ}
use Rattle.std.proofs.Common.{⊎_elim, sym, ap, subst, ◌∙◌, get_or-set_same, get_or-set_other}
use native.Mathlib.Omega.{arith}
use borrow.Author.Tests.{lt-ltb, ltb-true, eqb-true, eqb-false}
use Rattle.theory.specs.Problem.{Problem, Row, end_of, apart}
use Rattle.theory.proofs.TestLaws.{by_test, and_both, and_first, and_second}
use Rattle.theory.proofs.ApartLaws.{clash_facts, clash_from}
use Rattle.theory.proofs.ProblemLaws.{end_is}
use Rattle.theory.specs.inner.Clashes.{SameClashes}
use Rattle.board.specs.Board.{board_problem, number_rows, placed_beside, placed_one}
use Rattle.board.proofs.ScanLaws.{row_there, clash_number}
use Rattle.board.proofs.StandingLaws.{number_end, demand_end}
use Rattle.board.proofs.BoardLaws.{place_one_same}
use Rattle.board.specs.inner.Standing.{OnBoard, HeldBy, Standing}

module _ (P : Problem) (K guard : ℕ) (rows : List Row) (at ends : List ℕ) (i : ℕ) (room : OnBoard P K guard)
    (standing : Standing P K rows at ends) (meets : List Bool) (met : (j : ℕ) → j < K → get_or meets j false ≡ P.joined j i) where
  -- the problem on the board
  abbrev Q : Problem
  Q = board_problem meets at ends (P.width i) guard

  -- the demand to place ends on the board where it does in the problem
  own_end : (s : ℕ) → end_of Q 200 s ≡ end_of P i s
  own_end s = demand_end meets at ends guard (P.width i) s ∙ sym (end_is P i s)

  -- a demand of the problem is one of 200
  small : (j : ℕ) → j < K → j < 200
  small j h = omega (arith, room.few)

  module _ (r : Row) (there : HeldBy P K at ends r) where
    -- a row holds slots
    holds : get_or at r.who 0 < get_or ends r.who 0
    holds = omega (arith, there.starts, there.ends_at, room.wide r.who there.position)

    -- it ends on the board where it does in the problem
    block_end : end_of Q r.who (get_or at r.who 0) ≡ end_of P r.who r.at
    block_end =
        number_end meets at ends guard (P.width i) r.who (small r.who there.position) holds
        ∙ omega (arith, there.ends_at, end_is P r.who r.at)

    -- a row that clashes does so on the board
    clash_over : (s : ℕ) → apart P r.who r.at i s ≡ false → apart Q r.who (get_or at r.who 0) 200 s ≡ false
    unfolding board_problem
    clash_over s c =
        let facts = clash_facts P r.who r.at i s c in
        clash_from Q r.who (get_or at r.who 0) 200 s
        (and_both (get_or meets r.who false) (ltb (get_or at r.who 0) (get_or ends r.who 0))
        (met r.who there.position ∙ facts.0)
        (lt-ltb (get_or at r.who 0) (get_or ends r.who 0) holds))
        (omega (arith, facts.1, block_end, room.gaps r.who i))
        (omega (arith, facts.2, own_end s, there.starts, room.gaps i r.who))

    -- and one that clashes on the board does so
    clash_back : (s : ℕ) → apart Q r.who (get_or at r.who 0) 200 s ≡ false → apart P r.who r.at i s ≡ false
    unfolding board_problem
    clash_back s c =
        let facts = clash_facts Q r.who (get_or at r.who 0) 200 s c in
        clash_from P r.who r.at i s
        (sym (met r.who there.position)
        ∙ and_first (get_or meets r.who false) (ltb (get_or at r.who 0) (get_or ends r.who 0)) facts.0)
        (omega (arith, facts.1, block_end, room.gaps r.who i))
        (omega (arith, facts.2, own_end s, there.starts, room.gaps i r.who))

  -- a number that clashes on the board holds slots
  number_holds : (s b : ℕ) → apart Q b (get_or at b 0) 200 s ≡ false → 0 < get_or ends b 0
  unfolding board_problem
  number_holds s b c =
      omega (
        arith,
        ltb-true (get_or at b 0) (get_or ends b 0)
            (and_second (get_or meets b false) (ltb (get_or at b 0) (get_or ends b 0)) (clash_facts Q b (get_or at b 0) 200 s c).0),
      )

  -- the numbers that clash are the same
  clashes_same : SameClashes P rows i Q (number_rows (min K 200) at) 200
  clashes_same =
      record {
        over =
            λ s b c.
            let there = standing.held c.row c.stands in
            record {
              row = record { who = c.row.who; at = get_or at c.row.who 0 };
              stands = row_there at (min K 200) c.row.who (omega (arith, there.position, small c.row.who there.position));
              number = c.number;
              clash = clash_over c.row there s c.clash;
            };
        back =
            λ s b c.
            let (stands, clash) = clash_number Q at (min K 200) s b c in
            let found = standing.only b (number_holds s b clash) in
            let there = standing.held found.row found.stands in
            record {
              row = found.row;
              stands = found.stands;
              number = found.number;
              clash =
                  clash_back found.row there s
                  (ap (λ (k : ℕ). apart Q k (get_or at k 0) 200 s) found.number ∙ clash);
            };
      }

  -- so the demand is placed on the board as beside the rows
  pub board_same : (slots : ℕ) → placed_one meets at ends K (P.width i) guard slots ≡ placed_beside P rows i slots
  board_same slots = place_one_same P rows i meets at ends K (P.width i) guard slots refl clashes_same

-- where no number has an end there is no row
pub standing_none : (P : Problem) (K : ℕ) (at ends : List ℕ) → ((j : ℕ) → get_or ends j 0 ≡ 0) → Standing P K [] at ends
standing_none P K at ends clean =
    record {
      held = λ r m. absurd (Memᴰ.not-nil m);
      only = λ j h. absurd (omega (arith, clean j, h));
    }

-- a new demand among what stands
module _ (P : Problem) (K : ℕ) (rows : List Row) (at ends : List ℕ) (i s : ℕ) (long : length at ≡ 200) (ends-long : length ends ≡ 200)
    (position : i < K) (small : i < 200) (new : (r : Row) → Memᴰ r rows → r.who ≡ i → ⊥) (standing : Standing P K rows at ends) where
  -- it stands, and so do the others
  pub standing_more : Standing P K (record { who = i; at = s } ∷ rows) (set at i s) (set ends i (s + P.width i))
  standing_more =
      record {
        held =
            λ r m.
            ⊎_elim
            (λ (e : r ≡ record { who = i; at = s }).
            subst (HeldBy P K (set at i s) (set ends i (s + P.width i))) (sym e)
            (record {
              position = position;
              starts = get_or-set_same at i s 0 (omega (arith, long));
              ends_at = get_or-set_same ends i (s + P.width i) 0 (omega (arith, ends-long));
            }))
            (λ (n : Memᴰ r rows).
            let there = standing.held r n in
            record {
              position = there.position;
              starts = get_or-set_other at i r.who s 0 (new r n) ∙ there.starts;
              ends_at = get_or-set_other ends i r.who (s + P.width i) 0 (new r n) ∙ there.ends_at;
            })
            (Memᴰ.cases_cons m);
        only =
            λ j h.
            by_test (eqb i j)
            (λ t. record { row = record { who = i; at = s }; stands = Memᴰ.head refl; number = eqb-true i j t })
            (λ f.
            let other : j ≡ i → ⊥ = λ e. eqb-false i j f (sym e) in
            let found = standing.only j (rw (get_or-set_other ends i j (s + P.width i) 0 other) at h) in
            record { row = found.row; stands = Memᴰ.tail found.stands; number = found.number });
      }
