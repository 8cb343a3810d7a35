-- What stands: the array of past ends as it is filled, and that the blocks of it clash as the numbers themselves do.
use Rattle.std.specs.Prelude.{ℕ, zero, suc, refl, ◌+◌, ◌-◌, ◌≤◌, ◌<◌, Bool, true, ◌&&◌, ◌≡◌, eqb, length, set}
use Rattle.std.proofs.Math.Bool.{false, cond}
use mathlib.Core.List.{List, Memᴰ}
use Rattle.std.proofs.Math.Logic.{⊎_elim}
use Rattle.std.proofs.Math.Path.{sym, ap}
use Rattle.std.proofs.Common.{◌∙◌, get_or-set_same, get_or-set_other, ltb-true, lt-ltb, eqb-true}
use native.Mathlib.Omega.{arith}
use Rattle.std.proofs.Math.Dec.{ltb}
use Rattle.std.proofs.lemmas.Bool.{eqb-false}
use Rattle.std.proofs.Math.ListN.{get_or}
use Rattle.theory.specs.Problem.{Problem, Row, end_of, apart}
use Rattle.theory.proofs.TestLaws.{by_test, and_second}
use Rattle.theory.proofs.ApartLaws.{unjoined_apart, apart_cases, clash_facts}
use Rattle.theory.proofs.ProblemLaws.{end_is}
use Rattle.theory.specs.inner.Clashes.{SameClashes}
use Rattle.board.specs.Board.{board_problem, number_rows}
use Rattle.board.specs.inner.Near.{near_problem, Blocks, PastEnds}
use Rattle.board.proofs.ScanLaws.{row_is, block_clashes, block_over, block_later}

-- lists that begin alike have the same rows
pub rows_same : (n : ℕ) (front starts : List ℕ) → ((j : ℕ) → j < n → get_or front j 0 ≡ get_or starts j 0) →
    number_rows n front ≡ number_rows n starts
unfolding number_rows
rows_same zero front starts same = refl
rows_same (suc n) front starts same =
    rw (same n (omega arith), rows_same n front starts (λ j h. same j (omega arith)))

module _ (meets : List Bool) (starts ends : List ℕ) (guard width : ℕ) where
  -- a number that holds slots ends where it does
  pub number_end : (j : ℕ) → j < 200 → get_or starts j 0 < get_or ends j 0 →
      end_of (board_problem meets starts ends width guard) j (get_or starts j 0) ≡ get_or ends j 0
  unfolding board_problem
  number_end j h k =
      end_is (board_problem meets starts ends width guard) j (get_or starts j 0)
      ∙ ap (λ (b : Bool). get_or starts j 0 + cond b (get_or ends j 0 - get_or starts j 0) width) (lt-ltb j 200 h)
      ∙ omega arith

  -- the demand ends after its width
  pub demand_end : (s : ℕ) → end_of (board_problem meets starts ends width guard) 200 s ≡ s + width
  unfolding board_problem
  demand_end s = end_is (board_problem meets starts ends width guard) 200 s

module _ (meets : List Bool) (starts ends : List ℕ) (guard : ℕ) where
  -- nothing is asked of no number
  pub past_none : (past : List ℕ) → PastEnds meets starts ends guard 0 past
  past_none past = record { ends_are = λ j h. absurd (omega arith) }

  -- one number more
  pub past_more : (past : List ℕ) (j slot end : ℕ) → j < length past → PastEnds meets starts ends guard j past → slot ≡ get_or ends j 0 + guard →
      end ≡ cond (get_or meets j false && ltb (get_or starts j 0) (get_or ends j 0)) slot 0 → PastEnds meets starts ends guard (j + 1) (set past j end)
  past_more past j slot end within so_far e told =
      record {
        ends_are =
            λ k h.
            by_test (eqb k j)
            (λ t. rw (eqb-true k j t, ← e) (get_or-set_same past j end 0 within ∙ told))
            (λ f.
            let other : k ≡ j → ⊥ = eqb-false k j f in
            rw (get_or-set_other past j k end 0 other) (so_far.ends_are k (by_less k j h other)));
      }
    where
      by_less : (k j : ℕ) → k < j + 1 → (k ≡ j → ⊥) → k < j
      by_less k j h other = omega (arith, other)

  module _ (n : ℕ) (past : List ℕ) (known : PastEnds meets starts ends guard n past) where
    -- a number that holds slots and is met ends, with the guard, at its past end
    met_past : (j : ℕ) → j < n → (get_or meets j false && ltb (get_or starts j 0) (get_or ends j 0)) ≡ true →
        (get_or past j 0 ≡ get_or ends j 0 + guard) × (get_or starts j 0 < get_or ends j 0)
    met_past j h t = (
      known.ends_are j h ∙ ap (λ (b : Bool). cond b (get_or ends j 0 + guard) 0) t,
      ltb-true (get_or starts j 0) (get_or ends j 0) (and_second (get_or meets j false) (ltb (get_or starts j 0) (get_or ends j 0)) t),
    )

    -- any other has none
    unmet_past : (j : ℕ) → j < n → (get_or meets j false && ltb (get_or starts j 0) (get_or ends j 0)) ≡ false → get_or past j 0 ≡ 0
    unmet_past j h f = known.ends_are j h ∙ ap (λ (b : Bool). cond b (get_or ends j 0 + guard) 0) f

    module _ (front : List ℕ) (same : (j : ℕ) → j < n → get_or front j 0 ≡ get_or starts j 0) (few : n ≤ 200) where
      -- past ends are those of blocks
      pub past_blocks : Blocks past front n
      past_blocks =
          record {
            few = few;
            ends_after =
                λ j h k.
                by_test (get_or meets j false && ltb (get_or starts j 0) (get_or ends j 0))
                (λ t. omega (arith, met_past j h t, same j h))
                (λ f. absurd (omega (arith, unmet_past j h f)));
          }

      module _ (width : ℕ) where
        -- a number that is met: the block clashes exactly when the number does
        met_apart : (j s span : ℕ) → j < n → span ≡ width + guard → (get_or meets j false && ltb (get_or starts j 0) (get_or ends j 0)) ≡ true →
            apart (near_problem past front span) j (get_or front j 0) 200 s
            ≡ apart (board_problem meets starts ends width guard) j (get_or starts j 0) 200 s
        unfolding board_problem
        met_apart j s span h wide t =
            let B : Problem = board_problem meets starts ends width guard in
            let (past_is, holds) = met_past j h t in
            let end = number_end meets starts ends guard width j (omega arith) holds in
            by_test (apart B j (get_or starts j 0) 200 s)
            (λ a.
            ⊎_elim
            (λ over. block_over past front n span past_blocks j s h (omega (arith, end, past_is)))
            (λ later.
            block_later past front n span past_blocks j s h
            (omega (arith, demand_end meets starts ends guard width s, wide, same j h)))
            (apart_cases B j (get_or starts j 0) 200 s a t)
            ∙ sym a)
            (λ c.
            let facts = clash_facts B j (get_or starts j 0) 200 s c in
            block_clashes past front n span past_blocks j s h
            (omega (arith, end, past_is, facts.1))
            (omega (arith, demand_end meets starts ends guard width s, wide, facts.2, same j h))
            ∙ sym c)

        -- a block clashes exactly when its number does
        near_apart : (j s span : ℕ) → j < n → span ≡ width + guard →
            apart (near_problem past front span) j (get_or front j 0) 200 s
            ≡ apart (board_problem meets starts ends width guard) j (get_or starts j 0) 200 s
        unfolding board_problem
        near_apart j s span h wide =
            by_test (get_or meets j false && ltb (get_or starts j 0) (get_or ends j 0))
            (met_apart j s span h wide)
            (λ f.
            block_over past front n span past_blocks j s h (omega (arith, unmet_past j h f))
            ∙ sym (unjoined_apart (board_problem meets starts ends width guard) j (get_or starts j 0) 200 s f))

        -- the blocks clash with the demand where the numbers do
        pub near_clashes : (span : ℕ) → span ≡ width + guard →
            SameClashes (near_problem past front span) (number_rows n front) 200 (board_problem meets starts ends width guard) (number_rows n starts) 200
        near_clashes span wide = rw (← rows_same n front starts same) record {
          over = λ s b c. record { row = c.row; stands = c.stands; number = c.number; clash = sym (here s c.row c.stands) ∙ c.clash };
          back = λ s b c. record { row = c.row; stands = c.stands; number = c.number; clash = here s c.row c.stands ∙ c.clash };
        }
          where
            here : (s : ℕ) (r : Row) → Memᴰ r (number_rows n front) →
                apart (near_problem past front span) r.who r.at 200 s
                ≡ apart (board_problem meets starts ends width guard) r.who r.at 200 s
            here s r m =
                let (there, at) = row_is front n r m in
                rw at
                (near_apart r.who s span there wide
                ∙ ap (λ (t : ℕ). apart (board_problem meets starts ends width guard) r.who t 200 s) (sym (same r.who there)))
