-- One demand placed beside what stands: what stands as a problem, where the demand starts, and who keeps it from starting lower.
use Rattle.std.specs.Prelude.{ℕ, zero, suc, ◌-◌, min, Bool, false, ◌&&◌, List, [], ◌∷◌, leb, ltb, get_or, Option, Some, None}
use Rattle.std.proofs.Math.Bool.{cond}
use Rattle.theory.specs.Problem.{Problem, Row, end_of, lowest}
use Rattle.theory.specs.Blocker as theory
use Rattle.board.specs.declared.Placement.{Placement}

-- the problem of one demand more, which has the number 200: a lower number holds the slots from its start up to its end, and shares a
-- link with the demand where `meets` says so and it holds a slot at all; the guard is kept between any two
unfoldable pub board_problem : List Bool → List ℕ → List ℕ → ℕ → ℕ → Problem
board_problem meets starts ends width guard =
    record {
      width = λ j. cond (ltb j 200) (get_or ends j 0 - get_or starts j 0) width;
      joined = λ j i. get_or meets j false && ltb (get_or starts j 0) (get_or ends j 0);
      gap = λ j i. guard;
    }

-- the first n numbers as rows, each at its start, the highest in front
unfoldable pub number_rows : ℕ → List ℕ → List Row
number_rows zero starts = []
number_rows (suc j) starts = record { who = j; at = get_or starts j 0 } ∷ number_rows j starts

-- the blocker in the call's words
unfoldable pub blocker_told : theory.Blocker → Option ℕ
blocker_told theory.nobody = None
blocker_told (theory.blocked_by j) = Some j

-- the blocker as an entry of a lent buffer: 65535 says that there is none
unfoldable pub entry_of : Option ℕ → ℕ
entry_of None = 65535
entry_of (Some j) = j

module _ (P : Problem) (rows : List Row) (i slots : ℕ) where
  -- who is in the way at the last start that ends within the slots; nobody where the demand is wider than all of them
  unfoldable pub last_blocker : theory.Blocker
  last_blocker = cond (leb (P.width i) slots) (theory.blocker_at P rows i (slots - P.width i)) theory.nobody

  -- demand i beside rows: at its lowest start, with who keeps it from starting lower, if it ends within the slots there; else nowhere,
  -- with who is in the way at the last start
  unfoldable pub placed_beside : Placement
  unfolding end_of lowest last_blocker blocker_told
  placed_beside =
      cond (leb (end_of P i (lowest P rows i)) slots)
      (record { spot = Some (lowest P rows i); blocker = blocker_told (theory.blocker_below P rows i (lowest P rows i)) })
      (record { spot = None; blocker = blocker_told last_blocker })

-- the answer of the call: beside the first `count` numbers, of 200 at most
unfoldable pub placed_one : List Bool → List ℕ → List ℕ → ℕ → ℕ → ℕ → ℕ → Placement
unfolding board_problem number_rows placed_beside
placed_one meets starts ends count width guard slots =
    placed_beside (board_problem meets starts ends width guard) (number_rows (min count 200) starts) 200 slots
