-- The demands of a group placed one after the other: how it starts, what one demand more does, and how it ends.
use Prim.Native.Nat.{ℕ, suc, ◌+◌, ◌-◌, ◌≤◌, ◌<◌, max}
use Rattle.std.specs.Prelude.{Bool, false, Option, Some, None, ◌≡◌, refl, length, get_or, set}
use mathlib.Core.List.{List, [], ◌∷◌, Memᴰ}
use Rattle.std.proofs.Common.{⊎_elim, sym, ap, subst, ◌∙◌, arith, length-set, get_or-set_other}
use Rattle.theory.specs.Problem.{Problem, Row, end_of, lowest, place, fill, top}
use Rattle.theory.proofs.ProblemLaws.{end_is, top_place, top_fill, place_is, fill_nil, fill_cons, fill_append}
use Rattle.theory.specs.Orders.{count_up}
use Rattle.theory.proofs.ListingLaws.{count_up-append, count_up_last}
use Rattle.theory.proofs.TriedLaws.{below_or_not}
use Rattle.board.specs.declared.Placement.{Placement}
use Rattle.board.specs.Board.{board_problem, number_rows, placed_beside, placed_one}
use Rattle.board.proofs.BoardLaws.{spot_found, spot_none}
use Rattle.board.proofs.BesideLaws.{board_same, standing_more}
use Rattle.board.proofs.StandingLaws.{demand_end}
use Rattle.board.specs.inner.Standing.{OnBoard, Standing}
use Rattle.groups.specs.declared.walk.Level.{Level}
use Rattle.groups.specs.inner.Walk.{GroupSoFar}

-- at the start nothing is placed
pub so_far_none : (P : Problem) (K : ℕ) (rows : List Row) (from to : ℕ) (level : Level) → length level.starts ≡ 200 →
    length level.ends ≡ 200 → Standing P K rows level.starts level.ends → level.top ≡ top P rows →
    ((j : ℕ) → from ≤ j → j < to → get_or level.ends j 0 ≡ 0) → GroupSoFar P K rows from to from level level
unfolding count_up
so_far_none P K rows from to level starts_full ends_full standing top_is clear =
    let none : fill P rows (count_up (from - from) from) ≡ rows
    = ap (λ (n : ℕ). fill P rows (count_up n from)) (let e : from - from ≡ 0 = omega arith in e) ∙ fill_nil P rows in
    record {
      starts_full = starts_full;
      ends_full = ends_full;
      standing = subst (λ (r : List Row). Standing P K r level.starts level.ends) (sym none) standing;
      top_is = top_is ∙ ap (top P) (sym none);
      clear = clear;
      others = λ j h. refl;
      used_kept = refl;
      order_kept = refl;
      placed_kept = refl;
    }

-- a start found on the board ends within the slots
pub found_within : (meets : List Bool) (starts ends : List ℕ) (count width guard slots s : ℕ) →
    Some s ≡ (placed_one meets starts ends count width guard slots).spot → s + width ≤ slots
unfolding placed_one
found_within meets starts ends count width guard slots s found =
    let Q : Problem = board_problem meets starts ends width guard in
    let rows : List Row = number_rows (Prim.Native.Nat.min count 200) starts in
    let spot = spot_found Q rows 200 slots (placed_beside Q rows 200 slots) refl s (sym found) in
    omega (arith, spot.0, spot.1, demand_end meets starts ends guard width (lowest Q rows 200))

module _ {P : Problem} {K guard : ℕ} {rows : List Row} {from to i : ℕ} {before level : Level} (board : OnBoard P K guard) (begun : from ≤ i)
    (inside : i < to) (listed : to ≤ K) (so_far : GroupSoFar P K rows from to i before level) where
  -- the rows so far
  abbrev there : List Row
  there = fill P rows (count_up (i - from) from)

  -- with one demand more
  fill_more : fill P rows (count_up ((i + 1) - from) from) ≡ place P there i
  fill_more =
      ap (λ (n : ℕ). fill P rows (count_up n from)) (let e : (i + 1) - from ≡ suc (i - from) = omega arith in e)
      ∙ ap (fill P rows) (count_up_last (i - from) from)
      ∙ fill_append P rows (count_up (i - from) from) ((from + (i - from)) ∷ [])
      ∙ fill_cons P there (from + (i - from)) []
      ∙ fill_nil P (place P there (from + (i - from)))
      ∙ ap (place P there) (let e : from + (i - from) ≡ i = omega arith in e)

  -- and with all that follow
  fill_all : fill P rows (count_up (to - from) from) ≡ fill P (place P there i) (count_up (to - (i + 1)) (i + 1))
  fill_all =
      ap (λ (n : ℕ). fill P rows (count_up n from)) (let e : to - from ≡ ((i + 1) - from) + (to - (i + 1)) = omega arith in e)
      ∙ ap (fill P rows) (sym (count_up-append ((i + 1) - from) (to - (i + 1)) from))
      ∙ fill_append P rows (count_up ((i + 1) - from) from) (count_up (to - (i + 1)) (from + ((i + 1) - from)))
      ∙ ap (λ (r : List Row). fill P r (count_up (to - (i + 1)) (from + ((i + 1) - from)))) fill_more
      ∙ ap (λ (n : ℕ). fill P (place P there i) (count_up (to - (i + 1)) n)) (let e : from + ((i + 1) - from) ≡ i + 1 = omega arith in e)

  -- the demand to place is none of those that stand: it holds no slot yet
  fresh_one : (r : Row) → Memᴰ r there → r.who ≡ i → ⊥
  fresh_one r m e =
      let held = so_far.standing.held r m in
      omega (
        arith,
        held.ends_at,
        board.wide r.who held.position,
        ap (λ (j : ℕ). get_or level.ends j 0) e,
        so_far.clear i (omega arith) inside,
      )

  module _ (meets : List Bool) (met : (j : ℕ) → j < K → get_or meets j false ≡ P.joined j i) (slots : ℕ) (spot : Option ℕ)
      (is : spot ≡ (placed_one meets level.starts level.ends K (P.width i) guard slots).spot) where
    -- the spot beside the rows
    spot_is : spot ≡ (placed_beside P there i slots).spot
    spot_is =
        is ∙ ap (λ (p : Placement). p.spot) (board_same P K guard there level.starts level.ends i board so_far.standing meets met slots)

    -- one demand more stands
    pub so_far_more : (s up : ℕ) → Some s ≡ spot → up ≡ max level.top (s + P.width i) →
        GroupSoFar P K rows from to (i + 1) before
        (record level { starts = set level.starts i s; ends = set level.ends i (s + P.width i); top = up })
    so_far_more s up found ups =
        let at = spot_found P there i slots (placed_beside P there i slots) refl s (sym (found ∙ spot_is)) in
        let row_is : fill P rows (count_up ((i + 1) - from) from) ≡ record { who = i; at = s } ∷ there
        = fill_more ∙ place_is P there i ∙ ap (λ (t : ℕ). record { who = i; at = t } ∷ there) (sym at.0) in
        record {
          starts_full = length-set level.starts i s ∙ so_far.starts_full;
          ends_full = length-set level.ends i (s + P.width i) ∙ so_far.ends_full;
          standing =
              subst (λ (r : List Row). Standing P K r (set level.starts i s) (set level.ends i (s + P.width i))) (sym row_is)
              (standing_more P K there level.starts level.ends i s so_far.starts_full so_far.ends_full (omega arith)
              (omega (arith, board.few)) fresh_one so_far.standing);
          top_is =
              omega (arith, ups, at.0, top_place P there i, end_is P i (lowest P there i), so_far.top_is, ap (top P) fill_more);
          clear = λ j h k. get_or-set_other level.ends i j (s + P.width i) 0 (λ e. omega arith) ∙ so_far.clear j (omega arith) k;
          others =
              λ j h.
              get_or-set_other level.ends i j (s + P.width i) 0
              (λ e. ⊎_elim (λ (low : j < from). omega arith) (λ (high : to ≤ j). omega arith) h)
              ∙ so_far.others j h;
          used_kept = so_far.used_kept;
          order_kept = so_far.order_kept;
          placed_kept = so_far.placed_kept;
        }

    -- a demand without a start within the slots: all of them end above the slots
    nowhere_ends : None ≡ spot → slots < end_of P i (lowest P there i)
    nowhere_ends none =
        ⊎_elim
        (λ (wide : slots < P.width i). omega (arith, end_is P i (lowest P there i)))
        (λ (narrow : P.width i ≤ slots).
        (spot_none P there i slots (placed_beside P there i slots) refl (sym (none ∙ spot_is)) narrow).0)
        (below_or_not slots (P.width i))

    -- so the last of the whole group does
    pub group_stuck : (mark : ℕ) → mark ≡ slots + 1 → None ≡ spot → mark ≤ top P (fill P rows (count_up (to - from) from))
    group_stuck mark e none =
        omega (
          arith,
          nowhere_ends none,
          top_place P there i,
          top_fill P (place P there i) (count_up (to - (i + 1)) (i + 1)),
          ap (top P) fill_all,
        )
