-- What placing one demand promises, in the words of who places it: the number that is told is in the way, and of those the lowest.
use Rattle.std.specs.Prelude.{ℕ, suc, ◌+◌, ◌-◌, ◌≤◌, ◌<◌, min, Bool, true, false, List, ◌≡◌, get_or, Some, None}
use Rattle.board.specs.declared.Placement.{Placement}

-- number j clashes with a demand that starts at s: the two share a link, the number holds a slot, and neither ends, the guard included,
-- before the other starts
pub record NumberClashes (meets : List Bool) (starts ends : List ℕ) (width guard s j : ℕ) : Type 0 where
  pub met : get_or meets j false ≡ true
  pub holds : get_or starts j 0 < get_or ends j 0
  pub not_over : s < get_or ends j 0 + guard
  pub not_later : get_or starts j 0 < s + width + guard

-- number j is in the way at s: it is one of those that stand, which are 200 at most, it clashes there, and no lower number does
pub record InWay (meets : List Bool) (starts ends : List ℕ) (count width guard s j : ℕ) : Type 0 where
  pub stands : j < min count 200
  pub clash : NumberClashes meets starts ends width guard s j
  pub none_lower : (k : ℕ) → k < j → NumberClashes meets starts ends width guard s k → ⊥

-- number j keeps the demand from starting lower than one above s: it is in the way at s, and ends a guard below the start
pub record KeepsAbove (meets : List Bool) (starts ends : List ℕ) (count width guard s j : ℕ) : Type 0 where
  pub in_way : InWay meets starts ends count width guard s j
  pub ends_below : get_or ends j 0 + guard ≡ suc s

-- a placement tells the right blocker: at start 0 nobody; at a higher start the number that keeps the demand from starting lower; nowhere
-- the number in the way at the last start that ends within the slots. A demand wider than all of them has no start, and nobody is told
pub record PlacedWell (meets : List Bool) (starts ends : List ℕ) (count width guard slots : ℕ) (p : Placement) : Type 0 where
  pub at_0 : p.spot ≡ Some 0 → p.blocker ≡ None
  pub at_higher : (s : ℕ) → p.spot ≡ Some (suc s) → (j : ℕ) × (p.blocker ≡ Some j) × KeepsAbove meets starts ends count width guard s j
  pub nowhere : p.spot ≡ None → width ≤ slots →
      (j : ℕ) × (p.blocker ≡ Some j) × InWay meets starts ends count width guard (slots - width) j
  pub too_wide : slots < width → (p.spot ≡ None) × (p.blocker ≡ None)
