-- Looking for a start past the rows that are in the way: one look, and what the looking finds.
use Rattle.std.specs.Prelude.{ℕ, zero, suc, ◌+◌, ◌≤◌, ◌<◌, max, Bool, true, false, cond, ◌&&◌, List, ◌≡◌, ltb, get_or}

-- one look at the first n demands: the larger of the start itself and the place past each demand that is met and starts below the end
unfoldable pub look_past : List Bool → List ℕ → List ℕ → ℕ → ℕ → ℕ → ℕ
look_past near low past end from zero = from
look_past near low past end from (suc k) =
    max (look_past near low past end from k) (cond (get_or near k false && ltb (get_or low k 0) end) (get_or past k 0) 0)

-- a start is clear of n demands: past each that is met and starts within the span from it
unfoldable pub Clear : List Bool → List ℕ → List ℕ → ℕ → ℕ → ℕ → Type 0
Clear near low past n span s =
    (k : ℕ) → k < n → get_or near k false ≡ true → get_or low k 0 < s + span → get_or past k 0 ≤ s

-- the first start that is clear, from a start on
pub record FirstClear (near : List Bool) (low past : List ℕ) (n span from s : ℕ) : Type 0 where
  pub rises : from ≤ s
  pub clear : Clear near low past n span s
  pub first : (t : ℕ) → from ≤ t → Clear near low past n span t → s ≤ t

-- from a start on no clear start lies below s
unfoldable pub Unpassed : List Bool → List ℕ → List ℕ → ℕ → ℕ → ℕ → ℕ → Type 0
unfolding Clear
Unpassed near low past n span from s = (t : ℕ) → from ≤ t → Clear near low past n span t → s ≤ t
