-- Plans and files, there and back: what the promises speak of.
use Rattle.std.specs.Prelude.{ℕ, ◌+◌, ◌*◌, ◌/◌, ◌≤◌, List, [], ◌∷◌, ◌++◌, map, ◌≡◌, length, Ok}
use Rattle.theory.specs.Arrange.{Arrange}
use Rattle.theory.specs.Orders.{listing}
use Rattle.request.specs.View.{View, demand_at, idents}
use Rattle.fields.specs.Field.{number16}
use Rattle.meeting.specs.Plan.{start_at}
use Rattle.plan.specs.CheckStarts.{check_starts}
use Rattle.planfile.specs.PlanFile.{row_field}

-- the rows of the demands at these listing positions, one after the other
unfoldable pub rows_in_order : View → List ℕ → List ℕ → List ℕ
unfolding demand_at start_at row_field
rows_in_order v starts [] = []
rows_in_order v starts (k ∷ order) = row_field (demand_at v.demands k).ident (start_at starts k) ++ rows_in_order v starts order

-- the idents of a file's rows, in file order: a row has 7 bytes, and its ident stands behind the first 3
unfoldable pub row_idents : List ℕ → List ℕ
unfolding number16 listing
row_idents s = map (λ (row : ℕ). number16 s (7 * row + 3)) (listing (length s / 7))

-- a file in listing order: the idents of its rows are the demands', in listing order
unfoldable pub InListingOrder : View → List ℕ → Type 0
unfolding row_idents idents
InListingOrder v s = row_idents s ≡ idents v.demands

-- what a plan file that is read as these starts is: a row for each demand, in any order, of starts that the check accepts, one for
-- each demand, and there is room for them
pub record PlanAccepted (v : View) (s : List ℕ) (room : ℕ) (starts : List ℕ) : Type 0 where
  pub order : List ℕ
  pub each_once : Arrange order (listing v.demand_count)
  pub rows : s ≡ rows_in_order v starts order
  pub checked : check_starts v starts ≡ Ok tt
  pub all_starts : length starts ≡ v.demand_count
  pub room_enough : v.demand_count ≤ room
