-- The check of a list of starts, test by test.
use Rattle.refusal.specs.declared.Refusal.{Refusal}
use Rattle.std.specs.Prelude.{ℕ, ◌+◌, cond, List, [], ◌∷◌, length, ltb, Result, Ok, Err}
use Rattle.refusal.specs.declared.Refusal.TheVariants.{NoRow, EndAbove, Clash}
use Rattle.grid.specs.Grid.{end_within}
use Rattle.refusal.specs.Told.{Told, refusal_told}
use Rattle.theory.specs.Problem.{Problem, Row, fits}
use Rattle.request.specs.View.{DemandView, View, width_of}
use Rattle.request.specs.Check.{check, then, must}
use Rattle.request.specs.Sharing.{problem_of}
use Rattle.meeting.specs.Plan.{start_at, end_of_plan}

-- 16, at how many starts there are: fewer than K
unfoldable pub check_count : ℕ → List ℕ → Result Unit Refusal
check_count K starts = cond (ltb (length starts) K) (Err (NoRow (length starts))) (Ok tt)

-- 17 at listing position k: the end is above S
unfoldable pub check_end : ℕ → List ℕ → ℕ → DemandView → Result Unit Refusal
unfolding must start_at
check_end S starts k d = must (end_within S (start_at starts k) (width_of d)) (EndAbove k)

-- 17 at the first demand, as listed, that ends above S
unfoldable pub check_ends : ℕ → List ℕ → ℕ → List DemandView → Result Unit Refusal
unfolding then check_end
check_ends S starts k [] = Ok tt
check_ends S starts k (d ∷ demands) = then (check_end S starts k d) (check_ends S starts (k + 1) demands)

-- 18 at listing position k: it clashes with one of the rows, the demands before it
unfoldable pub check_clash : Problem → List ℕ → List Row → ℕ → Result Unit Refusal
unfolding start_at fits
check_clash P starts rows k = cond (fits P rows k (start_at starts k)) (Ok tt) (Err (Clash k))

-- 18 at the first demand, by listing position, that clashes with one before it
unfoldable pub check_clashes : Problem → List ℕ → List Row → ℕ → List DemandView → Result Unit Refusal
unfolding then check_clash start_at
check_clashes P starts rows k [] = Ok tt
check_clashes P starts rows k (d ∷ demands) =
    then (check_clash P starts rows k)
    (check_clashes P starts (record { who = k; at = start_at starts k } ∷ rows) (k + 1) demands)

-- 17, then 18, of as many starts as there are demands
unfoldable pub check_places : View → List ℕ → Result Unit Refusal
unfolding then check_ends check_clashes
check_places v starts =
    then (check_ends v.band.slots starts 0 v.demands) (check_clashes (problem_of v) starts [] 0 v.demands)

-- the whole check: the request, 16, 17, 18
unfoldable pub check_starts : View → List ℕ → Result Unit Refusal
unfolding then check check_count check_places
check_starts v starts = then (check v) (then (check_count v.demand_count starts) (check_places v starts))

-- the answer of a check: accepted with this end, or refused
unfoldable pub reply_with : Result Unit Refusal → ℕ → Result ℕ Refusal
reply_with (Ok _) end = Ok end
reply_with (Err why) end = Err why

-- the answer for a request and its starts: the plan's end, or why it is refused
unfoldable pub starts_reply : View → List ℕ → Result ℕ Refusal
unfolding check_starts end_of_plan reply_with
starts_reply v starts = reply_with (check_starts v starts) (end_of_plan v starts)

-- what an answer says: 0 and the plan's end, or the number of the fault and its place
unfoldable pub accepted_told : Result ℕ Refusal → Told ℕ
accepted_told (Ok end) = (0, end ∷ [])
accepted_told (Err why) = refusal_told why
