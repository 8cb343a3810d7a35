-- The rows of a file in an array by listing position, and how far their reading has come.
use Rattle.refusal.specs.declared.Refusal.{Refusal}
use Rattle.std.specs.Prelude.{ℕ, ◌-◌, ◌*◌, ◌≤◌, Bool, cond, ltb, List, [], map, ◌≡◌, length, take, Option, Some, None, is_some, unwrap_or, Result, Ok, Err}
use Rattle.theory.specs.Problem.{Row, start_in}
use Rattle.theory.specs.Orders.{listing}
use Rattle.request.specs.View.{View}
use Rattle.request.specs.Check.{then}
use Rattle.request.specs.Packing.{padded}
use Rattle.lent.specs.Lent.{check_room}
use Rattle.meeting.specs.Plan.{end_of_plan, starts_of}
use Rattle.plan.specs.CheckStarts.{check_starts, reply_with}
use Rattle.planfile.specs.PlanReading.{position_of, given, RowsRead, rows_refused, rows_read, read_rows, given_to, check_given}

-- the start that rows give a listing position, where they give one
unfoldable pub row_start : List Row → ℕ → Option ℕ
unfolding given start_in
row_start rows k = cond (given rows k) (Some (start_in rows k)) None

-- that of each of the first n
unfoldable pub row_starts : ℕ → List Row → List (Option ℕ)
unfolding row_start listing
row_starts n rows = map (row_start rows) (listing n)

-- a refusal, or the starts that the rows give the listing positions
unfoldable pub pack_rows : RowsRead → Result (List (Option ℕ)) Refusal
unfolding row_starts
pack_rows (rows_refused why) = Err why
pack_rows (rows_read rows) = Ok (row_starts 200 rows)

-- where an ident first stands among some, if it does
unfoldable pub place_of : ℕ → List ℕ → Option ℕ
unfolding position_of
place_of x xs = cond (ltb (position_of x xs) (length xs)) (Some (position_of x xs)) None

-- an array of starts, where a test passes
unfoldable pub starts_if : Result Unit Refusal → List ℕ → Result (List ℕ) Refusal
unfolding padded
starts_if (Ok _) starts = Ok (padded 200 0 starts)
starts_if (Err why) starts = Err why

-- 16 at the first listing position without a start, or the starts
unfoldable pub all_given : List (Option ℕ) → Result (List ℕ) Refusal
unfolding check_given starts_if
all_given rows = starts_if (check_given 0 (map is_some rows)) (map (λ (row : Option ℕ). unwrap_or row 0) rows)

-- at an offset of a file: so many rows have been read, the array holds their starts, and the rest decides the whole
pub record RowsSoFar (v : View) (s : List ℕ) (at : ℕ) (array : List (Option ℕ)) : Type 0 where
  pub rows : List Row
  pub count : ℕ
  pub offset : at ≡ 7 * count
  pub within : at ≤ length s
  pub held : array ≡ row_starts 200 rows
  pub goes_on : read_rows 201 v s 0 [] ≡ read_rows (201 - count) v s at rows

-- starts that stand in an array for each demand, as the rows of a whole file give them
pub record AllRead (v : View) (s : List ℕ) (starts : List ℕ) : Type 0 where
  pub rows : List Row
  pub whole_file : read_rows 201 v s 0 [] ≡ rows_read rows
  pub none_missing : check_given 0 (given_to v.demand_count rows) ≡ Ok tt
  pub whole : length starts ≡ 200
  pub front : take v.demand_count starts ≡ starts_of v.demand_count rows

-- the answer to rows that each passed 17, told by their arrays: 16, the check of starts, 10, or the plan's end
unfoldable pub rows_reply : View → List Bool → List ℕ → ℕ → Result ℕ Refusal
unfolding then check_given check_starts check_room reply_with end_of_plan
rows_reply v has starts room =
    reply_with (then (check_given 0 has) (then (check_starts v starts) (check_room v.demand_count room))) (end_of_plan v starts)
