-- Reading a plan from the bytes of a file: its rows in any sequence, matched by ident. The place of a row's fault is its offset.
use Rattle.std.specs.Prelude.{ℕ, zero, suc, ◌+◌, Bool, false, cond, not, ◌||◌, List, [], ◌∷◌, map, length, leb, ltb, eqb, Result, Ok, Err}
use Rattle.refusal.specs.declared.Refusal.{Refusal}
use Rattle.refusal.specs.declared.Refusal.TheVariants.{UnknownIdent, IdentSeen, NoRow, EndAbove, FileTooLong}
use Rattle.grid.specs.Grid.{end_within}
use Rattle.theory.specs.Problem.{Row}
use Rattle.theory.specs.Orders.{listing}
use Rattle.request.specs.View.{View, demand_at, idents, width_of}
use Rattle.request.specs.Check.{then, check, must}
use Rattle.fields.specs.Field.{number16, field_end, check_field}
use Rattle.request.specs.Sharing.{problem_of}
use Rattle.lent.specs.Lent.{over, check_room}
use Rattle.meeting.specs.Plan.{end_of_plan, starts_of}
use Rattle.plan.specs.CheckStarts.{check_clashes}

-- where a number first stands in a list, or the list's length
unfoldable pub position_of : ℕ → List ℕ → ℕ
position_of x [] = 0
position_of x (y ∷ ys) = cond (eqb y x) 0 (suc (position_of x ys))

-- a listing position has a row already
unfoldable pub given : List Row → ℕ → Bool
given [] k = false
given (r ∷ rows) k = eqb r.who k || given rows k

-- the row of the field at an offset: the demand of its ident, at its start
unfoldable pub row_in : View → List ℕ → ℕ → Row
unfolding number16 idents position_of
row_in v s at = record { who = position_of (number16 s (at + 3)) (idents v.demands); at = number16 s (at + 5) }

-- a row after some rows: 14 where no demand has its ident, 15 where there is one of that demand, 17
unfoldable pub check_new_row : View → ℕ → List Row → Row → Result Unit Refusal
unfolding then must given demand_at
check_new_row v at rows r =
    then (must (ltb r.who (length v.demands)) (UnknownIdent at))
    (then (must (not (given rows r.who)) (IdentSeen at))
    (must (end_within v.band.slots r.at (width_of (demand_at v.demands r.who))) (EndAbove at)))

-- the field at an offset after some rows: 1, 2, 3, then 14, 15, 17
unfoldable pub check_row : View → List ℕ → ℕ → List Row → Result Unit Refusal
unfolding then check_field row_in check_new_row
check_row v s at rows = then (check_field s at 4 4 4) (check_new_row v at rows (row_in v s at))

-- the rows of a file, the last in front, or a refusal
pub data RowsRead : Type 0 where
  rows_refused : Refusal → RowsRead
  rows_read : List Row → RowsRead

-- a sound row, and then the rest
unfoldable pub next_rows : Result Unit Refusal → RowsRead → RowsRead
next_rows (Ok _) rest = rest
next_rows (Err why) rest = rows_refused why

-- the rows one by one, after some rows, up to the end of the file; a file within its limit has at most 200 rows, so that the first
-- number, 201 and falling, never gets to 0
unfoldable pub read_rows : ℕ → View → List ℕ → ℕ → List Row → RowsRead
unfolding field_end row_in check_row next_rows
read_rows zero v s at rows = rows_refused (FileTooLong 1400)
read_rows (suc left) v s at rows =
    let rest = read_rows left v s (field_end s at) (row_in v s at ∷ rows) in
    cond (eqb at (length s)) (rows_read rows) (next_rows (check_row v s at rows) rest)

-- which of the first n listing positions have a row
unfoldable pub given_to : ℕ → List Row → List Bool
unfolding given listing
given_to n rows = map (given rows) (listing n)

-- 16 at the first listing position without a row, from a position on
unfoldable pub check_given : ℕ → List Bool → Result Unit Refusal
unfolding then must
check_given k [] = Ok tt
check_given k (here ∷ later) = then (must here (NoRow k)) (check_given (k + 1) later)

-- after the last row: 16, 18, then 10 for a buffer of starts with so much room
unfoldable pub check_rows : View → ℕ → List Row → Result Unit Refusal
unfolding then given_to starts_of check_given check_clashes check_room
check_rows v room rows =
    then (check_given 0 (given_to v.demand_count rows))
    (then (check_clashes (problem_of v) (starts_of v.demand_count rows) [] 0 v.demands)
    (check_room v.demand_count room))

-- how a plan file reads: it is refused, or it is the plan of these starts
pub data PlanReading : Type 0 where
  refused : Refusal → PlanReading
  accepted : List ℕ → PlanReading

-- the starts, where the last checks pass
unfoldable pub if_checked : Result Unit Refusal → List ℕ → PlanReading
if_checked (Err why) starts = refused why
if_checked (Ok _) starts = accepted starts

-- after the rows: 16, 18, 10, and the starts
unfoldable pub with_rows : View → ℕ → RowsRead → PlanReading
unfolding check_rows starts_of if_checked
with_rows v room (rows_refused why) = refused why
with_rows v room (rows_read rows) = if_checked (check_rows v room rows) (starts_of v.demand_count rows)

-- after the tests of the request and of the length: the rows
unfoldable pub with_file : View → List ℕ → ℕ → Result Unit Refusal → PlanReading
unfolding read_rows with_rows
with_file v s room (Err why) = refused why
with_file v s room (Ok _) = with_rows v room (read_rows 201 v s 0 [])

-- the whole file, for a request and a buffer with so much room: the request, 20, the rows, 16, 18, 10
unfoldable pub read_plan_file : View → List ℕ → ℕ → PlanReading
unfolding then must check with_file
read_plan_file v s room = with_file v s room (then (check v) (must (leb (length s) 1400) (FileTooLong 1400)))

-- the answer: accepted with the plan's end, or refused
unfoldable pub plan_reply : View → PlanReading → Result ℕ Refusal
unfolding end_of_plan
plan_reply v (refused why) = Err why
plan_reply v (accepted starts) = Ok (end_of_plan v starts)

-- the buffer of starts afterwards: the starts at its front where the plan is accepted, and as it was where not
unfoldable pub plan_starts : PlanReading → List ℕ → List ℕ
unfolding over
plan_starts (refused why) out = out
plan_starts (accepted starts) out = over starts out
