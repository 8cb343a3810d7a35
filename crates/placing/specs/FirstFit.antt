-- First fit over a request: the tests before it, the reply, and the starts and blockers afterwards.
use Rattle.refusal.specs.declared.Refusal.{Refusal}
use Rattle.std.specs.Prelude.{ℕ, ◌+◌, ◌-◌, Bool, cond, ◌||◌, List, [], ◌∷◌, ◌++◌, map, leb, eqb, length, Result, Ok, Err}
use Rattle.refusal.specs.Refusal.{number_of, place_of}
use Rattle.refusal.specs.Told.{Told, refusal_told}
use Rattle.refusal.specs.declared.Refusal.TheVariants.{NotAnOrder, NoStart}
use Rattle.theory.specs.Blocker.{Blocker, blocker_at, blocker_in}
use Rattle.theory.specs.Orders.{listing}
use Rattle.theory.specs.Problem.{Problem, Row, Fitted, placed, refused, first_fit, top}
use Rattle.board.specs.Board.{blocker_told, entry_of}
use Rattle.request.specs.View.{View}
use Rattle.request.specs.Check.{then, has, check}
use Rattle.placing.specs.declared.Unplaced.{Unplaced}
use Rattle.placing.specs.declared.Unplaced.TheVariants as unplaced
use Rattle.request.specs.Sharing.{problem_of}
use Rattle.lent.specs.Lent.{check_rooms, over, unless_refused}
use Rattle.meeting.specs.Plan.{starts_of}

-- an entry of an order is wrong when it is no listing position, or one that the order has had
unfoldable pub wrong_entry : ℕ → List ℕ → ℕ → Bool
unfolding has
wrong_entry K earlier i = leb K i || has i earlier

-- 12 at the index of the first wrong entry, the entries one by one
unfoldable pub check_entries : ℕ → List ℕ → ℕ → List ℕ → Result Unit Refusal
unfolding then wrong_entry
check_entries K earlier k [] = Ok tt
check_entries K earlier k (i ∷ order) =
    then (cond (wrong_entry K earlier i) (Err (NotAnOrder k)) (Ok tt))
    (check_entries K (earlier ++ (i ∷ [])) (k + 1) order)

-- 12 at the order's length: that is not K
unfoldable pub check_length : ℕ → List ℕ → Result Unit Refusal
check_length K order = cond (eqb (length order) K) (Ok tt) (Err (NotAnOrder (length order)))

-- 12: the length, then the entries
unfoldable pub check_order : ℕ → List ℕ → Result Unit Refusal
unfolding then check_length check_entries
check_order K order = then (check_length K order) (check_entries K [] 0 order)

-- the tests before anything is placed: the request's, 12, then 10 for the starts and for the blockers, by the rooms of the two
unfoldable pub check_first_fit : View → List ℕ → List ℕ → Result Unit Refusal
unfolding then check_order check_rooms
check_first_fit v order rooms = then (check v) (then (check_order v.demand_count order) (check_rooms v.demand_count rooms))

-- first fit of the request's problem along the order, inside the band
unfoldable pub fitted : View → List ℕ → Fitted
unfolding problem_of first_fit
fitted v order = first_fit (problem_of v) v.band.slots [] order

-- a blocker as an entry of a lent buffer: its listing position, or 65535 for nobody
unfoldable pub blocker_entry : Blocker → ℕ
unfolding entry_of blocker_told
blocker_entry blocker = entry_of (blocker_told blocker)

-- the blockers by listing position that rows give K demands
unfoldable pub blockers_of : Problem → ℕ → List Row → List ℕ
unfolding blocker_entry blocker_in listing
blockers_of P K rows = map (λ (i : ℕ). blocker_entry (blocker_in P rows i)) (listing K)

-- the reply to a fitting: the end of the plan; or 13 at the demand for which there is no start, with who is in the way at S - w, the last
-- start that ends inside the band
unfoldable pub fitted_reply : View → Fitted → Result ℕ Unplaced
unfolding blocker_entry blocker_at
fitted_reply v (placed rows) = Ok (top (problem_of v) rows)
fitted_reply v (refused rows i) =
    Err (unplaced.Blocked (NoStart i) (blocker_entry (blocker_at (problem_of v) rows i (v.band.slots - (problem_of v).width i))))

-- a check, and where it passes the reply
unfoldable pub placed_after : Result Unit Refusal → Result ℕ Unplaced → Result ℕ Unplaced
placed_after (Ok _) reply = reply
placed_after (Err why) reply = Err (unplaced.Refused why)

-- the reply of first fit
unfoldable pub first_fit_reply : View → List ℕ → List ℕ → Result ℕ Unplaced
unfolding placed_after check_first_fit fitted_reply fitted
first_fit_reply v order rooms = placed_after (check_first_fit v order rooms) (fitted_reply v (fitted v order))

-- the starts after a fitting: by listing position those that the rows give, the rest as it was; a refusal leaves all as it was
unfoldable pub fitted_starts : ℕ → Fitted → List ℕ → List ℕ
unfolding over starts_of
fitted_starts K (placed rows) starts = over (starts_of K rows) starts
fitted_starts K (refused rows i) starts = starts

-- the blockers after a fitting, alike
unfoldable pub fitted_blockers : View → Fitted → List ℕ → List ℕ
unfolding over blockers_of
fitted_blockers v (placed rows) blockers = over (blockers_of (problem_of v) v.demand_count rows) blockers
fitted_blockers v (refused rows i) blockers = blockers

-- the starts after first fit
unfoldable pub first_fit_starts : View → List ℕ → List ℕ → List ℕ → List ℕ
unfolding unless_refused check_first_fit fitted_starts fitted
first_fit_starts v order rooms starts =
    unless_refused (check_first_fit v order rooms) starts (fitted_starts v.demand_count (fitted v order) starts)

-- the blockers after first fit
unfoldable pub first_fit_blockers : View → List ℕ → List ℕ → List ℕ → List ℕ
unfolding unless_refused check_first_fit fitted_blockers fitted
first_fit_blockers v order rooms blockers =
    unless_refused (check_first_fit v order rooms) blockers (fitted_blockers v (fitted v order) blockers)

-- what a reply says: 0 and the plan's end; or the number of the fault and its place, and behind the place of 13 the blocker
unfoldable pub placed_told : Result ℕ Unplaced → Told ℕ
placed_told (Ok end) = (0, end ∷ [])
placed_told (Err (unplaced.Refused why)) = refusal_told why
placed_told (Err (unplaced.Blocked why blocker)) = (number_of why, place_of why ∷ blocker ∷ [])
