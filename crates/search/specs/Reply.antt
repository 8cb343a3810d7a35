-- What the search of a request replies, and what the three lent buffers hold afterwards.
use Rattle.refusal.specs.declared.Refusal.{Refusal}
use Rattle.std.specs.Prelude.{ℕ, Bool, true, false, List, [], ◌∷◌, length, leb, Result, Ok, Err}
use Rattle.refusal.specs.declared.Refusal.TheVariants.{TooManyToSearch}
use Rattle.refusal.specs.Told.{Told, refusal_told}
use Rattle.theory.specs.Orders.{listing}
use Rattle.theory.specs.Walk.{Best, none_met, met}
use Rattle.theory.specs.Search as theory
use Rattle.request.specs.View.{View}
use Rattle.request.specs.Check.{then, must, check}
use Rattle.lent.specs.Lent.{check_rooms, over, unless_refused}
use Rattle.meeting.specs.Plan.{starts_of}
use Rattle.request.specs.Sharing.{problem_of}
use Rattle.placing.specs.FirstFit.{blockers_of}
use Rattle.meeting.specs.Bound.{bound_of}
use Rattle.search.specs.declared.Outcome.{Outcome}
use Rattle.search.specs.declared.Outcome.TheVariants.{Finished, NothingFits, Unfinished, UnfinishedEmpty}
use Rattle.search.specs.declared.Answer.{Answer}

-- the search of a request: all its demands in listing order, inside its band, with its bound
unfoldable pub searched : View → ℕ → theory.Answer
searched v limit = theory.search (problem_of v) v.band.slots (bound_of v) limit [] (listing v.demand_count)

-- the outcome in the call's words
unfoldable pub outcome_told : theory.Outcome → Outcome
outcome_told (theory.finished e) = Finished e
outcome_told theory.nothing_fits = NothingFits
outcome_told (theory.unfinished e) = Unfinished e
outcome_told theory.unfinished_empty = UnfinishedEmpty

-- what an outcome says: which of the four it is, 1 to 4, so that 0 is none
unfoldable pub outcome_number : Outcome → ℕ
outcome_number (Finished e) = 1
outcome_number NothingFits = 2
outcome_number (Unfinished e) = 3
outcome_number UnfinishedEmpty = 4

-- and the end of its plan, 0 without one
unfoldable pub outcome_end : Outcome → ℕ
outcome_end (Finished e) = e
outcome_end NothingFits = 0
outcome_end (Unfinished e) = e
outcome_end UnfinishedEmpty = 0

-- the outcome by whether the steps were spent, and whether a plan was met, which ends at the mark
unfoldable pub outcome_by : Bool → Bool → ℕ → Outcome
outcome_by false false mark = NothingFits
outcome_by false true mark = Finished mark
outcome_by true false mark = UnfinishedEmpty
outcome_by true true mark = Unfinished mark

-- the answer in the call's words
unfoldable pub answer_told : theory.Answer → Answer
unfolding outcome_told
answer_told a =
    record { outcome = outcome_told a.outcome; bound = a.bound; steps = a.steps; reached = a.reached; ruled = a.ruled }

-- the buffers that a search is lent: for the starts, for the order and for the blockers
pub record Buffers : Type 0 where
  pub starts : List ℕ
  pub order : List ℕ
  pub blockers : List ℕ

-- the three as they are lent
abbrev pub buffers_of : List ℕ → List ℕ → List ℕ → Buffers
buffers_of starts order blockers = record { starts = starts; order = order; blockers = blockers }

-- how many entries each has room for, in the sequence in which they are tested
unfoldable pub rooms_of : Buffers → List ℕ
rooms_of lent = length lent.starts ∷ length lent.order ∷ length lent.blockers ∷ []

-- after the request: 11, then 10 for each buffer
unfoldable pub check_sizes : ℕ → List ℕ → Result Unit Refusal
unfolding then must check_rooms
check_sizes K rooms = then (must (leb K 20) (TooManyToSearch K)) (check_rooms K rooms)

-- all that a search tests before its first step
unfoldable pub check_search : View → List ℕ → Result Unit Refusal
unfolding then check check_sizes
check_search v rooms = then (check v) (check_sizes v.demand_count rooms)

-- the reply: the refusal, or the answer
unfoldable pub reply_to : Result Unit Refusal → theory.Answer → Result Answer Refusal
unfolding answer_told
reply_to (Err why) a = Err why
reply_to (Ok _) a = Ok (answer_told a)

-- the buffers after a search that was run: with a plan its starts, the order that gave it and its blockers, K entries each; else as they were
unfoldable pub buffers_kept : View → Best → Buffers → Buffers
unfolding starts_of blockers_of over
buffers_kept v none_met lent = lent
buffers_kept v (met rows order) lent =
    record {
      starts = over (starts_of v.demand_count rows) lent.starts;
      order = over order lent.order;
      blockers = over (blockers_of (problem_of v) v.demand_count rows) lent.blockers;
    }

-- the reply to a request, a limit, and buffers of these rooms
unfoldable pub search_reply : View → ℕ → List ℕ → Result Answer Refusal
unfolding check_search reply_to searched
search_reply v limit rooms = reply_to (check_search v rooms) (searched v limit)

-- what the buffers hold afterwards
unfoldable pub buffers_after : View → ℕ → Buffers → Buffers
unfolding check_search rooms_of searched buffers_kept unless_refused
buffers_after v limit lent = unless_refused (check_search v (rooms_of lent)) lent (buffers_kept v (searched v limit).best lent)

-- what a reply says: 0, then the outcome's number and end, the bound, the steps, the orders reached, the orders ruled out; or the number
-- of the fault and its place
unfoldable pub answered_told : Result Answer Refusal → Told ℕ
unfolding outcome_number outcome_end
answered_told (Ok a) =
    (0, outcome_number a.outcome ∷ outcome_end a.outcome ∷ a.bound ∷ a.steps ∷ a.reached ∷ a.ruled ∷ [])
answered_told (Err why) = refusal_told why
