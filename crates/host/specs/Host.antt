-- What the calls for C answer: structs of numbers, from how a request file reads; and what their lent buffers hold afterwards.
use Rattle.grid.specs.declared.Frequency.{Frequency}
use Rattle.search.specs.declared.Answer.{Answer}
use Rattle.std.specs.Prelude.{ℕ, cond, List, length, replicate, eqb, ℤ, pos, Option, Some, None, Result, Ok, Err}
use Rattle.refusal.specs.declared.Refusal.{Refusal}
use Rattle.refusal.specs.Refusal.{number_of, place_of}
use Rattle.grid.specs.Grid.{frequency_reply}
use Rattle.reading.specs.Reading.{FileReading, refused, accepted}
use Rattle.meeting.specs.Reply.{bound_reply}
use Rattle.search.specs.Reply as search
use Rattle.search.specs.Reply.{outcome_number, outcome_end}
use Rattle.groups.specs.declared.Grouped.{Grouped}
use Rattle.groups.specs.Reply.{groups_reply, groups_starts, groups_blockers}
use Rattle.plan.specs.CheckStarts.{starts_reply}
use Rattle.planfile.specs.PlanReading as plan
use Rattle.host.specs.declared.LightplanAnswer.{LightplanAnswer}
use Rattle.host.specs.declared.LightplanGrouped.{LightplanGrouped}
use Rattle.host.specs.declared.LightplanVerdict.{LightplanVerdict}
use Rattle.host.specs.declared.LightplanFrequency.{LightplanFrequency}

-- the version of the calls: 1 had five calls and outcomes from 0 on, 2 a search without blockers, 3 demands without rates, 4 no groups,
-- 5 no certificates
unfoldable pub version : ℕ
version = 6

-- ---- a request file searched

-- a refusal: its number and its place, all else 0
unfoldable pub answer_refused : Refusal → LightplanAnswer
answer_refused why =
    record { refusal = number_of why; place = place_of why; outcome = 0; end = 0; bound = 0; steps = 0; reached = 0; ruled = 0 }

-- a reply of the search: 0 at place 0 and the answer's numbers, or the refusal
unfoldable pub search_told : Result Answer Refusal → LightplanAnswer
unfolding outcome_number outcome_end answer_refused
search_told (Ok a) =
    record {
      refusal = 0;
      place = 0;
      outcome = outcome_number a.outcome;
      end = outcome_end a.outcome;
      bound = a.bound;
      steps = a.steps;
      reached = a.reached;
      ruled = a.ruled;
    }
search_told (Err why) = answer_refused why

-- the answer for a file, a limit, and buffers of these rooms: the reader's refusal, or the search's reply
unfoldable pub answer_entry : FileReading → ℕ → List ℕ → LightplanAnswer
unfolding answer_refused search_told
answer_entry (refused why) limit rooms = answer_refused why
answer_entry (accepted v) limit rooms = search_told (search.search_reply v limit rooms)

-- the buffers of starts, order and blockers afterwards: as the search leaves them, as they were where the file is refused
unfoldable pub buffers_searched : FileReading → ℕ → search.Buffers → search.Buffers
buffers_searched (refused why) limit lent = lent
buffers_searched (accepted v) limit lent = search.buffers_after v limit lent

-- ---- the demands of a request file in groups

-- a refusal: its number and its place, all else 0
unfoldable pub grouped_refused : Refusal → LightplanGrouped
grouped_refused why =
    record { refusal = number_of why; place = place_of why; outcome = 0; end = 0; bound = 0; groups = 0; order = replicate 8 0 }

-- the best of M groups' orders, beside the bound: 0 at place 0 and 1, the plan's end, and M for the entries of the order; or 2 where nothing
-- was found
unfoldable pub outcome_told : ℕ → ℕ → Option Grouped → LightplanGrouped
outcome_told need M (Some plan) =
    record { refusal = 0; place = 0; outcome = 1; end = plan.end; bound = need; groups = M; order = plan.order }
outcome_told need M None = record { refusal = 0; place = 0; outcome = 2; end = 0; bound = need; groups = 0; order = replicate 8 0 }

-- the reply for the bound and that of M groups
unfoldable pub grouped_told : Result ℕ Refusal → ℕ → Result (Option Grouped) Refusal → LightplanGrouped
unfolding grouped_refused outcome_told
grouped_told (Ok need) M (Ok best) = outcome_told need M best
grouped_told (Ok need) M (Err why) = grouped_refused why
grouped_told (Err why) M reply = grouped_refused why

-- the answer for a file, a number of groups, and buffers of these rooms: the reader's refusal, or the reply of the groups
unfoldable pub grouped_entry : FileReading → ℕ → List ℕ → LightplanGrouped
unfolding grouped_refused grouped_told
grouped_entry (refused why) M rooms = grouped_refused why
grouped_entry (accepted v) M rooms = grouped_told (bound_reply v) M (groups_reply v M rooms)

-- the buffer of starts afterwards, beside buffers of these rooms: as the groups leave it, as it was where the file is refused
unfoldable pub starts_grouped : FileReading → ℕ → List ℕ → List ℕ → List ℕ
starts_grouped (refused why) M rooms starts = starts
starts_grouped (accepted v) M rooms starts = groups_starts v M rooms starts

-- the buffer of blockers, alike
unfoldable pub blockers_grouped : FileReading → ℕ → List ℕ → List ℕ → List ℕ
blockers_grouped (refused why) M rooms blockers = blockers
blockers_grouped (accepted v) M rooms blockers = groups_blockers v M rooms blockers

-- ---- a plan checked against a request file

-- a refusal: its number and its place, what is refused, and all else 0
unfoldable pub verdict_refused : ℕ → Refusal → LightplanVerdict
verdict_refused which why = record { refusal = number_of why; place = place_of why; which = which; end = 0; bound = 0 }

-- what a check refuses: the plan, 2; where the number is 10 the buffer for its starts, 3
unfoldable pub which_of : Refusal → ℕ
which_of why = cond (eqb (number_of why) 10) 3 2

-- the reply for the bound and that of a check: 0 at place 0, 0 for nothing refused, the plan's end and the bound; or the refusal, with
-- 1 for a request that has no bound
unfoldable pub check_told : Result ℕ Refusal → Result ℕ Refusal → LightplanVerdict
unfolding verdict_refused which_of
check_told (Err why) reply = verdict_refused 1 why
check_told (Ok need) (Ok e) = record { refusal = 0; place = 0; which = 0; end = e; bound = need }
check_told (Ok need) (Err why) = verdict_refused (which_of why) why

-- the answer for a file, a plan file, and a buffer of this length: the reader's refusal, or the plan reader's reply
unfoldable pub verdict_entry : FileReading → List ℕ → ℕ → LightplanVerdict
unfolding verdict_refused check_told
verdict_entry (refused why) file room = verdict_refused 1 why
verdict_entry (accepted v) file room = check_told (bound_reply v) (plan.plan_reply v (plan.read_plan_file v file room))

-- the buffer of starts afterwards: as the plan reader leaves it, as it was where the request file is refused
unfoldable pub starts_read : FileReading → List ℕ → List ℕ → List ℕ
starts_read (refused why) file starts = starts
starts_read (accepted v) file starts = plan.plan_starts (plan.read_plan_file v file (length starts)) starts

-- the answer for a file and starts in memory: the reader's refusal, or the reply of the check
unfoldable pub starts_entry : FileReading → List ℕ → LightplanVerdict
unfolding verdict_refused check_told
starts_entry (refused why) starts = verdict_refused 1 why
starts_entry (accepted v) starts = check_told (bound_reply v) (starts_reply v starts)

-- ---- a block's frequency

-- a reply of the grid: 0 at place 0 and the block's numbers, or the refusal's number and place and all else 0
unfoldable pub frequency_told : Result Frequency Refusal → LightplanFrequency
frequency_told (Ok f) = record { refusal = 0; place = 0; n = f.n; m = f.m; mhz = f.mhz }
frequency_told (Err why) = record { refusal = number_of why; place = place_of why; n = pos 0; m = 0; mhz = pos 0 }

-- the answer for a band of three numbers, a start and a width
unfoldable pub frequency_entry : ℤ → ℕ → ℕ → ℕ → ℕ → LightplanFrequency
unfolding frequency_told
frequency_entry n0 S G s w = frequency_told (frequency_reply (record { n0 = n0; slots = S; guard = G }) s w)
