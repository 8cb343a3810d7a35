-- What it is for a public call to give an answer: whatever meets the call's contract says so.
use Rattle.grid.specs.declared.Frequency.{Frequency}
use Rattle.grid.specs.declared.Block.{Block}
use Rattle.search.specs.declared.Answer.{Answer}
use Rattle.refusal.specs.declared.Refusal.{Refusal}
use Rattle.std.specs.Prelude.{ℕ, List, [], ◌∷◌, ◌≡◌, Result}
use Rattle.grid.specs.Grid.{frequency_reply, block_reply}
use Rattle.grid.specs.Told.{centre_told, block_told}
use Rattle.request.specs.declared.Request.{Request}
use Rattle.request.specs.View.{view}
use Rattle.reading.specs.Reading.{read_file}
use Rattle.reading.specs.FilePacking.{pack_reading}
use Rattle.request.specs.RoundTrip.{Bytes}
use Rattle.placing.specs.declared.Unplaced.{Unplaced}
use Rattle.meeting.specs.Reply.{bound_reply, bound_told}
use Rattle.placing.specs.FirstFit.{first_fit_reply, first_fit_starts, first_fit_blockers, placed_told}
use Rattle.search.specs.Reply.{Buffers, rooms_of, search_reply, buffers_after, answered_told}
use Rattle.plan.specs.CheckStarts.{starts_reply, accepted_told}
use Rattle.worked.specs.Calls.{Call, Said, says, says±, lent, rooms, three, shown, say_reading, first_fit, bound, search, check_starts, to_frequency, from_frequency, read_request}

-- a call gives an answer: for every request that looks like the line's, every result and every buffer that meet the contract say it
unfoldable pub Gives : Call → Said → Type 0
Gives (first_fit v order) said =
    (q : Request) → view q ≡ v → (r : Result ℕ Unplaced) (starts blockers : List ℕ) → r ≡ first_fit_reply (view q) order rooms →
    starts ≡ first_fit_starts (view q) order rooms lent → blockers ≡ first_fit_blockers (view q) order rooms lent →
    says (placed_told r) (starts ∷ blockers ∷ []) ≡ said
Gives (bound v) said = (q : Request) → view q ≡ v → (r : Result ℕ Refusal) → r ≡ bound_reply (view q) → says (bound_told r) [] ≡ said
Gives (search v limit) said =
    (q : Request) → view q ≡ v → (r : Result Answer Refusal) (after : Buffers) → r ≡ search_reply (view q) limit (rooms_of three) →
    after ≡ buffers_after (view q) limit three → says (answered_told r) (shown after) ≡ said
Gives (check_starts v starts) said =
    (q : Request) → view q ≡ v → (r : Result ℕ Refusal) → r ≡ starts_reply (view q) starts → says (accepted_told r) [] ≡ said
Gives (to_frequency band start width) said = (r : Result Frequency Refusal) → r ≡ frequency_reply band start width → says± (centre_told r) ≡ said
Gives (from_frequency band n m) said = (r : Result Block Refusal) → r ≡ block_reply band n m → says (block_told r) [] ≡ said
Gives (read_request file) said =
    Bytes file → (r : Result Request Refusal) → r ≡ pack_reading (read_file file) → say_reading r ≡ said
