-- The public calls, and what each answers: the very definitions that their contracts cite, told by number and values.
use Rattle.refusal.specs.declared.Refusal.{Refusal}
use Rattle.request.specs.declared.Request.{Request}
use Rattle.std.specs.Prelude.{ℕ, List, [], ◌∷◌, length, ℤ, Result, Ok, Err}
use Rattle.refusal.specs.Told.{Told}
use Rattle.grid.specs.declared.Band.{Band}
use Rattle.grid.specs.Grid.{frequency_reply, block_reply}
use Rattle.grid.specs.Told.{centre_told, block_told}
use Rattle.request.specs.View.{View, view}
use Rattle.request.specs.Encoding.{encode}
use Rattle.request.specs.Told.{checked_told}
use Rattle.reading.specs.Reading.{FileReading, refused, accepted, read_file}
use Rattle.meeting.specs.Reply.{bound_reply, bound_told}
use Rattle.placing.specs.FirstFit.{first_fit_reply, first_fit_starts, first_fit_blockers, placed_told}
use Rattle.search.specs.Reply.{Buffers, buffers_of, rooms_of, search_reply, buffers_after, answered_told}
use Rattle.plan.specs.CheckStarts.{starts_reply, accepted_told}

-- a public call with its inputs; buffers are lent with room for four entries, all 7
pub data Call : Type 0 where
  first_fit : View → List ℕ → Call
  bound : View → Call
  search : View → ℕ → Call
  check_starts : View → List ℕ → Call
  to_frequency : Band → ℕ → ℕ → Call
  from_frequency : Band → ℤ → ℕ → Call
  read_request : List ℕ → Call

-- what a call says: the number of its fault and the fault's place, or 0 and its values; and what its buffers hold afterwards. A file that
-- is read is shown as the request in it, and as what that is written as again.
pub data Said : Type 0 where
  says : Told ℕ → List (List ℕ) → Said
  says± : Told ℤ → Said
  reads : View → List ℕ → Said

-- a lent buffer: what is not written stays 7
abbrev pub lent : List ℕ
lent = 7 ∷ 7 ∷ 7 ∷ 7 ∷ []

-- the rooms of the two that first fit is lent
abbrev pub rooms : List ℕ
rooms = length lent ∷ length lent ∷ []

-- the three that a search is lent, and what they say
abbrev pub three : Buffers
three = buffers_of lent lent lent

abbrev pub shown : Buffers → List (List ℕ)
shown after = after.starts ∷ after.order ∷ after.blockers ∷ []

-- what a reading says: the refusal, or the request
unfoldable pub say_reading : Result Request Refusal → Said
unfolding encode checked_told
say_reading (Ok request) = reads (view request) (encode (view request))
say_reading (Err why) = says (checked_told (Err why)) []

-- the same of what is read
unfoldable pub say_read : FileReading → Said
unfolding encode checked_told
say_read (accepted v) = reads v (encode v)
say_read (refused why) = says (checked_told (Err why)) []

-- what a call answers, and what it leaves in its buffers
unfoldable pub say : Call → Said
unfolding say_read
say (first_fit v order) =
    says (placed_told (first_fit_reply v order rooms)) (first_fit_starts v order rooms lent ∷ first_fit_blockers v order rooms lent ∷ [])
say (bound v) = says (bound_told (bound_reply v)) []
say (search v limit) = says (answered_told (search_reply v limit (rooms_of three))) (shown (buffers_after v limit three))
say (check_starts v starts) = says (accepted_told (starts_reply v starts)) []
say (to_frequency band start width) = says± (centre_told (frequency_reply band start width))
say (from_frequency band n m) = says (block_told (block_reply band n m)) []
say (read_request file) = say_read (read_file file)
