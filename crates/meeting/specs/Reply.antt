-- What the call for the bound answers.
use Rattle.refusal.specs.declared.Refusal.{Refusal}
use Rattle.std.specs.Prelude.{ℕ, [], ◌∷◌, Result, Ok, Err}
use Rattle.refusal.specs.Told.{Told, refusal_told}
use Rattle.request.specs.View.{View}
use Rattle.request.specs.Check.{check}
use Rattle.meeting.specs.Bound.{bound_of}

-- a check, and where it passes the reply
unfoldable pub bound_after : Result Unit Refusal → Result ℕ Refusal → Result ℕ Refusal
bound_after (Ok _) reply = reply
bound_after (Err why) reply = Err why

-- the reply to a request: its bound, or the request's refusal
unfoldable pub bound_reply : View → Result ℕ Refusal
unfolding bound_after bound_of
bound_reply v = bound_after (check v) (Ok (bound_of v))

-- what a reply says: 0 and the bound, or the number of the fault and its place
unfoldable pub bound_told : Result ℕ Refusal → Told ℕ
bound_told (Ok b) = (0, b ∷ [])
bound_told (Err why) = refusal_told why
