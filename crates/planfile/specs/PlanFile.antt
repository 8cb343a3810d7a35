-- A plan as a file: a field for each demand, with its ident and its start, in listing order.
use Rattle.refusal.specs.declared.Refusal.{Refusal}
use Rattle.std.specs.Prelude.{ℕ, ◌+◌, List, [], ◌∷◌, ◌++◌, length, Result}
use Rattle.request.specs.View.{DemandView, View}
use Rattle.request.specs.Encoding.{two_bytes, field}
use Rattle.lent.specs.Lent.{write_reply, filled}
use Rattle.meeting.specs.Plan.{start_at}
use Rattle.plan.specs.CheckStarts.{check_starts}

-- 04: a demand's ident and its start
unfoldable pub row_field : ℕ → ℕ → List ℕ
unfolding field two_bytes
row_field ident start = field 4 (two_bytes ident ++ two_bytes start)

-- the fields of all demands from a listing position on
unfoldable pub row_fields : List ℕ → ℕ → List DemandView → List ℕ
unfolding row_field start_at
row_fields starts k [] = []
row_fields starts k (d ∷ demands) = row_field d.ident (start_at starts k) ++ row_fields starts (k + 1) demands

-- the file of a plan
unfoldable pub encode_plan : View → List ℕ → List ℕ
unfolding row_fields
encode_plan v starts = row_fields starts 0 v.demands

-- writing a plan, the answer: the check of starts, then 10 with what the file needs; else its length
unfoldable pub plan_written : View → List ℕ → List ℕ → Result ℕ Refusal
unfolding check_starts encode_plan write_reply
plan_written v starts out = write_reply (check_starts v starts) (length (encode_plan v starts)) (length out)

-- the buffer afterwards: the file at its front where it was written, and as it was where not
unfoldable pub plan_out : View → List ℕ → List ℕ → List ℕ
unfolding encode_plan plan_written filled
plan_out v starts out = filled (plan_written v starts out) (encode_plan v starts) out
