-- A plan's file, row by row, as it is written.
use Rattle.std.specs.Prelude.{ℕ, suc, ◌+◌, ◌*◌, ◌/◌, ◌%◌, ◌≤◌, ◌<◌, List, [], ◌∷◌, ◌++◌, ◌≡◌, refl, drop, set, Result, Ok, Err}
use Rattle.std.proofs.Common.{sym, ◌∙◌, arith, add-one, length-append, drop_of_length-le, drop-cons}
use Rattle.std.proofs.Math.Path.{ap}
use Rattle.std.proofs.Math.ListN.{length}
use Rattle.std.proofs.lemmas.List.Edits.{sets}
use Rattle.refusal.specs.declared.Refusal.{Refusal}
use Rattle.request.specs.View.{DemandView, View, demand_at, no_demand}
use Rattle.request.specs.Encoding.{two_bytes, field}
use Rattle.lent.specs.Lent.{check_room, filled}
use Rattle.lent.specs.LentLaws.{sets_then, room_enough, write_fault, write_short, write_fits, write_says}
use Rattle.meeting.specs.Plan.{start_at}
use Rattle.plan.specs.CheckStarts.{check_starts}
use Rattle.planfile.specs.PlanFile.{row_field, row_fields, encode_plan, plan_written, plan_out}

-- a row has 7 bytes
pub row_length : (ident start : ℕ) → length (row_field ident start) ≡ 7
unfolding row_field field two_bytes
row_length ident start = refl

-- the rows have 7 bytes for each demand
pub rows_length : (starts : List ℕ) (k : ℕ) (demands : List DemandView) → length (row_fields starts k demands) ≡ 7 * length demands
unfolding row_fields
rows_length starts k [] = refl
rows_length starts k (d ∷ demands) =
    length-append (row_field d.ident (start_at starts k)) (row_fields starts (k + 1) demands)
    ∙ omega (arith, row_length d.ident (start_at starts k), rows_length starts (k + 1) demands)

-- the rows from a position on: the one there, then those behind it
pub rows_turn : (starts : List ℕ) (demands : List DemandView) (k : ℕ) → k < length demands →
    row_fields starts k (drop k demands) ≡ row_field (demand_at demands k).ident (start_at starts k) ++ row_fields starts (k + 1) (drop (k + 1) demands)
unfolding row_fields demand_at
rows_turn starts demands k h = rw (drop-cons demands k no_demand h, add-one k)

-- behind the last demand there is no row
pub rows_done : (starts : List ℕ) (demands : List DemandView) (k : ℕ) → length demands ≤ k → row_fields starts k (drop k demands) ≡ []
unfolding row_fields
rows_done starts demands k h = rw (drop_of_length-le demands h)

-- the rows stored from a position on: the one there, then those behind it
pub store_turn : (out starts : List ℕ) (demands : List DemandView) (k : ℕ) → k < length demands →
    sets out (7 * k) (row_fields starts k (drop k demands)) ≡
    sets (sets out (7 * k) (row_field (demand_at demands k).ident (start_at starts k))) (7 * (k + 1)) (row_fields starts (k + 1) (drop (k + 1) demands))
store_turn out starts demands k h =
    let row = row_field (demand_at demands k).ident (start_at starts k) in
    let rest = row_fields starts (k + 1) (drop (k + 1) demands) in
    let next : 7 * (k + 1) ≡ 7 * k + length row = omega (arith, row_length (demand_at demands k).ident (start_at starts k)) in
    ap (λ (file : List ℕ). sets out (7 * k) file) (rows_turn starts demands k h) ∙ sym (sets_then out (7 * k) row rest (7 * (k + 1)) next)

-- seven bytes stored one by one are a row
pub row_stored : (out : List ℕ) (at ident start a b c d : ℕ) → a ≡ ident / 256 → b ≡ ident % 256 → c ≡ start / 256 → d ≡ start % 256 →
    set (set (set (set (set (set (set out at 4) (at + 1) 0) (at + 2) 4) (at + 3) a) (at + 4) b) (at + 5) c) (at + 6) d ≡ sets out at (row_field ident start)
unfolding row_field field two_bytes
row_stored out at ident start a b c d ha hb hc hd =
    let two : at + 2 ≡ suc (suc at) = omega arith in
    let three : at + 3 ≡ suc (suc (suc at)) = omega arith in
    let four : at + 4 ≡ suc (suc (suc (suc at))) = omega arith in
    let five : at + 5 ≡ suc (suc (suc (suc (suc at)))) = omega arith in
    let six : at + 6 ≡ suc (suc (suc (suc (suc (suc at))))) = omega arith in
    rw (add-one at, two, three, four, five, six, ha, hb, hc, hd)

module _ (v : View) (starts out : List ℕ) where
  -- a plan that the check refuses is refused for the same
  pub plan_unwritten : (why : Refusal) → check_starts v starts ≡ Err why → plan_written v starts out ≡ Err why
  unfolding plan_written
  plan_unwritten why h = write_fault (check_starts v starts) (length (encode_plan v starts)) (length out) why h

  -- a buffer too short for the file is refused with 10
  pub plan_short : (why : Refusal) → check_starts v starts ≡ Ok tt → check_room (length (encode_plan v starts)) (length out) ≡ Err why →
      plan_written v starts out ≡ Err why
  unfolding plan_written
  plan_short why h short = write_short (check_starts v starts) (length (encode_plan v starts)) (length out) why h short

  -- else the file is written
  pub plan_wrote : check_starts v starts ≡ Ok tt → length (encode_plan v starts) ≤ length out →
      plan_written v starts out ≡ Ok (length (encode_plan v starts))
  unfolding plan_written
  plan_wrote h room =
      let needed = length (encode_plan v starts) in
      write_fits (check_starts v starts) needed (length out) h (sym (room_enough needed (length out) room))

  -- what an answer of bytes says: the check accepts, they are the file's, and there was room
  pub plan_wrote_says : (bytes : ℕ) → plan_written v starts out ≡ Ok bytes →
      (check_starts v starts ≡ Ok tt) × (bytes ≡ length (encode_plan v starts)) × (length (encode_plan v starts) ≤ length out)
  unfolding plan_written
  plan_wrote_says bytes h = write_says (check_starts v starts) (length (encode_plan v starts)) (length out) bytes h

  -- a refusal leaves the buffer as it was
  pub out_unwritten : (why : Refusal) → plan_written v starts out ≡ Err why → plan_out v starts out ≡ out
  unfolding plan_out filled
  out_unwritten why h = ap (λ (x : Result ℕ Refusal). filled x (encode_plan v starts) out) h

  -- a written file stands at the front of the buffer, and the rest is as it was
  pub out_wrote : (bytes : ℕ) → plan_written v starts out ≡ Ok bytes → plan_out v starts out ≡ encode_plan v starts ++ drop bytes out
  unfolding plan_out filled
  out_wrote bytes h = ap (λ (x : Result ℕ Refusal). filled x (encode_plan v starts) out) h

-- two results that meet the contract of `write_plan` are equal, and leave the same in the buffer
pub same_write : (v : View) (starts out : List ℕ) (a a' : Result ℕ Refusal) (b b' : List ℕ) →
    a ≡ plan_written v starts out → b ≡ plan_out v starts out → a' ≡ plan_written v starts out → b' ≡ plan_out v starts out →
    (a ≡ a') × (b ≡ b')
same_write v starts out a a' b b' h k h' k' = (h ∙ sym h', k ∙ sym k')
