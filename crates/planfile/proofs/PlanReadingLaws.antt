-- Reading a plan step by step: positions of idents, the checks of a row fault by fault, the rows one by one, the whole file.
use Rattle.std.specs.Prelude.{ℕ, suc, ◌+◌, ◌≤◌, ◌<◌, Bool, true, List, [], ◌∷◌, ◌≡◌, length, drop, get_or, leb, eqb, Result, Ok, Err}
use Rattle.std.proofs.Math.Bool.{false, cond}
use Rattle.std.proofs.Math.Path.{ap}
use Rattle.std.proofs.Common.{◌∙◌, drop_of_length-le, drop-cons}
use native.Mathlib.Omega.{arith}
use Rattle.std.proofs.Math.Numerals.{add-one}
use borrow.Author.Tests.{lt-ltb, le-ltb, le-leb, lt-leb, eq-eqb, ne_eqb}
use Rattle.refusal.specs.declared.Refusal.{Refusal}
use Rattle.refusal.specs.declared.Refusal.TheVariants.{UnknownIdent, IdentSeen, NoRow, EndAbove, FileTooLong}
use Rattle.theory.specs.Problem.{Row}
use Rattle.request.specs.View.{View, demand_at, width_of}
use Rattle.request.specs.Check.{then, check, must}
use Rattle.request.proofs.CheckLaws.{then_sound, then_refused}
use Rattle.fields.specs.Field.{field_end, check_field}
use Rattle.meeting.specs.Plan.{starts_of}
use Rattle.planfile.specs.PlanReading.{position_of, given, row_in, check_new_row, check_row, RowsRead, rows_refused, rows_read, next_rows, read_rows, check_given, check_rows, refused, accepted, if_checked, with_rows, with_file, read_plan_file}

module _ (x : ℕ) (l : List ℕ) (k : ℕ) where
  -- the look for a number from a position on
  position_turn : k < length l → position_of x (drop k l) ≡ cond (eqb (get_or l k 0) x) 0 (suc (position_of x (drop (k + 1) l)))
  unfolding position_of
  position_turn h = rw (drop-cons l k 0 h, add-one k)

  -- it stands here
  pub position_here : k < length l → get_or l k 0 ≡ x → k + position_of x (drop k l) ≡ k
  position_here h e =
      let here : position_of x (drop k l) ≡ 0 =
      position_turn h ∙ ap (λ (b : Bool). cond b 0 (suc (position_of x (drop (k + 1) l)))) (eq-eqb (get_or l k 0) x e) in
      omega arith

  -- it does not: the next is looked at
  pub position_on : k < length l → (get_or l k 0 ≡ x → ⊥) → k + position_of x (drop k l) ≡ k + 1 + position_of x (drop (k + 1) l)
  position_on h n =
      let on : position_of x (drop k l) ≡ suc (position_of x (drop (k + 1) l)) =
      position_turn h ∙ ap (λ (b : Bool). cond b 0 (suc (position_of x (drop (k + 1) l)))) (ne_eqb (get_or l k 0) x n) in
      omega arith

  -- it stands nowhere
  pub position_end : length l ≤ k → k + position_of x (drop k l) ≡ k
  unfolding position_of
  position_end h = let none : position_of x (drop k l) ≡ 0 = rw (drop_of_length-le l h) in omega arith

module _ (l : List Bool) (k : ℕ) where
  -- 16 from a position on
  given_turn : k < length l → check_given k (drop k l) ≡ then (must (get_or l k false) (NoRow k)) (check_given (k + 1) (drop (k + 1) l))
  unfolding check_given
  given_turn h = rw (drop-cons l k false h, add-one k)

  -- a position with a row passes
  pub given_passes : k < length l → get_or l k false ≡ true → check_given k (drop k l) ≡ check_given (k + 1) (drop (k + 1) l)
  unfolding must
  given_passes h e =
      given_turn h ∙ then_sound (must (get_or l k false) (NoRow k)) (check_given (k + 1) (drop (k + 1) l))
      (ap (λ (b : Bool). cond b (Ok tt) (Err (NoRow k))) e)

  -- one without is refused
  pub given_refused : k < length l → get_or l k false ≡ false → check_given k (drop k l) ≡ Err (NoRow k)
  unfolding must
  given_refused h e =
      given_turn h ∙ then_refused (must (get_or l k false) (NoRow k)) (check_given (k + 1) (drop (k + 1) l)) (NoRow k)
      (ap (λ (b : Bool). cond b (Ok tt) (Err (NoRow k))) e)

  -- behind the last position all have passed
  pub given_done : length l ≤ k → check_given k (drop k l) ≡ Ok tt
  unfolding check_given
  given_done h = rw (drop_of_length-le l h)

module _ (v : View) (at : ℕ) (rows : List Row) (r : Row) where
  -- 14: a row of no demand
  pub row_unknown : length v.demands ≤ r.who → check_new_row v at rows r ≡ Err (UnknownIdent at)
  unfolding check_new_row then must
  row_unknown h = rw (le-ltb r.who (length v.demands) h)

  -- 15: a second row of a demand
  pub row_seen : r.who < length v.demands → given rows r.who ≡ true → check_new_row v at rows r ≡ Err (IdentSeen at)
  unfolding check_new_row then must
  row_seen h seen = rw (lt-ltb r.who (length v.demands) h, seen)

  -- 17: an end above the slot count
  pub row_above : r.who < length v.demands → given rows r.who ≡ false →
      v.band.slots < r.at + width_of (demand_at v.demands r.who) → check_new_row v at rows r ≡ Err (EndAbove at)
  unfolding check_new_row then must
  row_above h new above =
      rw (lt-ltb r.who (length v.demands) h, new, lt-leb (r.at + width_of (demand_at v.demands r.who)) v.band.slots above)

  -- a row with none of these faults is sound
  pub row_sound : r.who < length v.demands → given rows r.who ≡ false →
      r.at + width_of (demand_at v.demands r.who) ≤ v.band.slots → check_new_row v at rows r ≡ Ok tt
  unfolding check_new_row then must
  row_sound h new within =
      rw (lt-ltb r.who (length v.demands) h, new, le-leb (r.at + width_of (demand_at v.demands r.who)) v.band.slots within)

module _ (v : View) (s : List ℕ) (at : ℕ) (rows : List Row) where
  -- a field that is refused is refused for the same as a row
  pub field_refuses : (why : Refusal) → check_field s at 4 4 4 ≡ Err why → check_row v s at rows ≡ Err why
  unfolding check_row
  field_refuses why h = then_refused (check_field s at 4 4 4) (check_new_row v at rows (row_in v s at)) why h

  -- of a sound field the row decides
  pub row_decides : check_field s at 4 4 4 ≡ Ok tt → check_row v s at rows ≡ check_new_row v at rows (row_in v s at)
  unfolding check_row
  row_decides h = then_sound (check_field s at 4 4 4) (check_new_row v at rows (row_in v s at)) h

  module _ (left : ℕ) where
    -- at the end of the file all rows are read
    pub rows_end : at ≡ length s → read_rows (suc left) v s at rows ≡ rows_read rows
    unfolding read_rows
    rows_end e = rw (eq-eqb at (length s) e)

    -- a row that is refused ends the reading
    pub rows_refuse : (why : Refusal) → (at ≡ length s → ⊥) → check_row v s at rows ≡ Err why → read_rows (suc left) v s at rows ≡ rows_refused why
    unfolding read_rows next_rows
    rows_refuse why more h = rw (ne_eqb at (length s) more, h)

    -- a sound row is followed by the next
    pub rows_more : (at ≡ length s → ⊥) → check_row v s at rows ≡ Ok tt →
        read_rows (suc left) v s at rows ≡ read_rows left v s (field_end s at) (row_in v s at ∷ rows)
    unfolding read_rows next_rows
    rows_more more h = rw (ne_eqb at (length s) more, h)

module _ (v : View) (s : List ℕ) (room : ℕ) where
  -- a refused request is refused for the same
  pub plan_request_refused : (why : Refusal) → check v ≡ Err why → read_plan_file v s room ≡ refused why
  unfolding read_plan_file with_file
  plan_request_refused why h =
      ap (λ (x : Result Unit Refusal). with_file v s room x) (then_refused (check v) (must (leb (length s) 1400) (FileTooLong 1400)) why h)

  -- 20: a file of more than 1400 bytes
  pub plan_too_long : check v ≡ Ok tt → 1400 < length s → read_plan_file v s room ≡ refused (FileTooLong 1400)
  unfolding read_plan_file with_file must
  plan_too_long sound long =
      ap (λ (x : Result Unit Refusal). with_file v s room x)
      (then_sound (check v) (must (leb (length s) 1400) (FileTooLong 1400)) sound
      ∙ ap (λ (b : Bool). cond b (Ok tt) (Err (FileTooLong 1400))) (lt-leb (length s) 1400 long))

  module _ (sound : check v ≡ Ok tt) (short : length s ≤ 1400) where
    -- else the rows are read
    plan_rows : read_plan_file v s room ≡ with_rows v room (read_rows 201 v s 0 [])
    unfolding read_plan_file with_file must
    plan_rows =
        ap (λ (x : Result Unit Refusal). with_file v s room x)
        (then_sound (check v) (must (leb (length s) 1400) (FileTooLong 1400)) sound
        ∙ ap (λ (b : Bool). cond b (Ok tt) (Err (FileTooLong 1400))) (le-leb (length s) 1400 short))

    -- a row that is refused
    pub plan_row_refused : (why : Refusal) → read_rows 201 v s 0 [] ≡ rows_refused why → read_plan_file v s room ≡ refused why
    unfolding with_rows
    plan_row_refused why h = plan_rows ∙ ap (λ (x : RowsRead). with_rows v room x) h

    module _ (rows : List Row) (read : read_rows 201 v s 0 [] ≡ rows_read rows) where
      -- all rows are read: 16, 18 and 10 decide
      pub plan_read : read_plan_file v s room ≡ if_checked (check_rows v room rows) (starts_of v.demand_count rows)
      unfolding with_rows
      plan_read = plan_rows ∙ ap (λ (x : RowsRead). with_rows v room x) read

      -- where they pass, the plan is accepted
      pub plan_accepted : check_rows v room rows ≡ Ok tt → read_plan_file v s room ≡ accepted (starts_of v.demand_count rows)
      unfolding if_checked
      plan_accepted passed = plan_read ∙ ap (λ (x : Result Unit Refusal). if_checked x (starts_of v.demand_count rows)) passed
