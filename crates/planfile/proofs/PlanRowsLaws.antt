-- What the rows of an accepted file say: each demand has one, and each ends within the band.
use Rattle.std.specs.Prelude.{ℕ, zero, suc, ◌+◌, ◌≤◌, ◌<◌, Bool, true, false, cond, not, ◌≡◌, refl, length, take, get_or, leb, ltb, eqb, map, Option, None, is_some, unwrap_or, Result, Ok, Err}
use mathlib.Core.List.{List, [], ◌∷◌}
use Rattle.std.proofs.Math.Path.{sym, ap}
use Rattle.std.proofs.Common.{subst, ap₂, ◌∙◌, arith, ltb-true, leb-true, eqb-true}
use Rattle.std.proofs.lemmas.Bool.{not-true}
use Rattle.refusal.specs.declared.Refusal.{Refusal}
use Rattle.refusal.specs.declared.Refusal.TheVariants.{UnknownIdent, IdentSeen, NoRow, EndAbove}
use Rattle.theory.specs.Problem.{Row, start_in}
use Rattle.request.specs.View.{View, demand_at, width_of}
use Rattle.request.specs.Check.{then, check, must}
use Rattle.request.proofs.CheckLaws.{then_sound, then_refused, first_sound, next_sound, by_check, test_held}
use Rattle.theory.proofs.TestLaws.{by_test}
use Rattle.fields.specs.Field.{field_end, check_field}
use Rattle.request.specs.Sharing.{problem_of}
use Rattle.meeting.specs.Plan.{start_at, end_of_plan, starts_of}
use Rattle.meeting.specs.MeetingLaws.{listing_at, start_listed, starts_long}
use Rattle.plan.specs.CheckStarts.{check_ends, check_clashes, check_starts, reply_with, starts_reply}
use Rattle.plan.specs.CheckStartsLaws.{within_ends, places_decide, clashes_decide}
use Rattle.plan.specs.AcceptableLaws.{reply_passed, starts_passed, starts_refused}
use Rattle.lent.specs.Lent.{over, check_room}
use Rattle.lent.specs.LentLaws.{room_held, all_over}
use Rattle.planfile.proofs.PlanReadingLaws.{plan_read, plan_accepted}
use Rattle.planfile.specs.PlanReading.{given, row_in, check_new_row, check_row, RowsRead, rows_refused, rows_read, next_rows, read_rows, given_to, check_given, check_rows, if_checked, PlanReading, refused, accepted, read_plan_file, plan_reply, plan_starts}
use Rattle.planfile.specs.inner.PlanPacking.{row_start, row_starts, pack_rows, starts_if, all_given, AllRead, rows_reply}
use Rattle.request.specs.Packing.{padded}
use Rattle.request.proofs.PackingLaws.{take_padded, length_padded}
use Rattle.planfile.specs.inner.RowsInFile.{NewRowHolds, RowsWithin}
use Rattle.planfile.proofs.PlanPackingLaws.{made_length, made_front, marks_given, starts_read}

-- what a row that passes its checks says
pub new_row_holds : (v : View) (at : ℕ) (rows : List Row) (r : Row) → check_new_row v at rows r ≡ Ok tt → NewRowHolds v rows r
unfolding check_new_row
new_row_holds v at rows r h =
    let known = must (ltb r.who (length v.demands)) (UnknownIdent at) in
    let new = must (not (given rows r.who)) (IdentSeen at) in
    let ends = must (leb (r.at + width_of (demand_at v.demands r.who)) v.band.slots) (EndAbove at) in
    let later = next_sound known (then new ends) h in
    record {
      listed = ltb-true r.who (length v.demands) (test_held _ (UnknownIdent at) (first_sound known (then new ends) h));
      first = not-true (given rows r.who) (test_held _ (IdentSeen at) (first_sound new ends later));
      within = leb-true (r.at + width_of (demand_at v.demands r.who)) v.band.slots (test_held _ (EndAbove at) (next_sound new ends later));
    }

-- a sound field holds a sound row
pub row_holds : (v : View) (s : List ℕ) (at : ℕ) (rows : List Row) → check_row v s at rows ≡ Ok tt → NewRowHolds v rows (row_in v s at)
unfolding check_row
row_holds v s at rows h = new_row_holds v at rows (row_in v s at) (next_sound (check_field s at 4 4 4) (check_new_row v at rows (row_in v s at)) h)

-- one row more
within_more : (v : View) (rows : List Row) (r : Row) → r.at + width_of (demand_at v.demands r.who) ≤ v.band.slots → RowsWithin v rows → RowsWithin v (r ∷ rows)
unfolding given start_in
within_more v rows r here before k h =
    by_test (eqb r.who k)
    (λ t.
    subst (λ (n : ℕ). n + width_of (demand_at v.demands k) ≤ v.band.slots) (sym (ap (λ (b : Bool). cond b r.at (start_in rows k)) t))
    (subst (λ (n : ℕ). r.at + width_of (demand_at v.demands n) ≤ v.band.slots) (eqb-true r.who k t) here))
    (λ f.
    let later : given rows k ≡ true = rw f at h in
    subst (λ (n : ℕ). n + width_of (demand_at v.demands k) ≤ v.band.slots) (sym (ap (λ (b : Bool). cond b r.at (start_in rows k)) f)) (before k later))

-- a reading that goes on after a check has passed it
pub next_passed : (x : Result Unit Refusal) (rest : RowsRead) (out : List Row) → next_rows x rest ≡ rows_read out → (x ≡ Ok tt) × (rest ≡ rows_read out)
unfolding next_rows
next_passed (Ok _) rest out h = (refl, h)
next_passed (Err why) rest out h = absurd (let z : ◌≡◌ {A = ℕ} 0 1 = cc in omega arith)

-- the rows of a file end within the band
pub read_within : (left : ℕ) (v : View) (s : List ℕ) (at : ℕ) (rows out : List Row) → read_rows left v s at rows ≡ rows_read out → RowsWithin v rows → RowsWithin v out
unfolding read_rows
read_within zero v s at rows out h before = absurd (let z : ◌≡◌ {A = ℕ} 0 1 = cc in omega arith)
read_within (suc left) v s at rows out h before =
    let rest = read_rows left v s (field_end s at) (row_in v s at ∷ rows) in
    by_test (eqb at (length s))
    (λ t.
    let same : rows ≡ out = all_read rows out (sym (ap (λ (b : Bool). cond b (rows_read rows) (next_rows (check_row v s at rows) rest)) t) ∙ h) in
    subst (λ (l : List Row). RowsWithin v l) same before)
    (λ f.
    let passed = next_passed (check_row v s at rows) rest out (sym (ap (λ (b : Bool). cond b (rows_read rows) (next_rows (check_row v s at rows) rest)) f) ∙ h) in
    read_within left v s (field_end s at) (row_in v s at ∷ rows) out passed.1
    (within_more v rows (row_in v s at) (row_holds v s at rows passed.0).within before))
  where
    all_read : (a b : List Row) → rows_read a ≡ rows_read b → a ≡ b
    all_read a b e = cc

-- where none is missing, each position has a row
pub given_each : (k : ℕ) (l : List Bool) → check_given k l ≡ Ok tt → (p : ℕ) → p < length l → get_or l p false ≡ true
unfolding check_given
given_each k [] h p b = absurd (omega arith)
given_each k (here ∷ later) h zero b = test_held here (NoRow k) (first_sound (must here (NoRow k)) (check_given (k + 1) later) h)
given_each k (here ∷ later) h (suc p) b = given_each (k + 1) later (next_sound (must here (NoRow k)) (check_given (k + 1) later) h) p (omega arith)

-- so each demand has a row
pub given_all : (K : ℕ) (rows : List Row) → check_given 0 (given_to K rows) ≡ Ok tt → (p : ℕ) → p < K → given rows p ≡ true
unfolding given_to
given_all K rows whole p h =
    sym (listing_at (given rows) K p false h) ∙ given_each 0 (given_to K rows) whole p (omega (arith, made_length (given rows) K))

-- where each position has a row, none is missing
pub each_given : (k : ℕ) (l : List Bool) → ((p : ℕ) → p < length l → get_or l p false ≡ true) → check_given k l ≡ Ok tt
unfolding check_given must
each_given k [] h = refl
each_given k (here ∷ later) h =
    then_sound (must here (NoRow k)) (check_given (k + 1) later) (ap (λ (b : Bool). cond b (Ok tt) (Err (NoRow k))) (h 0 (omega arith)))
    ∙ each_given (k + 1) later (λ p b. h (suc p) (omega arith))

-- and the starts that the rows of a file give pass 17
pub rows_ends : (v : View) (s : List ℕ) (rows : List Row) → length v.demands ≡ v.demand_count → read_rows 201 v s 0 [] ≡ rows_read rows →
    check_given 0 (given_to v.demand_count rows) ≡ Ok tt → check_ends v.band.slots (starts_of v.demand_count rows) 0 v.demands ≡ Ok tt
unfolding given
rows_ends v s rows counted read whole =
    let K = v.demand_count in
    within_ends v.band.slots (starts_of K rows) 0 v.demands
    (λ p h.
    let has : given rows p ≡ true = given_all K rows whole p (omega arith) in
    let start : start_at (starts_of K rows) (0 + p) ≡ start_in rows p = ap (start_at (starts_of K rows)) (omega arith) ∙ start_listed K rows p (omega arith) in
    subst (λ (n : ℕ). n + width_of (demand_at v.demands p) ≤ v.band.slots) (sym start)
    (read_within 201 v s 0 [] rows read (λ k none. absurd (let z : ◌≡◌ {A = ℕ} 0 1 = cc in omega arith)) p has))

-- so of their check only 18 is left
rows_checked : (v : View) (s : List ℕ) (rows : List Row) → check v ≡ Ok tt → length v.demands ≡ v.demand_count → read_rows 201 v s 0 [] ≡ rows_read rows →
    check_given 0 (given_to v.demand_count rows) ≡ Ok tt →
    check_starts v (starts_of v.demand_count rows) ≡ check_clashes (problem_of v) (starts_of v.demand_count rows) [] 0 v.demands
rows_checked v s rows sound counted read whole =
    let starts = starts_of v.demand_count rows in
    places_decide v starts sound (omega (arith, starts_long v.demand_count rows)) ∙ clashes_decide v starts (rows_ends v s rows counted read whole)

-- 16, the check of starts and 10 are 16, 18 and 10
last_checks : (v : View) (s : List ℕ) (rows : List Row) (room : ℕ) → check v ≡ Ok tt → length v.demands ≡ v.demand_count → read_rows 201 v s 0 [] ≡ rows_read rows →
    then (check_given 0 (given_to v.demand_count rows)) (then (check_starts v (starts_of v.demand_count rows)) (check_room v.demand_count room)) ≡ check_rows v room rows
unfolding check_rows
last_checks v s rows room sound counted read =
    let has = check_given 0 (given_to v.demand_count rows) in
    let starts = starts_of v.demand_count rows in
    let clear = check_clashes (problem_of v) starts [] 0 v.demands in
    let last = check_room v.demand_count room in
    by_check has
    (λ (none : has ≡ Ok tt). ap (λ (x : Result Unit Refusal). then has (then x last)) (rows_checked v s rows sound counted read none))
    (λ (why : Refusal) (missing : has ≡ Err why).
    then_refused has (then (check_starts v starts) last) why missing ∙ sym (then_refused has (then clear last) why missing))

-- an array that was refused
pub packed_refused : (x : RowsRead) (why : Refusal) → pack_rows x ≡ Err why → x ≡ rows_refused why
unfolding pack_rows
packed_refused (rows_refused own) why e = cc
packed_refused (rows_read rows) why e = absurd (let z : ◌≡◌ {A = ℕ} 0 1 = cc in omega arith)

-- an array that was not is whole
pub packed_whole : (x : RowsRead) (array : List (Option ℕ)) → pack_rows x ≡ Ok array → length array ≡ 200
unfolding pack_rows row_starts
packed_whole (rows_refused why) array e = absurd (let z : ◌≡◌ {A = ℕ} 0 1 = cc in omega arith)
packed_whole (rows_read rows) array e = let same : array ≡ row_starts 200 rows = cc in ap length same ∙ made_length (row_start rows) 200

-- an array that holds the rows of a whole file
pub packed_read : (x : RowsRead) (array : List (Option ℕ)) (K : ℕ) → Ok array ≡ pack_rows x → K ≤ 200 →
    (rows : List Row) × (x ≡ rows_read rows) × (length array ≡ 200) × (map is_some (take K array) ≡ given_to K rows) ×
    (map (λ (row : Option ℕ). unwrap_or row 0) (take K array) ≡ starts_of K rows)
unfolding pack_rows row_starts
packed_read (rows_refused why) array K e few = absurd (let z : ◌≡◌ {A = ℕ} 0 1 = cc in omega arith)
packed_read (rows_read rows) array K e few =
    let same : array ≡ row_starts 200 rows = cc in
    let front : take K array ≡ row_starts K rows = ap (take K) same ∙ made_front (row_start rows) None K 200 few in (
      rows,
      refl,
      ap length same ∙ made_length (row_start rows) 200,
      ap (map is_some) front ∙ marks_given K rows,
      ap (map (λ (row : Option ℕ). unwrap_or row 0)) front ∙ starts_read K rows,
    )

-- what the front of an array of the rows of a whole file gives
front_given : (v : View) (s : List ℕ) (K : ℕ) (x : RowsRead) (array : List (Option ℕ)) → pack_rows x ≡ Ok array → K ≤ 200 →
    (rows : List Row) × (x ≡ rows_read rows) × (all_given (take K array) ≡ starts_if (check_given 0 (given_to K rows)) (starts_of K rows))
unfolding pack_rows row_starts all_given
front_given v s K (rows_refused why) array e few = absurd (let z : ◌≡◌ {A = ℕ} 0 1 = cc in omega arith)
front_given v s K (rows_read rows) array e few =
    let same : array ≡ row_starts 200 rows = cc in
    let front : take K array ≡ row_starts K rows = ap (take K) same ∙ made_front (row_start rows) None K 200 few in (
      rows,
      refl,
      ap all_given front ∙ ap₂ (λ (has : List Bool) (starts : List ℕ). starts_if (check_given 0 has) starts) (marks_given K rows) (starts_read K rows),
    )

-- what a test of the starts passed
starts_tested : (x : Result Unit Refusal) (starts array : List ℕ) → starts_if x starts ≡ Ok array → (x ≡ Ok tt) × (array ≡ padded 200 0 starts)
unfolding starts_if
starts_tested (Ok _) starts array e = (refl, cc)
starts_tested (Err why) starts array e = absurd (let z : ◌≡◌ {A = ℕ} 0 1 = cc in omega arith)

starts_missing : (x : Result Unit Refusal) (starts : List ℕ) (why : Refusal) → starts_if x starts ≡ Err why → x ≡ Err why
unfolding starts_if
starts_missing (Ok _) starts why e = absurd (let z : ◌≡◌ {A = ℕ} 0 1 = cc in omega arith)
starts_missing (Err own) starts why e = cc

-- the starts of a whole file
pub all_read : (v : View) (s : List ℕ) (array : List (Option ℕ)) (starts : List ℕ) → pack_rows (read_rows 201 v s 0 []) ≡ Ok array →
    all_given (take v.demand_count array) ≡ Ok starts → v.demand_count ≤ 200 → AllRead v s starts
all_read v s array starts read all few =
    let front = front_given v s v.demand_count (read_rows 201 v s 0 []) array read few in
    let tested = starts_tested _ _ starts (sym front.2 ∙ all) in
    record {
      rows = front.0;
      whole_file = front.1;
      none_missing = tested.0;
      whole = ap length tested.1 ∙ length_padded 200 0 (starts_of v.demand_count front.0) (omega (arith, starts_long v.demand_count front.0));
      front =
          ap (take v.demand_count) tested.1
          ∙ ap (λ (n : ℕ). take n (padded 200 0 (starts_of v.demand_count front.0))) (sym (starts_long v.demand_count front.0))
          ∙ take_padded 200 0 (starts_of v.demand_count front.0);
    }

-- a refusal answers why, and leaves the buffer as it was
pub refused_result : (v : View) (x : PlanReading) (out : List ℕ) (why : Refusal) → x ≡ refused why →
    (Err why ≡ plan_reply v x) × (out ≡ plan_starts x out)
unfolding plan_reply plan_starts
refused_result v x out why e = (sym (ap (plan_reply v) e), sym (ap (λ (y : PlanReading). plan_starts y out) e))

-- an accepted plan answers its end, and stands at the front of the buffer
pub accepted_result : (v : View) (x : PlanReading) (out starts : List ℕ) → x ≡ accepted starts →
    (Ok (end_of_plan v starts) ≡ plan_reply v x) × (over starts out ≡ plan_starts x out)
unfolding plan_reply plan_starts
accepted_result v x out starts e = (sym (ap (plan_reply v) e), sym (ap (λ (y : PlanReading). plan_starts y out) e))

-- two results that meet the contract of `read_plan` are equal, and leave the same in the buffer
pub same_read : (v : View) (s out : List ℕ) (a a' : Result ℕ Refusal) (b b' : List ℕ) →
    a ≡ plan_reply v (read_plan_file v s (length out)) → b ≡ plan_starts (read_plan_file v s (length out)) out →
    a' ≡ plan_reply v (read_plan_file v s (length out)) → b' ≡ plan_starts (read_plan_file v s (length out)) out →
    (a ≡ a') × (b ≡ b')
same_read v s out a a' b b' h k h' k' = (h ∙ sym h', k ∙ sym k')

-- a plan file that is refused leaves the buffer as it was
pub read_refused_keeps : (v : View) (x : PlanReading) (out : List ℕ) (why : Refusal) → plan_reply v x ≡ Err why → plan_starts x out ≡ out
unfolding plan_reply plan_starts
read_refused_keeps v (refused why') out why e = refl
read_refused_keeps v (accepted starts) out why e = absurd (let z : ◌≡◌ {A = ℕ} 0 1 = cc in omega arith)

module _ (v : View) (has : List Bool) (starts : List ℕ) (room : ℕ) where
  -- 16
  pub rows_missing : (why : Refusal) → check_given 0 has ≡ Err why → Err why ≡ rows_reply v has starts room
  unfolding rows_reply reply_with
  rows_missing why h =
      sym (ap (λ (x : Result Unit Refusal). reply_with x (end_of_plan v starts)) (then_refused (check_given 0 has) (then (check_starts v starts) (check_room v.demand_count room)) why h))

  module _ (none : check_given 0 has ≡ Ok tt) where
    -- none is missing: the check of starts and 10 decide
    rows_there : rows_reply v has starts room ≡ reply_with (then (check_starts v starts) (check_room v.demand_count room)) (end_of_plan v starts)
    unfolding rows_reply
    rows_there =
        ap (λ (x : Result Unit Refusal). reply_with x (end_of_plan v starts)) (then_sound (check_given 0 has) (then (check_starts v starts) (check_room v.demand_count room)) none)

    -- the check of starts
    pub rows_unsound : (why : Refusal) → starts_reply v starts ≡ Err why → Err why ≡ rows_reply v has starts room
    unfolding reply_with
    rows_unsound why h =
        sym (rows_there ∙ ap (λ (x : Result Unit Refusal). reply_with x (end_of_plan v starts))
        (then_refused (check_starts v starts) (check_room v.demand_count room) why (starts_refused v starts why h)))

    module _ (end : ℕ) (passed : starts_reply v starts ≡ Ok end) where
      -- the starts pass: 10 decides
      rows_sound : rows_reply v has starts room ≡ reply_with (check_room v.demand_count room) (end_of_plan v starts)
      rows_sound =
          rows_there ∙ ap (λ (x : Result Unit Refusal). reply_with x (end_of_plan v starts))
          (then_sound (check_starts v starts) (check_room v.demand_count room) (starts_passed v starts end passed))

      -- 10
      pub rows_no_room : (why : Refusal) → check_room v.demand_count room ≡ Err why → Err why ≡ rows_reply v has starts room
      unfolding reply_with
      rows_no_room why h = sym (rows_sound ∙ ap (λ (x : Result Unit Refusal). reply_with x (end_of_plan v starts)) h)

      -- the end
      pub rows_answered : check_room v.demand_count room ≡ Ok tt → starts_reply v starts ≡ rows_reply v has starts room
      unfolding starts_reply
      rows_answered h =
          ap (λ (x : Result Unit Refusal). reply_with x (end_of_plan v starts)) (starts_passed v starts end passed ∙ sym h) ∙ sym rows_sound

-- a reading answers what its last checks do
reading_answers : (v : View) (x : Result Unit Refusal) (starts : List ℕ) → plan_reply v (if_checked x starts) ≡ reply_with x (end_of_plan v starts)
unfolding plan_reply if_checked reply_with
reading_answers v (Ok _) starts = refl
reading_answers v (Err why) starts = refl

module _ (v : View) (s out : List ℕ) (rows : List Row) (sound : check v ≡ Ok tt) (counted : length v.demands ≡ v.demand_count)
    (short : length s ≤ 1400) (read : read_rows 201 v s 0 [] ≡ rows_read rows) where
  -- the arrays of all rows that were read answer what the reading does
  pub rows_reply_lem : rows_reply v (given_to v.demand_count rows) (starts_of v.demand_count rows) (length out) ≡ plan_reply v (read_plan_file v s (length out))
  unfolding rows_reply
  rows_reply_lem =
      let starts = starts_of v.demand_count rows in
      ap (λ (x : Result Unit Refusal). reply_with x (end_of_plan v starts)) (last_checks v s rows (length out) sound counted read)
      ∙ (sym (reading_answers v (check_rows v (length out) rows) starts)
      ∙ sym (ap (plan_reply v) (plan_read v s (length out) sound short rows read)))

  -- where it accepts, their starts stand at the front of the buffer
  pub rows_kept : (end : ℕ) → plan_reply v (read_plan_file v s (length out)) ≡ Ok end →
      over (take (length out) (starts_of v.demand_count rows)) out ≡ plan_starts (read_plan_file v s (length out)) out
  unfolding plan_starts check_rows
  rows_kept end h =
      let starts = starts_of v.demand_count rows in
      let has = check_given 0 (given_to v.demand_count rows) in
      let clear = check_clashes (problem_of v) starts [] 0 v.demands in
      let last = check_room v.demand_count (length out) in
      let answer = sym (reading_answers v (check_rows v (length out) rows) starts) ∙ (sym (ap (plan_reply v) (plan_read v s (length out) sound short rows read)) ∙ h) in
      let passed = (reply_passed (check_rows v (length out) rows) (end_of_plan v starts) end answer).0 in
      let enough = room_held v.demand_count (length out) (next_sound clear last (next_sound has (then clear last) passed)) in
      all_over starts out (omega (arith, enough, starts_long v.demand_count rows))
      ∙ sym (ap (λ (x : PlanReading). plan_starts x out) (plan_accepted v s (length out) sound short rows read passed))

module _ (v : View) (s out : List ℕ) (sound : check v ≡ Ok tt) (counted : length v.demands ≡ v.demand_count) (few : v.demand_count ≤ 200) (short : length s ≤ 1400) where
  -- 16: a demand without a row
  pub missing_answer : (array : List (Option ℕ)) (why : Refusal) → pack_rows (read_rows 201 v s 0 []) ≡ Ok array → all_given (take v.demand_count array) ≡ Err why →
      Err why ≡ plan_reply v (read_plan_file v s (length out))
  missing_answer array why read missing =
      let front = front_given v s v.demand_count (read_rows 201 v s 0 []) array read few in
      let fault = starts_missing (check_given 0 (given_to v.demand_count front.0)) (starts_of v.demand_count front.0) why (sym front.2 ∙ missing) in
      rows_missing v (given_to v.demand_count front.0) (starts_of v.demand_count front.0) (length out) why fault
      ∙ rows_reply_lem v s out front.0 sound counted short front.1
