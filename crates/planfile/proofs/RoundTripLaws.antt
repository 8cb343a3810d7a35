-- Plans and files: reading accepts exactly the rows of accepted starts, in any order, and what goes there and back is the same.
use Rattle.std.specs.Prelude.{ℕ, ◌≤◌, ◌<◌, ◌≡◌, leb, Result, Ok, Err}
use mathlib.Core.Bool.{Bool, true, false}
use mathlib.Core.List.{List, [], ◌++◌}
use Rattle.std.proofs.Common.{⊎_elim, subst, ◌∙◌, arith, get_or-take, take_at, take_all}
use Rattle.std.proofs.Math.Path.{refl, sym, ap}
use Rattle.std.proofs.Math.ListN.{length, drop, length-append, take}
use Rattle.std.proofs.Math.Seq.{ext_get_or, length-take-le}
use Rattle.refusal.specs.declared.Refusal.{Refusal}
use Rattle.refusal.specs.declared.Refusal.TheVariants.{FileTooLong}
use Rattle.theory.specs.Arrange.{Arrange}
use Rattle.theory.proofs.ArrangeLaws.{arrange_mem, arrange_back, arrange_length, arrange_no_repeats}
use Rattle.theory.proofs.ListingLaws.{listing_below, listing_mem, listing_length, listing_no_repeats}
use Rattle.theory.specs.Orders.{listing}
use Rattle.theory.specs.Problem.{Row, start_in}
use Rattle.request.specs.Check.{then, check, must}
use Rattle.request.proofs.CheckLaws.{first_sound, next_sound, by_check}
use Rattle.request.specs.inner.Limits.{Limits}
use Rattle.request.proofs.LimitsLaws.{sound_limits}
use Rattle.request.specs.RoundTrip.{Bytes, Idents16}
use Rattle.request.specs.Sound.{SoundRequest}
use Rattle.request.proofs.SoundLaws.{check_sound, whole_counted}
use Rattle.request.specs.View.{View, view}
use Rattle.request.specs.Whole.{Whole, Counted}
use Rattle.request.specs.declared.Request.{Request}
use Rattle.meeting.specs.MeetingLaws.{listing_at, start_listed, starts_long}
use Rattle.lent.specs.Lent.{check_room, over}
use Rattle.lent.specs.LentLaws.{room_enough, room_held}
use Rattle.request.specs.Sharing.{problem_of}
use Rattle.meeting.specs.Plan.{start_at, end_of_plan, starts_of}
use Rattle.planfile.proofs.AlikeLaws.{checked_alike, end_alike, rows_alike, front_alike, longer_alike}
use Rattle.plan.specs.CheckStarts.{check_ends, check_clashes, check_places, check_starts, reply_with, starts_reply}
use Rattle.plan.specs.CheckStartsLaws.{both_sound, each_within, places_decide, clashes_decide, each_passed}
use Rattle.planfile.proofs.InOrderLaws.{in_order_length, in_listing_order, order_is_listing}
use Rattle.planfile.specs.PlanFile.{encode_plan, plan_written, plan_out}
use Rattle.planfile.proofs.PlanFileLaws.{plan_wrote, plan_wrote_says, out_wrote}
use Rattle.planfile.proofs.PlanPackingLaws.{made_length}
use Rattle.planfile.specs.PlanReading.{given, rows_read, read_rows, RowsRead, rows_refused, given_to, check_given, check_rows, refused, accepted, if_checked, with_rows, with_file, read_plan_file, plan_reply, plan_starts}
use Rattle.planfile.proofs.PlanReadingLaws.{plan_accepted}
use Rattle.planfile.proofs.PlanRowsLaws.{given_all, each_given, rows_ends, accepted_result}
use Rattle.planfile.specs.RoundTrip.{rows_in_order, InListingOrder, PlanAccepted}
use Rattle.planfile.proofs.RowsBackLaws.{rows_back}
use Rattle.planfile.proofs.RowsEncodedLaws.{arrange_same, rows_encoded}

-- accepted starts pass 18
clashes_pass : (v : View) (starts : List ℕ) → check_starts v starts ≡ Ok tt → check_clashes (problem_of v) starts [] 0 v.demands ≡ Ok tt
unfolding check_places
clashes_pass v starts h =
    next_sound (check_ends v.band.slots starts 0 v.demands) (check_clashes (problem_of v) starts [] 0 v.demands) (each_passed v starts h).3

module _ (v : View) (sized : Counted v) (named : Idents16 v) (starts : List ℕ) (checked : check_starts v starts ≡ Ok tt) where
  -- the request is sound, and its numbers are within their limits
  sound_is : SoundRequest v
  sound_is = check_sound v sized (each_passed v starts checked).0

  limits_are : Limits v
  limits_are = sound_limits v sized sound_is

  -- the rows of accepted starts are read as those starts, in whatever order the rows come
  pub any_order_read : (order : List ℕ) (room : ℕ) → Arrange order (listing v.demand_count) → v.demand_count ≤ room →
      read_plan_file v (rows_in_order v starts order) room ≡ accepted (take v.demand_count starts)
  unfolding starts_of given_to start_at given check_rows
  any_order_read order room arranged enough =
      let K = v.demand_count in
      let s = rows_in_order v starts order in
      let each = each_passed v starts checked in
      let there = limits_are.demands_there in
      let few = limits_are.most_demands in
      let size = in_order_length v starts order in
      let many : length order ≡ K = arrange_length order (listing K) arranged ∙ listing_length K in
      let back = rows_back v sound_is there named (omega (arith, limits_are.most_slots)) starts
      (λ k h. each_within v.band.slots starts v.demands each.2 k (omega arith))
      order 201 s 0 [] (omega arith) (omega arith) refl (arrange_no_repeats order (listing K) arranged (listing_no_repeats K))
      (λ k m. listing_below K k (arrange_mem order (listing K) arranged k m)) (λ k m. refl) in
      let rows = back.out in
      let has : (k : ℕ) → k < K → given rows k ≡ true = λ k h. back.has_order k (arrange_back order (listing K) arranged k (listing_mem K k h)) in
      let front : length (take K starts) ≡ K = length-take-le K starts each.1 in
      let same : starts_of K rows ≡ take K starts =
      ext_get_or 0 (starts_of K rows) (take K starts) (made_length (start_in rows) K ∙ sym front)
      (λ i l.
      let low : i < K = omega (arith, made_length (start_in rows) K) in
      listing_at (start_in rows) K i 0 low
      ∙ (back.starts_kept (λ k none. absurd (mathlib.Core.Bool.false≢true none)) i (has i low) ∙ sym (get_or-take K starts i 0 low))) in
      let none-missing : check_given 0 (given_to K rows) ≡ Ok tt =
      each_given 0 (given_to K rows)
      (λ p l. let low : p < K = omega (arith, made_length (given rows) K) in listing_at (given rows) K p false low ∙ has p low) in
      let clear : check_clashes (problem_of v) (starts_of K rows) [] 0 v.demands ≡ Ok tt =
      ap (λ (l : List ℕ). check_clashes (problem_of v) l [] 0 v.demands) same
      ∙ clashes_pass v (take K starts) (checked_alike v there starts (take K starts) (front_alike v starts) (omega arith) checked) in
      plan_accepted v s room each.0 (omega arith) rows back.read
      (both_sound _ _ none-missing (both_sound _ _ clear (sym (room_enough K room enough)))) ∙ ap accepted same

-- an acceptance after a check comes from one that passes
passed_with : (x : Result Unit Refusal) (own starts : List ℕ) → if_checked x own ≡ accepted starts → (x ≡ Ok tt) × (own ≡ starts)
unfolding if_checked
passed_with (Ok _) own starts e = (refl, cc)
passed_with (Err why) own starts e = absurd (let z : ◌≡◌ {A = ℕ} 0 1 = cc in omega arith)

-- where the rows' reading makes a plan, they were read, and 16, 18 and 10 have passed
rows_were_read : (v : View) (room : ℕ) (x : RowsRead) (starts : List ℕ) → with_rows v room x ≡ accepted starts →
    (rows : List Row) × (x ≡ rows_read rows) × (check_rows v room rows ≡ Ok tt) × (starts_of v.demand_count rows ≡ starts)
unfolding with_rows
rows_were_read v room (rows_refused why) starts e = absurd (let z : ◌≡◌ {A = ℕ} 0 1 = cc in omega arith)
rows_were_read v room (rows_read rows) starts e =
    let passed = passed_with (check_rows v room rows) (starts_of v.demand_count rows) starts e in
    (rows, refl, passed.0, passed.1)

-- rows that were read and have passed are the rows of accepted starts
rows_accepted : (v : View) → Counted v → (s : List ℕ) → Bytes s → (room : ℕ) (rows : List Row) → check v ≡ Ok tt →
    read_rows 201 v s 0 [] ≡ rows_read rows → check_rows v room rows ≡ Ok tt → PlanAccepted v s room (starts_of v.demand_count rows)
unfolding check_rows given
rows_accepted v sized s bytes room rows sound read passed =
    let K = v.demand_count in
    let starts = starts_of K rows in
    let there = (sound_limits v sized (check_sound v sized sound)).demands_there in
    let all : length starts ≡ K = starts_long K rows in
    let clear = check_clashes (problem_of v) starts [] 0 v.demands in
    let last = check_room K room in
    let none-missing : check_given 0 (given_to K rows) ≡ Ok tt = first_sound (check_given 0 (given_to K rows)) (then clear last) passed in
    let later : then clear last ≡ Ok tt = next_sound (check_given 0 (given_to K rows)) (then clear last) passed in
    let ends = rows_ends v s rows there read none-missing in
    let encoded = rows_encoded v there s bytes rows starts (λ k h. start_listed K rows k h) 201 0 [] (omega arith) read in
    record {
      order = encoded.order;
      each_once =
          arrange_same encoded.order (listing K) encoded.once (listing_no_repeats K)
          (λ j m. listing_mem K j (encoded.listed j m))
          (λ j m.
          ⊎_elim
          (λ none. absurd (mathlib.Core.Bool.false≢true none))
          (λ stands. stands)
          (encoded.has j (given_all K rows none-missing j (listing_below K j m))));
      rows = encoded.encoded;
      checked =
          places_decide v starts sound (omega arith)
          ∙ (clashes_decide v starts ends ∙ first_sound clear last later);
      all_starts = all;
      room_enough = room_held K room (next_sound clear last later);
    }

-- reading accepts nothing but the rows of accepted starts
pub accepted_rows : (v : View) → Counted v → (s : List ℕ) → Bytes s → (room : ℕ) (starts : List ℕ) →
    read_plan_file v s room ≡ accepted starts → PlanAccepted v s room starts
unfolding read_plan_file with_file
accepted_rows v sized s bytes room starts e =
    let limit = must (leb (length s) 1400) (FileTooLong 1400) in
    by_check (then (check v) limit)
    (λ (sound : then (check v) limit ≡ Ok tt).
    let read : with_rows v room (read_rows 201 v s 0 []) ≡ accepted starts = rw sound at e in
    let (rows, were-read, passed, same) = rows_were_read v room (read_rows 201 v s 0 []) starts read in
    subst (PlanAccepted v s room) same (rows_accepted v sized s bytes room rows (first_sound (check v) limit sound) were-read passed))
    (λ (why : Refusal) (fault : then (check v) limit ≡ Err why).
    let no : refused why ≡ accepted starts = rw fault at e in
    absurd (let z : ◌≡◌ {A = ℕ} 0 1 = cc in omega arith))

-- so reading accepts a file with these starts exactly where the file is their rows, in some order, and the check accepts them
pub reads_exactly : (v : View) → Counted v → Idents16 v → (s : List ℕ) → Bytes s → (room : ℕ) (starts : List ℕ) →
    (read_plan_file v s room ≡ accepted starts → PlanAccepted v s room starts) × (PlanAccepted v s room starts → read_plan_file v s room ≡ accepted starts)
reads_exactly v sized named s bytes room starts = (
  accepted_rows v sized s bytes room starts,
  λ (p : PlanAccepted v s room starts).
      ap (λ (file : List ℕ). read_plan_file v file room) p.rows
      ∙ (any_order_read v sized named starts p.checked p.order room p.each_once p.room_enough
      ∙ ap accepted (take_all v.demand_count starts (omega (arith, p.all_starts)))),
)

-- a file is accepted with starts that the check accepts, and with the same end
pub file_answered : (v : View) → Counted v → (s : List ℕ) → Bytes s → (room : ℕ) (starts : List ℕ) →
    read_plan_file v s room ≡ accepted starts → plan_reply v (read_plan_file v s room) ≡ starts_reply v starts
unfolding starts_reply reply_with plan_reply
file_answered v sized s bytes room starts e =
    ap (plan_reply v) e ∙ sym (ap (λ (x : Result Unit Refusal). reply_with x (end_of_plan v starts)) (accepted_rows v sized s bytes room starts e).checked)

-- the sequence of the rows does not matter: in any other they are read as the same starts
pub any_sequence : (v : View) → Counted v → Idents16 v → (s : List ℕ) → Bytes s → (room : ℕ) (starts order : List ℕ) →
    read_plan_file v s room ≡ accepted starts → Arrange order (listing v.demand_count) →
    read_plan_file v (rows_in_order v starts order) room ≡ accepted starts
any_sequence v sized named s bytes room starts order e arranged =
    let p = accepted_rows v sized s bytes room starts e in
    any_order_read v sized named starts p.checked order room arranged p.room_enough
    ∙ ap accepted (take_all v.demand_count starts (omega (arith, p.all_starts)))

-- the listing order is an order
listing_arranged : (K : ℕ) → Arrange (listing K) (listing K)
listing_arranged K = arrange_same (listing K) (listing K) (listing_no_repeats K) (listing_no_repeats K) (λ j m. m) (λ j m. m)

module _ (v : View) (sized : Counted v) (named : Idents16 v) (starts : List ℕ) (checked : check_starts v starts ≡ Ok tt) where
  -- the file of accepted starts is read as them
  pub encoding_read : (room : ℕ) → v.demand_count ≤ room → read_plan_file v (encode_plan v starts) room ≡ accepted (take v.demand_count starts)
  encoding_read room enough =
      ap (λ (file : List ℕ). read_plan_file v file room) (in_listing_order v starts (limits_are v sized named starts checked).demands_there)
      ∙ any_order_read v sized named starts checked (listing v.demand_count) room (listing_arranged v.demand_count) enough

  -- so the answer is the plan's end, and the buffer holds the starts, whatever it held, with the rest as it was
  pub encoding_answered : (buffer : List ℕ) → v.demand_count ≤ length buffer →
      (plan_reply v (read_plan_file v (encode_plan v starts) (length buffer)) ≡ Ok (end_of_plan v starts)) ×
      (plan_starts (read_plan_file v (encode_plan v starts) (length buffer)) buffer ≡ take v.demand_count starts ++ drop v.demand_count buffer)
  unfolding over
  encoding_answered buffer enough =
      let K = v.demand_count in
      let there = (limits_are v sized named starts checked).demands_there in
      let front : length (take K starts) ≡ K = length-take-le K starts (each_passed v starts checked).1 in
      let result = accepted_result v (read_plan_file v (encode_plan v starts) (length buffer)) buffer (take K starts) (encoding_read (length buffer) enough) in (
        sym result.0 ∙ ap Ok (sym (end_alike v there starts (take K starts) (front_alike v starts))),
        sym result.1 ∙ ap (λ (n : ℕ). take K starts ++ drop n buffer) front,
      )

module _ (v : View) (sized : Counted v) (named : Idents16 v) (s : List ℕ) (bytes : Bytes s) (room : ℕ) (starts : List ℕ)
    (read : read_plan_file v s room ≡ accepted starts) (in_order : InListingOrder v s) where
  -- an accepted file in listing order is the file of the starts read
  pub read_encodes : s ≡ encode_plan v starts
  read_encodes =
      let p = accepted_rows v sized s bytes room starts read in
      let sound = check_sound v sized (each_passed v starts p.checked).0 in
      let there = (sound_limits v sized sound).demands_there in
      let listed : p.order ≡ listing v.demand_count =
      order_is_listing v sound there named starts p.order p.each_once (subst (InListingOrder v) p.rows in_order) in
      p.rows ∙ (ap (rows_in_order v starts) listed ∙ sym (in_listing_order v starts there))

  -- written from a buffer that the starts were read into, it is the same bytes
  pub same_bytes : (buffer out : List ℕ) → length s ≤ length out →
      (plan_written v (plan_starts (read_plan_file v s room) buffer) out ≡ Ok (length s)) ×
      (plan_out v (plan_starts (read_plan_file v s room) buffer) out ≡ s ++ drop (length s) out)
  unfolding over
  same_bytes buffer out enough =
      let K = v.demand_count in
      let p = accepted_rows v sized s bytes room starts read in
      let there = (sound_limits v sized (check_sound v sized (each_passed v starts p.checked).0)).demands_there in
      let held = starts ++ drop (length starts) buffer in
      let same = longer_alike v starts (drop (length starts) buffer) p.all_starts in
      let checked = checked_alike v there starts held same (omega (arith, length-append starts (drop (length starts) buffer), p.all_starts)) p.checked in
      let file : encode_plan v held ≡ s =
      in_listing_order v held there
      ∙ (sym (rows_alike v there starts held same (listing K) (λ k m. listing_below K k m)) ∙ (sym (in_listing_order v starts there) ∙ sym read_encodes)) in
      let size : length (encode_plan v held) ≡ length s = ap length file in
      let wrote : plan_written v held out ≡ Ok (length s) = plan_wrote v held out checked (omega arith) ∙ ap Ok size in
      rw (sym (accepted_result v (read_plan_file v s room) buffer starts read).1) (
        wrote,
        out_wrote v held out (length s) wrote ∙ ap (λ (l : List ℕ). l ++ drop (length s) out) file,
      )

module _ (r : Request) (whole : Whole r) (named : Idents16 (view r)) where
  -- what `write_plan` writes `read_plan` reads back unchanged: the same end, and the same starts
  pub written_then_read : (starts out buffer : List ℕ) (bytes : ℕ) → plan_written (view r) starts out ≡ Ok bytes → (view r).demand_count ≤ length buffer →
      (plan_reply (view r) (read_plan_file (view r) (take bytes (plan_out (view r) starts out)) (length buffer)) ≡ Ok (end_of_plan (view r) starts)) ×
      (plan_starts (read_plan_file (view r) (take bytes (plan_out (view r) starts out)) (length buffer)) buffer
      ≡ take (view r).demand_count starts ++ drop (view r).demand_count buffer)
  written_then_read starts out buffer bytes wrote enough =
      let v = view r in
      let says = plan_wrote_says v starts out bytes wrote in
      let file : take bytes (plan_out v starts out) ≡ encode_plan v starts =
      ap (take bytes) (out_wrote v starts out bytes wrote) ∙ take_at (encode_plan v starts) (drop bytes out) bytes (sym says.1) in
      rw file (encoding_answered v (whole_counted r whole) named starts says.0 buffer enough)

  -- what `read_plan` reads from a file in listing order `write_plan` writes as the same bytes, with the rest as it was
  pub read_then_written : (s : List ℕ) → Bytes s → (starts buffer out : List ℕ) → read_plan_file (view r) s (length buffer) ≡ accepted starts →
      InListingOrder (view r) s → length s ≤ length out →
      (plan_written (view r) (plan_starts (read_plan_file (view r) s (length buffer)) buffer) out ≡ Ok (length s)) ×
      (plan_out (view r) (plan_starts (read_plan_file (view r) s (length buffer)) buffer) out ≡ s ++ drop (length s) out)
  read_then_written s bytes starts buffer out read in_order enough =
      same_bytes (view r) (whole_counted r whole) named s bytes (length buffer) starts read in_order buffer out enough
