-- Writing a request: what the answer is, and what the buffer holds.
use Rattle.std.specs.Prelude.{ℕ, ◌+◌, ◌*◌, ◌≤◌, ◌<◌, ◌≡◌, take, drop, Result, Ok, Err}
use mathlib.Core.List.{List, ◌++◌, append_assoc}
use Rattle.std.proofs.Math.Path.{sym, ap}
use Rattle.std.proofs.Common.{◌∙◌, arith, get_or-take}
use Rattle.std.proofs.Math.ListN.{length, length-append}
use Rattle.std.proofs.Math.Seq.{sets, length-take-le}
use Rattle.std.proofs.lemmas.List.Elements.{All-from_get_or}
use Rattle.refusal.specs.declared.Refusal.{Refusal}
use Rattle.request.specs.declared.Request.{Request}
use Rattle.request.specs.View.{View, view, no_entry}
use Rattle.request.specs.Check.{check}
use Rattle.request.specs.Encoding.{band_field, link_fields, demand_fields, encode}
use Rattle.request.specs.Whole.{Whole}
use Rattle.request.proofs.LimitsLaws.{checked_limits, checked_demands}
use Rattle.lent.specs.Lent.{check_room, filled}
use Rattle.lent.specs.LentLaws.{sets_then, stored_front, room_enough, write_fault, write_short, write_fits, write_says}
use Rattle.writing.specs.Writing.{written, out_after}
use Rattle.request.proofs.EncodingLaws.{band_bytes, links_bytes, file_bytes}
use Rattle.writing.specs.inner.Ready.{Ready, RouteFits}

-- a sound request is ready to be written
pub ready : (r : Request) → Whole r → check (view r) ≡ Ok tt → Ready r
unfolding view
ready r whole sound =
    let limits = checked_limits r whole sound in
    let each = checked_demands r whole sound in
    let all : length (take r.demand_count r.demands) ≡ r.demand_count
    = length-take-le r.demand_count r.demands (omega (arith, limits.most_demands, whole.all_demands)) in
    record {
      few_links = limits.most_links;
      few_demands = limits.most_demands;
      routes_fit = All-from_get_or RouteFits (take r.demand_count r.demands) no_entry
          (λ (k : ℕ) (h : k < length (take r.demand_count r.demands)).
          let here : k < r.demand_count = omega arith in
          let fits = each.each k here in
          rw (get_or-take r.demand_count r.demands k no_entry here) (record { short = fits.most_hops; whole = fits.all_hops }));
      all_links = limits.links_there;
      all_demands = all;
      bytes = file_bytes (view r) ∙ rw limits.links_there;
    }

module _ (v : View) (out : List ℕ) where
  -- an unsound request is refused
  pub unsound_answer : (why : Refusal) → check v ≡ Err why → written v out ≡ Err why
  unfolding written
  unsound_answer why fault = write_fault (check v) (length (encode v)) (length out) why fault

  -- a buffer that is too short is refused with 10
  pub short_answer : (why : Refusal) → check v ≡ Ok tt → check_room (length (encode v)) (length out) ≡ Err why → written v out ≡ Err why
  unfolding written
  short_answer why sound short = write_short (check v) (length (encode v)) (length out) why sound short

  -- else the file is written, and its length is the answer
  pub wrote_answer : check v ≡ Ok tt → length (encode v) ≤ length out → written v out ≡ Ok (length (encode v))
  unfolding written
  wrote_answer sound room =
      write_fits (check v) (length (encode v)) (length out) sound (sym (room_enough (length (encode v)) (length out) room))

  -- it stands at the front, and the rest is as it was
  pub wrote_front : check v ≡ Ok tt → length (encode v) ≤ length out → out_after v out ≡ encode v ++ drop (length (encode v)) out
  unfolding out_after filled
  wrote_front sound room = ap (λ (x : Result ℕ Refusal). filled x (encode v) out) (wrote_answer sound room)

  -- what an answer of bytes says: the request is sound, they are its file's, and there was room
  pub wrote_says : (bytes : ℕ) → written v out ≡ Ok bytes → (check v ≡ Ok tt) × (bytes ≡ length (encode v)) × (length (encode v) ≤ length out)
  unfolding written
  wrote_says bytes h = write_says (check v) (length (encode v)) (length out) bytes h

  -- the file at the front of the buffer
  pub file_stored : (after : List ℕ) → check v ≡ Ok tt → length (encode v) ≤ length out → after ≡ sets out 0 (encode v) → after ≡ out_after v out
  file_stored after sound room e = e ∙ stored_front out (encode v) room ∙ sym (wrote_front sound room)

  -- band, links and demands stored one after the other are the file
  pub all_stored : (one two three : List ℕ) (at : ℕ) → check v ≡ Ok tt → length (encode v) ≤ length out → at ≡ 8 + 5 * length v.links →
      one ≡ sets out 0 (band_field v.band) → two ≡ sets one 8 (link_fields v.links) → three ≡ sets two at (demand_fields v.demands) →
      three ≡ out_after v out
  unfolding encode
  all_stored one two three at sound room start e f g =
      let first = band_field v.band in
      let links = link_fields v.links in
      let demands = demand_fields v.demands in
      let links-at : 8 ≡ 0 + length first = omega (arith, band_bytes v.band) in
      let demands-at : at ≡ 0 + length (first ++ links)
      = omega (arith, band_bytes v.band, links_bytes v.links, length-append first links) in
      let two_is : two ≡ sets out 0 (first ++ links) = f ∙ ap (λ (o : List ℕ). sets o 8 links) e ∙ sets_then out 0 first links 8 links-at in
      let three-is : three ≡ sets out 0 ((first ++ links) ++ demands)
      = g ∙ ap (λ (o : List ℕ). sets o at demands) two_is ∙ sets_then out 0 (first ++ links) demands at demands-at in
      file_stored three sound room (three-is ∙ ap (sets out 0) (append_assoc first links demands))
