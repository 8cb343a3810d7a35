use Rattle.std.specs.Prelude.{Ok}
use Rattle.std.proofs.Common.{ℕ, ◌≡◌, ◌≤◌, length, take, sym, ap, ◌∙◌, arith, rules}
use Rattle.request.specs.View.{view}
use Rattle.request.specs.Encoding.{encode}
use Rattle.request.proofs.Arrays.{whole}
use Rattle.request.proofs.EncodingLaws.{band_bytes, links_bytes}
use Rattle.lent.specs.Lent.{check_room}
use Rattle.lent.specs.LentLaws.{room_held}
use Rattle.writing.specs.OutLaws.{ready, unsound_answer, short_answer, wrote_answer, file_stored}
use Rattle.writing.specs.RoundTripLaws.{write_refused_keeps}
use Rattle.writing.specs.PutsLaws.{puts_then}
use Rattle.writing.proofs.write_request.Goals as goal

pub returns-in_err-check_request : goal.returns-in_err-check_request
returns-in_err-check_request c =
    let r = c.args.request in
    let out = c.args.out.now in
    let refused = unsound_answer (view r) out _ (sym c.check_request.ensures ∙ c.in_err-check_request.was) in record { value = search (rules, refused); out_after = sym (write_refused_keeps (view r) out _ refused) }

pub shared_ref_as_front-links : goal.shared_ref_as_front-links
shared_ref_as_front-links c =
    let is_ready = ready c.args.request (whole c.args.request _ c.well_formed.0) (sym c.check_request.ensures ∙ c.in_ok-check_request.was) in
    is_ready.few_links

pub shared_ref_as_front-demands : goal.shared_ref_as_front-demands
shared_ref_as_front-demands c =
    let is_ready = ready c.args.request (whole c.args.request _ c.well_formed.0) (sym c.check_request.ensures ∙ c.in_ok-check_request.was) in
    is_ready.few_demands

pub file_length-needed-requires : goal.file_length-needed-requires
file_length-needed-requires c =
    let is_ready = ready c.args.request (whole c.args.request _ c.well_formed.0) (sym c.check_request.ensures ∙ c.in_ok-check_request.was) in
    record { links_bound = omega arith; demands_bound = omega arith }

pub returns-in_err-check_room : goal.returns-in_err-check_room
returns-in_err-check_room c =
    let sound = sym c.check_request.ensures ∙ c.in_ok-check_request.was in
    let is_ready = ready c.args.request (whole c.args.request _ c.well_formed.0) sound in
    let r = c.args.request in
    let out = c.args.out.now in
    let long : length (encode (view r)) ≡ c.file_length-needed.result = omega (arith, is_ready.bytes) in
    let refused = short_answer (view r) out _ sound (ap (λ (n : ℕ). check_room n (length out)) long ∙ (sym c.check_room.ensures ∙ c.in_err-check_room.was)) in
    record { value = search (rules, refused); out_after = sym (write_refused_keeps (view r) out _ refused) }

pub put_band-requires : goal.put_band-requires
put_band-requires c =
    let room = room_held _ _ (sym c.check_room.ensures ∙ c.in_ok-check_room.was) in
    omega (arith, room)

pub put_links-requires : goal.put_links-requires
put_links-requires c =
    let room = room_held _ _ (sym c.check_room.ensures ∙ c.in_ok-check_room.was) in
    omega (arith, room, band_bytes c.args.request.band)

pub put_demands-requires : goal.put_demands-requires
put_demands-requires c =
    let r = c.args.request in
    let is_ready = ready r (whole r _ c.well_formed.0) (sym c.check_request.ensures ∙ c.in_ok-check_request.was) in
    let room = room_held _ _ (sym c.check_room.ensures ∙ c.in_ok-check_room.was) in
    omega (arith, room, band_bytes r.band, links_bytes (take r.link_count r.links))

pub returns : goal.returns
unfolding view encode
returns c =
    let r = c.args.request in
    let out = c.args.out.now in
    let sound = sym c.check_request.ensures ∙ c.in_ok-check_request.was in
    let is_ready = ready r (whole r _ c.well_formed.0) sound in
    let room = room_held _ _ (sym c.check_room.ensures ∙ c.in_ok-check_room.was) in
    let long : length (encode (view r)) ≡ c.file_length-needed.result = omega (arith, is_ready.bytes) in
    let fits : length (encode (view r)) ≤ length out = omega (arith, room) in
    let all = puts_then _ _ _ _ _ c.put_band.ensures (puts_then _ _ _ _ _ c.put_links.ensures c.put_demands.ensures) in
    record {
      value = ap Ok (sym long) ∙ sym (wrote_answer (view r) out sound fits);
      out_after = file_stored (view r) out _ sound fits (search (rules, all.stored));
    }
