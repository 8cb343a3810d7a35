-- Requests and files: reading accepts exactly the encodings of sound requests, and what goes there and back is the same.
use Rattle.std.specs.Prelude.{ℕ, ◌+◌, ◌≤◌, ◌<◌, true, List, [], ◌∷◌, ◌++◌, ◌≢◌, ◌≡◌, refl, length, get_or, take, drop, leb, Result, Ok, Err}
use Rattle.std.proofs.Common.{sym, ap, subst, ◌∙◌, arith, take_at, drop-drop}
use Rattle.std.proofs.Math.Seq.{drop-append_seam}
use Rattle.refusal.specs.declared.Refusal.{Refusal}
use Rattle.refusal.specs.declared.Refusal.TheVariants.{FileTooLong}
use Rattle.grid.specs.declared.Band.{Band}
use Rattle.grid.specs.Grid.{allowed_band}
use Rattle.request.specs.declared.Link.{Link}
use Rattle.request.specs.declared.Request.{Request}
use Rattle.request.specs.Packing.{pack}
use Rattle.request.specs.View.{DemandView, View, view, demand_at, idents}
use Rattle.request.specs.Check.{then, check_band, check_some_link, check_links, check_link_count, check_demands, check_demand_count, check, must}
use Rattle.request.proofs.CheckLaws.{next_sound, band_passes, some_link_lem, few_links, few_demands, by_check}
use Rattle.request.specs.Whole.{Whole, Counted}
use Rattle.request.proofs.SoundLaws.{all_pass, each_passes, check_sound, whole_counted}
use Rattle.request.specs.inner.Limits.{Limits}
use Rattle.request.proofs.LimitsLaws.{sound_limits}
use Rattle.request.specs.Encoding.{field, demand_field, band_field, link_fields, demand_fields, encode}
use Rattle.request.proofs.EncodingLaws.{links_bytes, file_bytes}
use Rattle.reading.specs.Reading.{refused, accepted, band_in, check_band_field, LinksRead, links_refused, links_read, read_links, demands_begin, DemandsRead, demands_refused, demands_read, read_demands, with_demands, with_links, with_band, read_file}
use Rattle.fields.specs.FieldLaws.{field_sound}
use Rattle.reading.specs.ReadingLaws.{band_holds, band_long, band_sound}
use Rattle.reading.specs.FileLaws.{file_links}
use Rattle.reading.specs.FilePacking.{pack_reading}
use Rattle.lent.specs.Lent.{filled}
use Rattle.writing.specs.Writing.{written, out_after}
use Rattle.writing.specs.OutLaws.{wrote_answer, wrote_front, wrote_says}
use Rattle.request.specs.RoundTrip.{Bytes, Idents16, Accepted}
use Rattle.reading.specs.FieldLaws.{band_there, band_written}
use Rattle.reading.specs.AskedLaws.{tag_begins}
use Rattle.reading.specs.BackLaws.{links_back, demands_back}
use Rattle.reading.specs.EncodedLaws.{links_encoded, demands_encoded}
use Rattle.reading.specs.RepackingLaws.{band_edge, view_repacked, file_at_most}
use Rattle.reading.specs.inner.Fields.{BandThere}
use Rattle.reading.specs.inner.Encoded.{LinksEncoded, DemandsEncoded, request_of}
use Rattle.request.specs.declared.Asked.TheVariants.{Width, Rate}

-- links and demands that were read make an accepted request
parts_accepted : (s : List ℕ) (links : List Link) (end : ℕ) (demands : List DemandView) → Bytes s → check_band_field s ≡ Ok tt →
    LinksEncoded s 8 [] links end → DemandsEncoded (band_in s).slots links s end [] demands → Accepted s (request_of (band_in s) links demands)
unfolding request_of check encode idents
parts_accepted s links end demands bytes band read asked =
    let holds = band_holds s band in
    let same-links : links ≡ read.more = read.all in
    let same-demands : demands ≡ asked.more = asked.all in
    let routes : (k : ℕ) → k < length demands → length (demand_at demands k).route ≡ (demand_at demands k).hops = rw same-demands asked.counted in
    let named : (k : ℕ) → k < length demands → (demand_at demands k).ident < 65536 = rw same-demands asked.named in
    let some : length links ≢ 0 = λ (z : length links ≡ 0). omega (arith, read.some) in
    record {
      encoded =
          band_written s bytes holds.0 ∙
          ap (λ (r : List ℕ). band_field (band_in s) ++ r)
          (read.encoded ∙ rw (← same-links, asked.encoded, ← same-demands));
      sound =
          all_pass (check_band (band_in s)) (check_some_link (length links)) (check_links 0 links) (check_link_count (length links))
          (check_demands (band_in s).slots links [] 0 demands) (check_demand_count (length demands))
          (band_passes (band_in s) holds.1) (some_link_lem (length links) some) (rw same-links (read.sound 0)) (few_links (length links) read.few)
          (rw same-demands (asked.sound 0)) (few_demands (length demands) asked.few);
      counted =
          record {
            links_counted = λ (few : length links ≤ 64). refl;
            demands_counted = λ (few : length demands ≤ 200). refl;
            routes_counted = λ (k : ℕ) (h : k < length demands) (few : (demand_at demands k).hops ≤ 32). routes k h;
          };
      idents = record { each = named };
    }

-- where the demands' reading makes a request, they were read
demands_were_read : (band : Band) (links : List Link) (y : DemandsRead) (v : View) → with_demands band links y ≡ accepted v →
    (demands : List DemandView) × ((y ≡ demands_read demands) × (request_of band links demands ≡ v))
unfolding with_demands request_of
demands_were_read band links (demands_refused why) v e = absurd (let z : ◌≡◌ {A = ℕ} 0 1 = cc in omega arith)
demands_were_read band links (demands_read demands) v e = (demands, (refl, cc))

-- and so were the links
links_were_read : (s : List ℕ) (band : Band) (x : LinksRead) (v : View) → with_links s band x ≡ accepted v →
    (links : List Link) × (end : ℕ) × ((x ≡ links_read links end) × (with_demands band links (read_demands 201 band.slots links s end []) ≡ accepted v))
unfolding with_links
links_were_read s band (links_refused why) v e = absurd (let z : ◌≡◌ {A = ℕ} 0 1 = cc in omega arith)
links_were_read s band (links_read links end) v e = (links, end, (refl, e))

-- reading accepts nothing but the encodings of sound requests
pub accepted_encodes : (s : List ℕ) (v : View) → Bytes s → read_file s ≡ accepted v → Accepted s v
unfolding read_file with_band
accepted_encodes s v bytes e =
    let limit = must (leb (length s) 8128) (FileTooLong 8128) in
    by_check (then limit (check_band_field s))
    (λ (sound : then limit (check_band_field s) ≡ Ok tt).
    let band = next_sound limit (check_band_field s) sound in
    let after-band : with_links s (band_in s) (read_links 65 s 8 []) ≡ accepted v = rw sound at e in
    let links = links_were_read s (band_in s) (read_links 65 s 8 []) v after-band in
    let read = links_encoded 65 s 8 [] links.0 links.1 (band_long s band) (omega arith) links.2.0 in
    let demands = demands_were_read (band_in s) links.0 (read_demands 201 (band_in s).slots links.0 s links.1 []) v links.2.1 in
    let asked = demands_encoded 201 (band_in s).slots links.0 s links.1 [] demands.0 bytes read.within (omega arith) demands.1.0 in
    subst (Accepted s) demands.1.1 (parts_accepted s links.0 links.1 demands.0 bytes band read asked))
    (λ (why : Refusal) (fault : then limit (check_band_field s) ≡ Err why).
    let no : refused why ≡ accepted v = rw fault at e in
    absurd (let z : ◌≡◌ {A = ℕ} 0 1 = cc in omega arith))

-- what follows the links in a file is nothing, or a demand
demands_next : (demands : List DemandView) → demands_begin (get_or (demand_fields demands) 0 3) ≡ true
unfolding demand_fields demand_field field demands_begin
demands_next [] = refl
demands_next (d ∷ demands) = tag_begins d.asked

-- the numbers of a sound request's file
sound_file : (v : View) → Counted v → check v ≡ Ok tt → Limits v × (length (encode v) ≤ 8128)
sound_file v counted sound =
    let is-sound = check_sound v counted sound in
    let limits = sound_limits v counted is-sound in
    (limits, file_at_most v limits (λ (k : ℕ) (h : k < v.demand_count). (is-sound.demands_sound k h).at_most_32_hops))

-- its band's field is sound, and its band is read
band_back : (v : View) → Limits v → allowed_band v.band ≡ true → BandThere (encode v) v.band (link_fields v.links ++ demand_fields v.demands)
unfolding encode
band_back v limits allowed =
    band_there (encode v) v.band (link_fields v.links ++ demand_fields v.demands) refl (band_edge v.band allowed) (omega (arith, limits.most_slots))

-- a band, links and demands that are read as a request's are accepted as that request
phases_back : (s : List ℕ) (v : View) (end : ℕ) → band_in s ≡ v.band → read_links 65 s 8 [] ≡ links_read v.links end →
    read_demands 201 v.band.slots v.links s end [] ≡ demands_read v.demands → length v.links ≡ v.link_count → length v.demands ≡ v.demand_count →
    with_links s (band_in s) (read_links 65 s 8 []) ≡ accepted v
unfolding with_links with_demands
phases_back s v end band links demands link-count demand-count =
    ap (λ (b : Band). with_links s b (read_links 65 s 8 [])) band ∙ ap (with_links s v.band) links ∙ ap (with_demands v.band v.links) demands ∙
    ap (λ (n : ℕ). accepted (record { band = v.band; link_count = n; links = v.links; demand_count = length v.demands; demands = v.demands })) link-count ∙
    ap (λ (n : ℕ). accepted (record { band = v.band; link_count = v.link_count; links = v.links; demand_count = n; demands = v.demands })) demand-count

-- reading accepts every encoding of a sound request, as that request
pub encoding_accepted : (v : View) → Counted v → Idents16 v → check v ≡ Ok tt → read_file (encode v) ≡ accepted v
unfolding check idents
encoding_accepted v counted idents16 sound =
    let s = encode v in
    let numbers = sound_file v counted sound in
    let limits = numbers.0 in
    let is-sound = check_sound v counted sound in
    let passes = each_passes (check_band v.band) (check_some_link v.link_count) (check_links 0 v.links) (check_link_count v.link_count)
    (check_demands v.band.slots v.links [] 0 v.demands) (check_demand_count v.demand_count) sound in
    let there = band_back v limits is-sound.band_allowed in
    let field = there.sound_field in
    let end = 8 + length (link_fields v.links) in
    let links : read_links 65 s 8 [] ≡ links_read v.links end
    = links_back v.links 65 s 8 [] (demand_fields v.demands) 0 (omega (arith, limits.links_there, limits.most_links))
    (omega (arith, limits.links_there, limits.most_links)) (omega (arith, limits.links_there, limits.some_link)) (omega arith) there.behind
    (demands_next v.demands) passes.2 in
    let behind : drop end s ≡ demand_fields v.demands
    = sym (drop-drop (length (link_fields v.links)) 8 s) ∙ ap (drop (length (link_fields v.links))) there.behind ∙
    drop-append_seam (link_fields v.links) (demand_fields v.demands) in
    let within : end ≤ length s = omega (arith, file_bytes v, links_bytes v.links) in
    let demands : read_demands 201 v.band.slots v.links s end [] ≡ demands_read v.demands
    = demands_back v.demands 201 v.band.slots v.links s end [] 0 (omega (arith, limits.demands_there, limits.most_demands))
    (omega (arith, limits.demands_there, limits.most_demands)) (omega (arith, limits.most_slots)) within behind passes.4
    counted.routes_counted idents16.each in
    file_links s (band_in s) numbers.1
    (sym (band_sound s (omega arith) (sym (field_sound s 0 1 5 5 field)) (rw there.same is-sound.band_allowed))) refl ∙
    phases_back s v end there.same links demands limits.links_there limits.demands_there

-- so reading accepts a file as a request exactly where the file is that request's encoding and the request is sound
pub reads_exactly : (s : List ℕ) (v : View) → Bytes s → (read_file s ≡ accepted v → Accepted s v) × (Accepted s v → read_file s ≡ accepted v)
reads_exactly s v bytes = (
  accepted_encodes s v bytes,
  λ (a : Accepted s v). ap read_file a.encoded ∙ encoding_accepted v a.counted a.idents a.sound,
)

-- an accepted request has exactly one encoding
pub one_encoding : (s s' : List ℕ) (v : View) → Bytes s → Bytes s' → read_file s ≡ accepted v → read_file s' ≡ accepted v → s ≡ s'
one_encoding s s' v bytes bytes' e e' = (accepted_encodes s v bytes e).encoded ∙ sym (accepted_encodes s' v bytes' e').encoded

-- a width is not a rate
width_no_rate : (w r : ℕ) → Width w ≡ Rate r → ⊥
width_no_rate w r e = let z : ◌≡◌ {A = ℕ} 0 1 = cc in omega arith

-- files that book the same demand otherwise, one by its width and one by a rate, differ
pub booked_files_differ : (s s' : List ℕ) (v v' : View) → read_file s ≡ accepted v → read_file s' ≡ accepted v' → (k w r : ℕ) →
    (demand_at v.demands k).asked ≡ Width w → (demand_at v'.demands k).asked ≡ Rate r → s ≢ s'
booked_files_differ s s' v v' e e' k w r by_width by-rate same =
    let both : accepted v ≡ accepted v' = sym e ∙ ap read_file same ∙ e' in
    let one : v ≡ v' = cc in
    width_no_rate w r (sym by_width ∙ ap (λ (x : View). (demand_at x.demands k).asked) one ∙ by-rate)

-- what was read is seen as it was read
pub read_seen : (s : List ℕ) (v : View) → Bytes s → read_file s ≡ accepted v → view (pack v) ≡ v
read_seen s v bytes e =
    let parts = accepted_encodes s v bytes e in
    view_repacked v (sound_file v parts.counted parts.sound).0

-- what was read and is written again is the same bytes, at the front of the buffer
pub read_then_written : (s : List ℕ) (request : Request) (v : View) (out : List ℕ) → Bytes s → read_file s ≡ accepted v → pack_reading (read_file s) ≡ Ok request →
    length s ≤ length out →
    (written (view request) out ≡ Ok (length s)) × (out_after (view request) out ≡ s ++ drop (length s) out)
unfolding pack_reading
read_then_written s request v out bytes e read room =
    let parts = accepted_encodes s v bytes e in
    let size : length s ≡ length (encode v) = ap length parts.encoded in
    let packed : Ok (pack v) ≡ Ok request = sym (ap pack_reading e) ∙ read in
    let seen : view request ≡ v = let same : pack v ≡ request = cc in sym (ap view same) ∙ read_seen s v bytes e in
    rw seen (
      wrote_answer v out parts.sound (omega arith) ∙ ap Ok (sym size),
      wrote_front v out parts.sound (omega arith) ∙ ap (λ (file : List ℕ). file ++ drop (length file) out) (sym parts.encoded),
    )

-- a sound request that is written and read again is the same request
pub written_then_read : (r : Request) (out : List ℕ) (bytes : ℕ) → Whole r → Idents16 (view r) → written (view r) out ≡ Ok bytes →
    read_file (take bytes (out_after (view r) out)) ≡ accepted (view r)
written_then_read r out bytes whole idents16 wrote =
    let v = view r in
    let says = wrote_says v out bytes wrote in
    let front : take bytes (out_after v out) ≡ encode v
    = ap (take bytes) (wrote_front v out says.0 says.2) ∙ take_at (encode v) (drop (length (encode v)) out) bytes (sym says.1) in
    ap read_file front ∙ encoding_accepted v (whole_counted r whole) idents16 says.0

-- two answers of writing a request are equal, whatever stands behind its counts, and so are the buffers
pub same_writing : (q q' : Request) (out : List ℕ) (r r' : Result ℕ Refusal) (after after' : List ℕ) → view q ≡ view q' →
    r ≡ written (view q) out → r' ≡ written (view q') out → after ≡ out_after (view q) out → after' ≡ out_after (view q') out → (r ≡ r') × (after ≡ after')
same_writing q q' out r r' after after' same e e' f f' =
    (e ∙ ap (λ (v : View). written v out) same ∙ sym e', f ∙ ap (λ (v : View). out_after v out) same ∙ sym f')

-- a request that is not written leaves the buffer as it was
pub write_refused_keeps : (v : View) (out : List ℕ) (why : Refusal) → written v out ≡ Err why → out_after v out ≡ out
unfolding out_after filled
write_refused_keeps v out why e = ap (λ (x : Result ℕ Refusal). filled x (encode v) out) e
