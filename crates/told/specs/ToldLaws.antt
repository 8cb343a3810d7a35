-- Reading in C tells all of a request: two files that are told alike are the same file.
use Rattle.std.specs.Prelude.{ℕ, ◌*◌, ◌<◌, true, ◌≡◌, refl, length, Result, Ok, Err}
use mathlib.Core.List.{List}
use Rattle.std.proofs.Common.{sym, ap₂, ◌∙◌, arith}
use Rattle.std.proofs.Math.Path.{ap}
use Rattle.std.proofs.Math.ListN.{take}
use Rattle.std.proofs.lemmas.List.{length-map}
use Rattle.std.proofs.Math.Seq.{take-append_seam}
use Rattle.refusal.specs.declared.Refusal.{Refusal}
use Rattle.refusal.specs.Refusal.{number_of}
use Rattle.refusal.specs.RefusalLaws.{some_number}
use Rattle.grid.specs.declared.Band.{Band}
use Rattle.request.specs.View.{DemandView, View, demand_at, idents, width_of}
use Rattle.request.specs.Check.{known_asked}
use Rattle.request.proofs.SoundLaws.{check_sound}
use Rattle.reading.specs.Reading.{FileReading, refused, accepted, read_file}
use Rattle.request.proofs.CheckLaws.{by_check}
use Rattle.request.specs.RoundTrip.{Bytes}
use Rattle.writing.specs.RoundTripLaws.{accepted_encodes, one_encoding}
use Rattle.meeting.specs.Bound.{bound_of}
use Rattle.meeting.specs.ReplyLaws.{bound_answered}
use Rattle.lent.specs.Lent.{over, write_answer}
use Rattle.columns.specs.Columns.{widths, rate_asked, rates, hop_counts, route_links, link_ends, DemandBuffers, demand_rooms, demands_over, check_demand_columns, check_route_columns, demand_reply, route_reply}
use Rattle.columns.proofs.ColumnsLaws.{ends_length, demands_sound, demands_written, routes_written}
use Rattle.columns.proofs.WholeLaws.{columns_whole}
use Rattle.told.specs.declared.LightplanRequest.{LightplanRequest}
use Rattle.told.specs.declared.LightplanRoutes.{LightplanRoutes}
use Rattle.told.specs.RequestTold.{request_refused, request_told, request_after, request_entry, demands_read, routes_refused, routes_told, routes_entry, ends_read, hops_read, routes_read}
use Rattle.told.specs.FileTold.{Buffers, FileTold, request_of, lists_of, told_of, whole_told}

-- two results of `request_told` are equal, and leave the same in the buffers
pub same_request_told : (file : List ℕ) (lent : DemandBuffers) (r r' : LightplanRequest) (after after' : DemandBuffers) →
    r ≡ request_entry (read_file file) (demand_rooms lent) → r' ≡ request_entry (read_file file) (demand_rooms lent) →
    after ≡ demands_read (read_file file) lent → after' ≡ demands_read (read_file file) lent → (r ≡ r') × (after ≡ after')
same_request_told file lent r r' after after' hr hr' ha ha' = (hr ∙ sym hr', ha ∙ sym ha')

-- two results of `routes_told` are equal
pub same_routes_told : (file ends hops routes : List ℕ) (r r' : LightplanRoutes) (e e' h h' t t' : List ℕ) →
    r ≡ routes_entry (read_file file) (length ends) (length hops) (length routes) →
    r' ≡ routes_entry (read_file file) (length ends) (length hops) (length routes) →
    e ≡ ends_read (read_file file) ends hops routes → e' ≡ ends_read (read_file file) ends hops routes →
    h ≡ hops_read (read_file file) ends hops routes → h' ≡ hops_read (read_file file) ends hops routes →
    t ≡ routes_read (read_file file) ends hops routes → t' ≡ routes_read (read_file file) ends hops routes →
    (r ≡ r') × (e ≡ e') × (h ≡ h') × (t ≡ t')
same_routes_told file ends hops routes r r' e e' h h' t t' hr hr' he he' hh hh' ht ht' = (hr ∙ sym hr', he ∙ sym he', hh ∙ sym hh', ht ∙ sym ht')

-- the front of a buffer is the column that was written there
front : (column buffer : List ℕ) (n : ℕ) → length column ≡ n → take n (over column buffer) ≡ column
unfolding over
front column buffer n h = ap (λ (k : ℕ). take k (over column buffer)) (sym h) ∙ take-append_seam column _

-- told of the same things is told alike
same_told : (t t' : FileTold) → t.request ≡ t'.request → t.lists ≡ t'.lists → t.idents ≡ t'.idents → t.widths ≡ t'.widths → t.rates ≡ t'.rates →
    t.ends ≡ t'.ends → t.hops ≡ t'.hops → t.routes ≡ t'.routes → t ≡ t'
same_told t t' q l i w a e h r =
    ap₂ (λ (x : LightplanRequest) (y : LightplanRoutes). record { request = x; lists = y; idents = t.idents; widths = t.widths; rates = t.rates; ends = t.ends; hops = t.hops; routes = t.routes }) q l
    ∙ (ap₂ (λ (x y : List ℕ). record { request = t'.request; lists = t'.lists; idents = x; widths = y; rates = t.rates; ends = t.ends; hops = t.hops; routes = t.routes }) i w
    ∙ (ap₂ (λ (x y : List ℕ). record { request = t'.request; lists = t'.lists; idents = t'.idents; widths = t'.widths; rates = x; ends = y; hops = t.hops; routes = t.routes }) a e
    ∙ ap₂ (λ (x y : List ℕ). record { request = t'.request; lists = t'.lists; idents = t'.idents; widths = t'.widths; rates = t'.rates; ends = t'.ends; hops = x; routes = y }) h r))

-- how a file reads, case by case
by_reading : {C : Type 0} (read : FileReading) → ((v : View) → read ≡ accepted v → C) → ((why : Refusal) → read ≡ refused why → C) → C
by_reading (accepted v) if-accepted if-refused = if-accepted v refl
by_reading (refused why) if-accepted if-refused = if-refused why refl

-- an answer of `lightplan_read` passed its tests
passed_demands : (v : View) (rooms : List ℕ) → (request_after (demand_reply v rooms) v).refusal ≡ 0 → check_demand_columns v rooms ≡ Ok tt
unfolding request_after demand_reply write_answer request_refused
passed_demands v rooms h =
    by_check (check_demand_columns v rooms)
    (λ (passed : check_demand_columns v rooms ≡ Ok tt). passed)
    (λ (why : Refusal) (failed : check_demand_columns v rooms ≡ Err why).
    let number : number_of why ≡ 0 = rw failed at h in absurd (omega (arith, number, some_number why)))

-- and so did one of `lightplan_read_routes`
passed_routes : (v : View) (a b c : ℕ) → (routes_told (route_reply v a b c) v).refusal ≡ 0 → check_route_columns v a b c ≡ Ok tt
unfolding routes_told route_reply write_answer routes_refused
passed_routes v a b c h =
    by_check (check_route_columns v a b c)
    (λ (passed : check_route_columns v a b c ≡ Ok tt). passed)
    (λ (why : Refusal) (failed : check_route_columns v a b c ≡ Err why).
    let number : number_of why ≡ 0 = rw failed at h in absurd (omega (arith, number, some_number why)))

-- where both calls answer, all of the request is told
module _ (v : View) (lent : Buffers) (links : length v.links ≡ v.link_count) (demands : length v.demands ≡ v.demand_count) where
  accepted_told_lem : (request_of (accepted v) lent).refusal ≡ 0 → (lists_of (accepted v) lent).refusal ≡ 0 → told_of (accepted v) lent ≡ whole_told v
  unfolding told_of whole_told request_of lists_of request_entry request_after request_told routes_entry routes_told demands_read demands_over ends_read hops_read routes_read idents widths rates hop_counts
  accepted_told_lem answered listed =
      let passed = passed_demands v (demand_rooms lent.demands) answered in
      let passed' = passed_routes v (length lent.ends) (length lent.hops) (length lent.routes) listed in
      let told = demands_written v lent.demands passed in
      let told' = routes_written v lent.ends lent.hops lent.routes passed' in
      let sound = demands_sound v (demand_rooms lent.demands) passed in
      let request : request_of (accepted v) lent ≡ request_told (Ok (bound_of v)) v
      = ap (λ (a : Result ℕ Refusal). request_after a v) (sym told.0) ∙ ap (λ (b : Result ℕ Refusal). request_told b v) (sym (bound_answered v (bound_of v) sound refl)) in
      let lists : lists_of (accepted v) lent ≡ routes_told (Ok (length (route_links v.demands))) v = ap (λ (a : Result ℕ Refusal). routes_told a v) (sym told'.0) in
      same_told (told_of (accepted v) lent) (whole_told v) request lists
      (ap₂ (λ (r : LightplanRequest) (b : DemandBuffers). take r.demands b.idents) request (sym told.1)
      ∙ front (idents v.demands) lent.demands.idents v.demand_count (length-map v.demands (λ (d : DemandView). d.ident) ∙ demands))
      (ap₂ (λ (r : LightplanRequest) (b : DemandBuffers). take r.demands b.widths) request (sym told.1)
      ∙ front (widths v.demands) lent.demands.widths v.demand_count (length-map v.demands (λ (d : DemandView). width_of d) ∙ demands))
      (ap₂ (λ (r : LightplanRequest) (b : DemandBuffers). take r.demands b.rates) request (sym told.1)
      ∙ front (rates v.demands) lent.demands.rates v.demand_count (length-map v.demands (λ (d : DemandView). rate_asked d.asked) ∙ demands))
      (ap₂ (λ (r : LightplanRoutes) (l : List ℕ). take (2 * r.links) l) lists (sym told'.1.0)
      ∙ front (link_ends v.links) lent.ends (2 * v.link_count) (ends_length v.links ∙ ap (λ (n : ℕ). 2 * n) links))
      (ap₂ (λ (r : LightplanRoutes) (l : List ℕ). take r.demands l) lists (sym told'.1.1.0)
      ∙ front (hop_counts v.demands) lent.hops v.demand_count (length-map v.demands (λ (d : DemandView). d.hops) ∙ demands))
      (ap₂ (λ (r : LightplanRoutes) (l : List ℕ). take r.hops l) lists (sym told'.1.1.1)
      ∙ front (route_links v.demands) lent.routes (length (route_links v.demands)) refl)

-- the band that is told
abbrev band_of : LightplanRequest → Band
band_of r = record { n0 = r.n0; slots = r.slots; guard = r.guard }

-- a request of an accepted file, with what is known of it
module _ (file : List ℕ) (v : View) (bytes : Bytes file) (read : read_file file ≡ accepted v) where
  -- its routes are as long as they say
  as_long : (k : ℕ) → k < length v.demands → length (demand_at v.demands k).route ≡ (demand_at v.demands k).hops
  as_long k h =
      let parts = accepted_encodes file v bytes read in
      let sound = check_sound v parts.counted parts.sound in
      let there = parts.counted.demands_counted sound.at_most_200_demands in
      parts.counted.routes_counted k h (sound.demands_sound k (omega (arith, h, there))).at_most_32_hops

  -- and each of its demands asks for a width, or for a rate in the table
  all_known : (k : ℕ) → k < length v.demands → known_asked (demand_at v.demands k).asked ≡ true
  all_known k h =
      let parts = accepted_encodes file v bytes read in
      let sound = check_sound v parts.counted parts.sound in
      let there = parts.counted.demands_counted sound.at_most_200_demands in
      (sound.demands_sound k (omega (arith, h, there))).asked_known

  -- where both calls answer, they tell all of it
  pub read_told : (lent : Buffers) → (request_of (read_file file) lent).refusal ≡ 0 → (lists_of (read_file file) lent).refusal ≡ 0 → told_of (read_file file) lent ≡ whole_told v
  read_told lent answered listed =
      let parts = accepted_encodes file v bytes read in
      let sound = check_sound v parts.counted parts.sound in
      ap (λ (r : FileReading). told_of r lent) read
      ∙ accepted_told_lem v lent (parts.counted.links_counted sound.at_most_64_links) (parts.counted.demands_counted sound.at_most_200_demands)
      (sym (ap (λ (r : FileReading). (request_of r lent).refusal) read) ∙ answered) (sym (ap (λ (r : FileReading). (lists_of r lent).refusal) read) ∙ listed)

-- two requests of which all is told alike are equal
pub requests_told_whole : (v v' : View) →
    ((k : ℕ) → k < length v.demands → length (demand_at v.demands k).route ≡ (demand_at v.demands k).hops) →
    ((k : ℕ) → k < length v'.demands → length (demand_at v'.demands k).route ≡ (demand_at v'.demands k).hops) →
    ((k : ℕ) → k < length v.demands → known_asked (demand_at v.demands k).asked ≡ true) →
    ((k : ℕ) → k < length v'.demands → known_asked (demand_at v'.demands k).asked ≡ true) →
    whole_told v ≡ whole_told v' → v ≡ v'
unfolding whole_told request_told
requests_told_whole v v' long long' known known' same =
    let band : v.band ≡ v'.band = ap (λ (t : FileTold). band_of t.request) same in
    columns_whole v v' long long' known known' band (ap (λ (t : FileTold). t.request.links) same) (ap (λ (t : FileTold). t.request.demands) same)
    (ap (λ (t : FileTold). t.idents) same) (ap (λ (t : FileTold). t.widths) same) (ap (λ (t : FileTold). t.rates) same) (ap (λ (t : FileTold). t.ends) same) (ap (λ (t : FileTold). t.hops) same)
    (ap (λ (t : FileTold). t.routes) same)

-- a file that is refused is answered by neither call
no_answer : {C : Type 0} (read : FileReading) (lent : Buffers) (why : Refusal) → read ≡ refused why → (request_of read lent).refusal ≡ 0 → C
unfolding request_of request_entry request_refused
no_answer read lent why is h =
    let number : number_of why ≡ 0 = sym (ap (λ (r : FileReading). (request_of r lent).refusal) is) ∙ h in absurd (omega (arith, number, some_number why))

-- two files of which the two calls tell the same, in whatever buffers, are the same file
pub files_told_whole : (file file' : List ℕ) (lent lent' : Buffers) → Bytes file → Bytes file' →
    (request_of (read_file file) lent).refusal ≡ 0 → (lists_of (read_file file) lent).refusal ≡ 0 → told_of (read_file file) lent ≡ told_of (read_file file') lent' → file ≡ file'
unfolding told_of
files_told_whole file file' lent lent' bytes bytes' answered listed same =
    let answered' : (request_of (read_file file') lent').refusal ≡ 0 = sym (ap (λ (t : FileTold). t.request.refusal) same) ∙ answered in
    let listed' : (lists_of (read_file file') lent').refusal ≡ 0 = sym (ap (λ (t : FileTold). t.lists.refusal) same) ∙ listed in
    by_reading (read_file file)
    (λ (v : View) (read : read_file file ≡ accepted v).
    by_reading (read_file file')
    (λ (v' : View) (read' : read_file file' ≡ accepted v').
    let views : v ≡ v'
    = requests_told_whole v v' (as_long file v bytes read) (as_long file' v' bytes' read') (all_known file v bytes read) (all_known file' v' bytes' read')
    (sym (read_told file v bytes read lent answered listed) ∙ (same ∙ read_told file' v' bytes' read' lent' answered' listed')) in
    one_encoding file file' v bytes bytes' read (read' ∙ ap accepted (sym views)))
    (λ (why : Refusal) (is : read_file file' ≡ refused why). no_answer (read_file file') lent' why is answered'))
    (λ (why : Refusal) (is : read_file file ≡ refused why). no_answer (read_file file) lent why is answered)
