-- The whole file: its phases one after the other.
use Rattle.std.specs.Prelude.{map, ℕ, ◌≤◌, ◌<◌, ◌≡◌, refl, List, [], length, take, Result, Ok, Err}
use Rattle.std.proofs.Common.{sym, ap, ◌∙◌, arith, le-leb}
use Rattle.std.proofs.lemmas.Bool.{lt-leb}
use Rattle.refusal.specs.declared.Refusal.{Refusal}
use Rattle.refusal.specs.declared.Refusal.TheVariants.{FileTooLong}
use Rattle.grid.specs.declared.Band.{Band}
use Rattle.request.specs.declared.Link.{Link}
use Rattle.reading.specs.declared.LinksFound.{LinksFound}
use Rattle.reading.specs.declared.DemandsFound.{DemandsFound}
use Rattle.request.specs.View.{no_link}
use Rattle.request.specs.Check.{then, must}
use Rattle.reading.specs.Reading.{refused, band_in, check_band_field, LinksRead, links_refused, links_read, read_links, DemandsRead, demands_refused, demands_read, read_demands, with_demands, with_links, with_band, read_file}
use Rattle.request.specs.Packing.{empty_demand, pack_demand, padded, pack}
use Rattle.reading.specs.inner.PartsPacking.{pack_links, pack_demands, band_read}
use Rattle.reading.specs.FilePacking.{pack_reading}
use Rattle.request.proofs.PackingLaws.{take_padded}

-- 20: a file above the limit
pub file_too_long : (s : List ℕ) → 8128 < length s → read_file s ≡ refused (FileTooLong 8128)
unfolding read_file with_band then must
file_too_long s long = rw (lt-leb (length s) 8128 long)

-- a band that was read: its field is sound, and it is the band in it
pub band_allowed : (c : Result Unit Refusal) (there band : Band) → Ok band ≡ band_read c there → (c ≡ Ok tt) × (there ≡ band)
unfolding band_read
band_allowed (Ok _) there band e = (refl, cc)
band_allowed (Err why) there band e = absurd (let z : ◌≡◌ {A = ℕ} 0 1 = cc in omega arith)

-- a band that was refused: its field is
pub band_refused : (c : Result Unit Refusal) (there : Band) {why : Refusal} → Err why ≡ band_read c there → Err why ≡ c
unfolding band_read
band_refused (Ok _) there e = absurd (let z : ◌≡◌ {A = ℕ} 0 1 = cc in omega arith)
band_refused (Err w) there e = cc

-- a fault of the band
pub file_band_fault : (s : List ℕ) {why : Refusal} → length s ≤ 8128 → Err why ≡ check_band_field s → read_file s ≡ refused why
unfolding read_file with_band then must
file_band_fault s short fault = rw (le-leb (length s) 8128 short, ← fault)

-- a sound band, and then the links
pub file_links : (s : List ℕ) (band : Band) → length s ≤ 8128 → check_band_field s ≡ Ok tt → band_in s ≡ band → read_file s ≡ with_links s band (read_links 65 s 8 [])
unfolding read_file with_band then must
file_links s band short sound same = rw (le-leb (length s) 8128 short, sound, same)

-- a fault of the links
links_refused_lem : (s : List ℕ) (band : Band) (x : LinksRead) {why : Refusal} → Err why ≡ pack_links x → with_links s band x ≡ refused why
unfolding with_links pack_links
links_refused_lem s band (links_refused w) e = cc
links_refused_lem s band (links_read links at) e = absurd (let z : ◌≡◌ {A = ℕ} 0 1 = cc in omega arith)

-- sound links, and then the demands
links_sound : (s : List ℕ) (band : Band) (x : LinksRead) (found : LinksFound) → Ok found ≡ pack_links x →
    with_links s band x ≡
    with_demands band (take found.count found.links) (read_demands 201 band.slots (take found.count found.links) s found.end [])
unfolding with_links pack_links
links_sound s band (links_refused w) found e = absurd (let z : ◌≡◌ {A = ℕ} 0 1 = cc in omega arith)
links_sound s band (links_read links at) found e =
    let same : found ≡ record { count = length links; end = at; links = padded 64 no_link links } = cc in
    rw same (ap (λ (l : List Link). with_demands band l (read_demands 201 band.slots l s at [])) (sym (take_padded 64 no_link links)))

-- the array holds the links
links_held : (x : LinksRead) (found : LinksFound) → Ok found ≡ pack_links x →
    (length (take found.count found.links) ≡ found.count) × (padded 64 no_link (take found.count found.links) ≡ found.links)
unfolding pack_links
links_held (links_refused w) found e = absurd (let z : ◌≡◌ {A = ℕ} 0 1 = cc in omega arith)
links_held (links_read links at) found e =
    let same : found ≡ record { count = length links; end = at; links = padded 64 no_link links } = cc in
    rw same (ap length (take_padded 64 no_link links), ap (padded 64 no_link) (take_padded 64 no_link links))

-- a fault of the demands
demands_refused_lem : (band : Band) (links : List Link) (y : DemandsRead) {why : Refusal} → Err why ≡ pack_demands y → with_demands band links y ≡ refused why
unfolding with_demands pack_demands
demands_refused_lem band links (demands_refused w) e = cc
demands_refused_lem band links (demands_read demands) e = absurd (let z : ◌≡◌ {A = ℕ} 0 1 = cc in omega arith)

-- sound demands make the request
demands_sound : (band : Band) (links : List Link) (y : DemandsRead) (asked : DemandsFound) → Ok asked ≡ pack_demands y →
    pack_reading (with_demands band links y) ≡
    Ok (record { band = band; link_count = length links; links = padded 64 no_link links; demand_count = asked.count; demands = asked.demands })
unfolding with_demands pack_demands pack_reading pack
demands_sound band links (demands_refused w) asked e = absurd (let z : ◌≡◌ {A = ℕ} 0 1 = cc in omega arith)
demands_sound band links (demands_read demands) asked e =
    let same : asked ≡ record { count = length demands; demands = padded 200 empty_demand (map pack_demand demands) } = cc in
    rw same refl

module _ (s : List ℕ) (band : Band) where
  -- a fault of the links is what the rest gives
  pub behind_links_fault : {why : Refusal} → Err why ≡ pack_links (read_links 65 s 8 []) → with_links s band (read_links 65 s 8 []) ≡ refused why
  behind_links_fault fault = links_refused_lem s band (read_links 65 s 8 []) fault

  module _ (found : LinksFound) (sound : Ok found ≡ pack_links (read_links 65 s 8 [])) where
    -- the demands decide
    behind_demands : with_links s band (read_links 65 s 8 []) ≡ with_demands band (take found.count found.links) (read_demands 201 band.slots (take found.count found.links) s found.end [])
    behind_demands = links_sound s band (read_links 65 s 8 []) found sound

    -- a fault of the demands is what the rest gives
    pub behind_demands_fault : {why : Refusal} → Err why ≡ pack_demands (read_demands 201 band.slots (take found.count found.links) s found.end []) →
        with_links s band (read_links 65 s 8 []) ≡ refused why
    behind_demands_fault fault =
        behind_demands ∙
        demands_refused_lem band (take found.count found.links) (read_demands 201 band.slots (take found.count found.links) s found.end []) fault

    -- band, links and demands that are sound make the request
    pub behind_request : (asked : DemandsFound) → Ok asked ≡ pack_demands (read_demands 201 band.slots (take found.count found.links) s found.end []) →
        Ok (record {
          band = band;
          link_count = found.count;
          links = found.links;
          demand_count = asked.count;
          demands = asked.demands;
        }) ≡ pack_reading (with_links s band (read_links 65 s 8 []))
    behind_request asked all =
        let links = take found.count found.links in
        let held = links_held (read_links 65 s 8 []) found sound in
        sym (ap pack_reading behind_demands ∙
        demands_sound band links (read_demands 201 band.slots links s found.end []) asked all ∙
        rw (held.0, held.1))
