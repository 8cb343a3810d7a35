-- One field: what is read is what was written, and what was written is what is read.
use Rattle.std.specs.Prelude.{ℕ, suc, ◌+◌, ◌-◌, ◌*◌, ◌/◌, ◌%◌, ◌≤◌, ◌<◌, List, [], ◌∷◌, ◌++◌, ◌≡◌, refl, length, get_or, take, drop}
use Rattle.std.proofs.Common.{sym, ap, ◌∙◌, arith, add-one, length-drop, length-append, take-append-drop, drop-cons, drop-drop, take_at, drop_at, length-take-le, SFits}
use Rattle.std.specs.Int.{w16}
use Rattle.grid.specs.declared.Band.{Band}
use Rattle.request.specs.declared.Link.{Link}
use Rattle.request.specs.View.{DemandView}
use Rattle.request.specs.Encoding.{two_bytes, bits16, field, band_field, link_field, tag_of, number_asked, demand_field}
use Rattle.fields.specs.Field.{number16, body_length}
use Rattle.reading.specs.Reading.{band_in, link_in, demand_tag, demand_in}
use Rattle.request.proofs.SignedLaws.{signed_of_bits, bits_of_signed, bits_fit}
use Rattle.fields.specs.inner.Holds.{FieldHolds}
use Rattle.reading.specs.inner.Fields.{BandThere, LinkThere, DemandThere}
use Rattle.request.specs.RoundTrip.{Bytes}
use Rattle.fields.specs.FieldLaws.{left_over, number_at, byte_at}
use Rattle.reading.specs.AskedLaws.{asked_back, asked_tag, asked_number, tag_stands}

-- a link's field that follows an offset stands there
pub link_there : (s : List ℕ) (at : ℕ) (l : Link) (rest : List ℕ) → at ≤ length s → drop at s ≡ link_field l ++ rest → LinkThere s at l rest
unfolding link_field field two_bytes link_in
link_there s at l rest within e =
    let bytes : List ℕ = 2 ∷ 0 ∷ 2 ∷ l.from ∷ l.to ∷ rest in
    let size : length s - at ≡ suc (suc (suc (suc (suc (length rest))))) = left_over s at bytes e in
    let two : number16 s (at + 1) ≡ 2 = number_at s at 2 bytes 1 (at + 1) e (omega arith) refl refl refl in
    record {
      sound_field = record { within = omega arith; tagged = byte_at s at bytes e at 0 (omega arith); long_enough = omega arith; short_enough = omega arith };
      same = rw (byte_at s at bytes e (at + 3) 3 refl, byte_at s at bytes e (at + 4) 4 refl);
      behind = sym (drop-drop 5 at s) ∙ ap (drop 5) e;
    }

-- the byte at an offset, and what follows it
here : (s : List ℕ) (at : ℕ) → at < length s → drop at s ≡ get_or s at 0 ∷ drop (at + 1) s
here s at more = rw (add-one at) (drop-cons s at 0 more)

onward : (s : List ℕ) (at i : ℕ) → at + i < length s → drop (at + i) s ≡ get_or s (at + i) 0 ∷ drop (at + suc i) s
onward s at i more = let next : at + suc i ≡ suc (at + i) = omega arith in rw next (drop-cons s (at + i) 0 more)

-- the two bytes of a number
pair_at : (s : List ℕ) (at i : ℕ) → number16 s (at + i) ≡ 256 * get_or s (at + i) 0 + get_or s (at + suc i) 0
unfolding number16
pair_at s at i = let next : at + i + 1 ≡ at + suc i = omega arith in rw next

-- a sound link's field is the field of the link that is read from it
pub link_written : (s : List ℕ) (at : ℕ) → FieldHolds s at 2 2 2 → drop at s ≡ link_field (link_in s at) ++ drop (at + 5) s
unfolding link_field field two_bytes link_in
link_written s at h =
    let high : get_or s (at + 1) 0 ≡ 0 = omega (arith, pair_at s at 1) in
    let low : get_or s (at + 2) 0 ≡ 2 = omega (arith, pair_at s at 1) in
    rw (here s at (omega arith), onward s at 1 (omega arith), onward s at 2 (omega arith), onward s at 3 (omega arith), onward s at 4 (omega arith), h.tagged, high, low)

-- a demand's field that follows an offset stands there, if its numbers are in range
pub demand_there : (s : List ℕ) (at : ℕ) (d : DemandView) (rest : List ℕ) → at ≤ length s → drop at s ≡ demand_field d ++ rest →
    d.ident < 65536 → number_asked d.asked < 65536 → length d.route ≡ d.hops → 1 ≤ d.hops → d.hops ≤ 32 → DemandThere s at d rest
unfolding demand_field field two_bytes demand_in body_length
demand_there s at d rest within e ident fits counted some few =
    let tag = tag_of d.asked in
    let number = number_asked d.asked in
    let n = length d.route in
    let body = suc (suc (suc (suc n))) in
    let bytes : List ℕ = tag ∷ body / 256 ∷ body % 256 ∷ d.ident / 256 ∷ d.ident % 256 ∷ number / 256 ∷ number % 256 ∷ (d.route ++ rest) in
    let size : length s - at ≡ suc (suc (suc (suc (suc (suc (suc (length (d.route ++ rest)))))))) = left_over s at bytes e in
    let total = length-append d.route rest in
    let long : number16 s (at + 1) ≡ body = number_at s at body bytes 1 (at + 1) e (omega arith) refl refl refl in
    let hops : number16 s (at + 1) - 4 ≡ d.hops = omega arith in
    let tagged : get_or s at 0 ≡ tag = byte_at s at bytes e at 0 (omega arith) in
    let behind-seven : drop (at + 7) s ≡ d.route ++ rest = sym (drop-drop 7 at s) ∙ ap (drop 7) e in
    record {
      sound_field = record { within = omega arith; tagged = tag_stands s at d.asked tagged; long_enough = omega arith; short_enough = omega arith };
      same =
          rw (number_at s at d.ident bytes 3 (at + 3) e ident refl refl refl, number_at s at number bytes 5 (at + 5) e fits refl refl refl, tagged, asked_back d.asked, hops, behind-seven, take_at d.route rest d.hops counted);
      end_within = omega arith;
      behind = sym (drop-drop d.hops (at + 7) s) ∙ ap (drop d.hops) behind-seven ∙ drop_at d.route rest d.hops counted;
    }

-- the two bytes of a number that was read are those that stand there
high_byte : (s : List ℕ) (at i : ℕ) → Bytes s → number16 s (at + i) / 256 ≡ get_or s (at + i) 0
high_byte s at i bytes = let low = bytes.each (at + suc i) in omega (arith, pair_at s at i)

low_byte : (s : List ℕ) (at i : ℕ) → Bytes s → number16 s (at + i) % 256 ≡ get_or s (at + suc i) 0
low_byte s at i bytes = let low = bytes.each (at + suc i) in omega (arith, pair_at s at i)

-- a sound demand's field is the field of the demand that is read from it
pub demand_written : (s : List ℕ) (at : ℕ) → Bytes s → FieldHolds s at (demand_tag s at) 5 36 → drop at s ≡ demand_field (demand_in s at) ++ drop (at + 7 + (demand_in s at).hops) s
unfolding demand_field field two_bytes demand_in body_length
demand_written s at bytes h =
    let hops = number16 s (at + 1) - 4 in
    let route = take hops (drop (at + 7) s) in
    let counted : length route ≡ hops = length-take-le hops (drop (at + 7) s) (rw (length-drop (at + 7) s) (omega arith)) in
    let body : suc (suc (suc (suc (length route)))) ≡ number16 s (at + 1) = omega arith in
    let tail : route ++ drop (at + 7 + hops) s ≡ drop (at + 7) s
    = ap (λ (r : List ℕ). route ++ r) (sym (drop-drop hops (at + 7) s)) ∙ take-append-drop hops (drop (at + 7) s) in
    let number = number16 s (at + 5) in
    rw (asked_tag s at number h.tagged, asked_number (get_or s at 0) number, body, tail, high_byte s at 1 bytes, low_byte s at 1 bytes, high_byte s at 3 bytes, low_byte s at 3 bytes, high_byte s at 5 bytes, low_byte s at 5 bytes, here s at (omega arith), onward s at 1 (omega arith), onward s at 2 (omega arith), onward s at 3 (omega arith), onward s at 4 (omega arith), onward s at 5 (omega arith), onward s at 6 (omega arith))

-- the band's field at the front of a file stands there, if its numbers are in range
pub band_there : (s : List ℕ) (b : Band) (rest : List ℕ) → s ≡ band_field b ++ rest → SFits w16 b.n0 → b.slots < 65536 → BandThere s b rest
unfolding band_field field two_bytes band_in
band_there s b rest e edge slots =
    let bytes : List ℕ = 1 ∷ 0 ∷ 5 ∷ bits16 b.n0 / 256 ∷ bits16 b.n0 % 256 ∷ b.slots / 256 ∷ b.slots % 256 ∷ b.guard ∷ rest in
    let size : length s - 0 ≡ suc (suc (suc (suc (suc (suc (suc (suc (length rest)))))))) = left_over s 0 bytes e in
    let five : number16 s 1 ≡ 5 = number_at s 0 5 bytes 1 1 e (omega arith) refl refl refl in
    record {
      sound_field = record { within = omega arith; tagged = byte_at s 0 bytes e 0 0 refl; long_enough = omega arith; short_enough = omega arith };
      same =
          rw (number_at s 0 (bits16 b.n0) bytes 3 3 e (bits_fit b.n0 edge) refl refl refl, number_at s 0 b.slots bytes 5 5 e slots refl refl refl, byte_at s 0 bytes e 7 7 refl, signed_of_bits b.n0 edge);
      behind = ap (drop 8) e;
    }

-- the first eight bytes of a file, and what follows them
first_eight : (s : List ℕ) → 8 ≤ length s →
    s ≡ get_or s 0 0 ∷ get_or s 1 0 ∷ get_or s 2 0 ∷ get_or s 3 0 ∷ get_or s 4 0 ∷ get_or s 5 0 ∷ get_or s 6 0 ∷ get_or s 7 0 ∷ drop 8 s
first_eight [] long = absurd (omega arith)
first_eight (a ∷ []) long = absurd (omega arith)
first_eight (a ∷ b ∷ []) long = absurd (omega arith)
first_eight (a ∷ b ∷ c ∷ []) long = absurd (omega arith)
first_eight (a ∷ b ∷ c ∷ d ∷ []) long = absurd (omega arith)
first_eight (a ∷ b ∷ c ∷ d ∷ e ∷ []) long = absurd (omega arith)
first_eight (a ∷ b ∷ c ∷ d ∷ e ∷ f ∷ []) long = absurd (omega arith)
first_eight (a ∷ b ∷ c ∷ d ∷ e ∷ f ∷ g ∷ []) long = absurd (omega arith)
first_eight (a ∷ b ∷ c ∷ d ∷ e ∷ f ∷ g ∷ h ∷ rest) long = refl

-- a sound band field is the field of the band that is read from it
pub band_written : (s : List ℕ) → Bytes s → FieldHolds s 0 1 5 5 → s ≡ band_field (band_in s) ++ drop 8 s
unfolding band_field field two_bytes band_in
band_written s bytes h =
    let high : get_or s 1 0 ≡ 0 = omega (arith, pair_at s 0 1) in
    let low : get_or s 2 0 ≡ 5 = omega (arith, pair_at s 0 1) in
    let fits : number16 s 3 < 65536 = omega (arith, pair_at s 0 3, bytes.each 3, bytes.each 4) in
    first_eight s (omega arith) ∙
    rw (h.tagged, high, low, bits_of_signed (number16 s 3) fits, high_byte s 0 3 bytes, low_byte s 0 3 bytes, high_byte s 0 5 bytes, low_byte s 0 5 bytes)
