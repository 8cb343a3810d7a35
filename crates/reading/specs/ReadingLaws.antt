-- The checks of a field, fault by fault, and what a sound field says.
use Rattle.std.specs.Prelude.{ℕ, ◌≤◌, ◌<◌, ◌≡◌, true, false, List, length, get_or, ltb, ℤ, Ok, Err}
use Rattle.std.specs.Prelude.{Result}
use Rattle.std.proofs.Common.{sym, ◌∙◌, arith, lt-ltb}
use Rattle.refusal.specs.declared.Refusal.{Refusal}
use Rattle.refusal.specs.declared.Refusal.TheVariants.{WrongTag, BandOutside}
use Rattle.grid.specs.Grid.{allowed_band, band_reply}
use Rattle.theory.proofs.TestLaws.{by_test}
use Rattle.request.specs.Encoding.{signed16}
use Rattle.fields.specs.Field.{number16, check_field}
use Rattle.request.specs.declared.Request.{Request}
use Rattle.reading.specs.FilePacking.{pack_reading}
use Rattle.reading.specs.inner.PartsPacking.{band_read}
use Rattle.request.specs.Check.{then, must}
use Rattle.reading.specs.Reading.{band_in, check_band_field, read_file}
use Rattle.request.proofs.CheckLaws.{first_sound, next_sound, test_held}
use Rattle.fields.specs.inner.Holds.{FieldHolds}
use Rattle.fields.specs.FieldLaws.{field_holds}

-- a file's first field: 2 where there is none
pub band_missing : (s : List ℕ) → length s ≡ 0 → Err (WrongTag 0) ≡ band_read (check_band_field s) (band_in s)
unfolding check_band_field then must band_read
band_missing s none = rw none

module _ (s : List ℕ) (some : 0 < length s) where
  -- the faults that every field may have
  pub band_fault : {why : Refusal} → Err why ≡ check_field s 0 1 5 5 → Err why ≡ band_read (check_band_field s) (band_in s)
  unfolding check_band_field then must band_read
  band_fault fault = rw (lt-ltb 0 (length s) some, ← fault)

  -- a sound field: the band is made of its numbers, or it is 4
  pub band_made : Ok tt ≡ check_field s 0 1 5 5 → {n0 : ℤ} {slots : ℕ} → n0 ≡ signed16 (number16 s 3) → slots ≡ number16 s 5 →
      band_reply n0 slots (get_or s 7 0) ≡ band_read (check_band_field s) (band_in s)
  unfolding check_band_field then must band_read band_in
  band_made sound edge some-slots =
      rw (edge, some-slots)
      (by_test (allowed_band (band_in s))
      (λ (yes : allowed_band (band_in s) ≡ true). rw (lt-ltb 0 (length s) some, ← sound, yes))
      (λ (no : allowed_band (band_in s) ≡ false). rw (lt-ltb 0 (length s) some, ← sound, no)))

-- a sound field with allowed numbers
pub band_sound : (s : List ℕ) → 0 < length s → Ok tt ≡ check_field s 0 1 5 5 → allowed_band (band_in s) ≡ true → Ok tt ≡ check_band_field s
unfolding check_band_field then must
band_sound s some sound allowed = rw (lt-ltb 0 (length s) some, ← sound, allowed)

-- a sound band field is a whole field of 5 bytes, and its numbers are allowed
pub band_holds : (s : List ℕ) → check_band_field s ≡ Ok tt → FieldHolds s 0 1 5 5 × (allowed_band (band_in s) ≡ true)
unfolding check_band_field
band_holds s sound =
    let rest = next_sound (must (ltb 0 (length s)) (WrongTag (length s))) _ sound in (
      field_holds s 0 1 5 5 (first_sound (check_field s 0 1 5 5) _ rest),
      test_held (allowed_band (band_in s)) (BandOutside 0) (next_sound (check_field s 0 1 5 5) _ rest),
    )

-- so the file has at least 8 bytes
pub band_long : (s : List ℕ) → check_band_field s ≡ Ok tt → 8 ≤ length s
band_long s sound = let field = (band_holds s sound).0 in omega arith

-- two readings of a file are equal
pub same_reading : (s : List ℕ) (a b : Result Request Refusal) → a ≡ pack_reading (read_file s) → b ≡ pack_reading (read_file s) → a ≡ b
same_reading s a b ha hb = ha ∙ sym hb
