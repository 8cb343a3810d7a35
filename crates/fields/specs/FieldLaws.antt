-- The checks of a field, fault by fault, and what a sound field says.
use Rattle.refusal.specs.declared.Refusal.{Refusal}
use Rattle.std.specs.Prelude.{ℕ, suc, ◌+◌, ◌-◌, ◌/◌, ◌%◌, ◌≤◌, ◌<◌, ◌≡◌, ◌&&◌, List, [], ◌∷◌, length, get_or, drop, eqb, Result, Ok, Err}
use Rattle.std.proofs.Common.{sym, ap, ◌∙◌, arith, length-drop, get_or-drop}
use Rattle.std.proofs.Math.Bool.{true}
use borrow.Author.Tests.{leb-true, eqb-true, le-leb, lt-leb, eq-eqb, ne_eqb}
use Rattle.std.proofs.Math.Dec.{leb}
use Rattle.refusal.specs.declared.Refusal.TheVariants.{PastEnd, WrongTag, WrongLength}
use Rattle.theory.proofs.TestLaws.{and_first, and_second}
use Rattle.std.specs.Int.{w16, to_be_bytes}
use Rattle.request.specs.Encoding.{two_bytes}
use Rattle.request.specs.Check.{then, must}
use Rattle.request.proofs.CheckLaws.{first_sound, next_sound, test_held}
use Rattle.fields.specs.Field.{number16, body_length, field_end, check_field}
use Rattle.fields.specs.inner.Holds.{FieldHolds}

module _ (s : List ℕ) (at tag least most : ℕ) where
  -- 1: a field that runs past the end
  pub field_past : length s < at + 3 + number16 s (at + 1) → check_field s at tag least most ≡ Err (PastEnd at)
  unfolding check_field then must field_end body_length
  field_past past = rw (lt-leb (at + 3 + number16 s (at + 1)) (length s) past)

  -- 2: a whole field of another tag
  pub field_other : at + 3 + number16 s (at + 1) ≤ length s → (get_or s at 0 ≡ tag → ⊥) → check_field s at tag least most ≡ Err (WrongTag at)
  unfolding check_field then must field_end body_length
  field_other within other =
      rw (le-leb (at + 3 + number16 s (at + 1)) (length s) within, ne_eqb (get_or s at 0) tag other)

  -- 3: a field of this tag that is too short
  pub field_short : at + 3 + number16 s (at + 1) ≤ length s → get_or s at 0 ≡ tag → number16 s (at + 1) < least → check_field s at tag least most ≡ Err (WrongLength at)
  unfolding check_field then must field_end body_length
  field_short within tagged short =
      rw (le-leb (at + 3 + number16 s (at + 1)) (length s) within, eq-eqb (get_or s at 0) tag tagged, lt-leb least (number16 s (at + 1)) short)

  -- 3: a field of this tag that is too long
  pub field_long : at + 3 + number16 s (at + 1) ≤ length s → get_or s at 0 ≡ tag → least ≤ number16 s (at + 1) → most < number16 s (at + 1) → check_field s at tag least most ≡ Err (WrongLength at)
  unfolding check_field then must field_end body_length
  field_long within tagged enough long =
      rw (le-leb (at + 3 + number16 s (at + 1)) (length s) within, eq-eqb (get_or s at 0) tag tagged, le-leb least (number16 s (at + 1)) enough, lt-leb (number16 s (at + 1)) most long)

  -- a field with none of these faults is sound
  pub field_sound : FieldHolds s at tag least most → check_field s at tag least most ≡ Ok tt
  unfolding check_field then must field_end body_length
  field_sound h =
      rw (le-leb (at + 3 + number16 s (at + 1)) (length s) h.within, eq-eqb (get_or s at 0) tag h.tagged, le-leb least (number16 s (at + 1)) h.long_enough, le-leb (number16 s (at + 1)) most h.short_enough)

  -- a sound field has none of them
  pub field_holds : check_field s at tag least most ≡ Ok tt → FieldHolds s at tag least most
  unfolding check_field field_end body_length
  field_holds sound =
      let rest = next_sound (must (leb (at + 3 + number16 s (at + 1)) (length s)) (PastEnd at)) _ sound in
      let lengths : leb least (number16 s (at + 1)) && leb (number16 s (at + 1)) most ≡ true
      = test_held _ (WrongLength at) (next_sound (must (eqb (get_or s at 0) tag) (WrongTag at)) _ rest) in
      record {
        within = leb-true _ _ (test_held _ (PastEnd at) (first_sound _ _ sound));
        tagged = eqb-true _ _ (test_held _ (WrongTag at) (first_sound _ _ rest));
        long_enough = leb-true _ _ (and_first _ (leb (number16 s (at + 1)) most) lengths);
        short_enough = leb-true _ _ (and_second (leb least (number16 s (at + 1))) _ lengths);
      }

-- a sound field ends within the file
pub field_within : (s : List ℕ) (at : ℕ) {tag least most : ℕ} → FieldHolds s at tag least most → field_end s at ≤ length s
unfolding field_end body_length
field_within s at h = h.within

-- a byte of what stands from an offset on
pub byte_at : (s : List ℕ) (at : ℕ) (xs : List ℕ) → drop at s ≡ xs → (place i : ℕ) → place ≡ at + i → get_or s place 0 ≡ get_or xs i 0
byte_at s at xs e place i here = ap (λ (n : ℕ). get_or s n 0) here ∙ sym (get_or-drop at s i 0) ∙ ap (λ (l : List ℕ). get_or l i 0) e

-- what stands from an offset on is as long as what is left
pub left_over : (s : List ℕ) (at : ℕ) (xs : List ℕ) → drop at s ≡ xs → length s - at ≡ length xs
left_over s at xs e = sym (length-drop at s) ∙ ap length e

-- the number of two bytes that stand at an offset
pub number_at : (s : List ℕ) (at : ℕ) (n : ℕ) (xs : List ℕ) (i place : ℕ) → drop at s ≡ xs → n < 65536 → place ≡ at + i →
    get_or xs i 0 ≡ n / 256 → get_or xs (suc i) 0 ≡ n % 256 → number16 s place ≡ n
unfolding number16
number_at s at n xs i place e fits here high low =
    let one = byte_at s at xs e place i here ∙ high in
    let two = byte_at s at xs e (place + 1) (suc i) (rw here (omega arith)) ∙ low in
    omega arith

-- two results of the test of a field are equal
pub same_field : (s : List ℕ) (at tag least most : ℕ) (a b : Result Unit Refusal) → a ≡ check_field s at tag least most → b ≡ check_field s at tag least most → a ≡ b
same_field s at tag least most a b ha hb = ha ∙ sym hb

-- two numbers read at an offset are equal
pub same_number : (s : List ℕ) (at a b : ℕ) → a ≡ number16 s at → b ≡ number16 s at → a ≡ b
same_number s at a b ha hb = ha ∙ sym hb

-- a number's two bytes as the machine has them
pub number_bytes : (n : ℕ) → n < 65536 → to_be_bytes w16 n ≡ two_bytes n
unfolding two_bytes
number_bytes n h = let high : n / 256 % 256 ≡ n / 256 = omega arith in ap (λ (b : ℕ). b ∷ n % 256 ∷ []) high
