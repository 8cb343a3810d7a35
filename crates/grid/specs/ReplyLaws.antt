-- Laws of tests as the code meets them, and laws of the replies, one for each way a reply can go.
use Rattle.std.specs.Prelude.{ℕ, ◌+◌, ◌-◌, ◌≤◌, ◌≡◌, refl, Bool, true, false, not, ◌&&◌, leb, ℤ, Ok, Err}
use Rattle.std.proofs.Common.{sym, ◌∙◌, arith, leb-true, leb-false, le-leb}
use Rattle.std.proofs.lemmas.Bool.{lt-leb, not-true, not-false}
use Rattle.refusal.specs.declared.Refusal.TheVariants.{BandOutside, BadWidth, EndAbove, NoBlock}
use Rattle.theory.proofs.TestLaws.{by_test}
use Rattle.grid.specs.declared.Band.{Band}
use Rattle.grid.specs.Grid.{allowed_band, band_reply, allowed_width, end_within, frequency_of, frequency_reply, gap_of, even_natural, half_of, block_at, block_reply}

-- ---- tests

-- where the first test holds, both hold when the second does
pub both_if : (a b : Bool) → a ≡ true → b ≡ a && b
both_if true b h = refl
both_if false b h = absurd (let no : ◌≡◌ {A = ℕ} 0 1 = cc in omega arith)

-- where the first test fails, both do
pub not_both : (a b : Bool) → a ≡ false → false ≡ a && b
not_both true b h = absurd (let no : ◌≡◌ {A = ℕ} 0 1 = cc in omega arith)
not_both false b h = refl

-- what a test was found to be holds, where its refusal was passed by
pub passed_by : {found b : Bool} → found ≡ b → not found ≡ false → b ≡ true
passed_by h k = sym h ∙ not-false _ k

-- and fails, where its refusal was given
pub refused_by : {found b : Bool} → found ≡ b → not found ≡ true → b ≡ false
refused_by h k = sym h ∙ not-true _ k

-- ---- replies

-- a band whose numbers are within their limits is answered
pub band_allowed : (n0 : ℤ) (S G : ℕ) → allowed_band (record { n0 = n0; slots = S; guard = G }) ≡ true → band_reply n0 S G ≡ Ok (record { n0 = n0; slots = S; guard = G })
band_allowed n0 S G h = rw h

-- a band with a number outside its limits is refused with 4
pub band_outside : (n0 : ℤ) (S G : ℕ) → allowed_band (record { n0 = n0; slots = S; guard = G }) ≡ false → band_reply n0 S G ≡ Err (BandOutside 0)
band_outside n0 S G h = rw h

module _ (band : Band) (s w : ℕ) where
  -- a band outside its limits: 4
  pub frequency_outside : allowed_band band ≡ false → frequency_reply band s w ≡ Err (BandOutside 0)
  unfolding frequency_reply
  frequency_outside h = rw h

  -- in an allowed band, a width that is none: 9
  pub frequency_width : allowed_band band ≡ true → allowed_width band.slots w ≡ false → frequency_reply band s w ≡ Err (BadWidth 0)
  unfolding frequency_reply
  frequency_width h k = rw (h, k)

  -- then an end above the slot count: 17
  pub frequency_end : allowed_band band ≡ true → allowed_width band.slots w ≡ true → end_within band.slots s w ≡ false → frequency_reply band s w ≡ Err (EndAbove 0)
  unfolding frequency_reply
  frequency_end h k l = rw (h, k, l)

  -- every other block has its frequency
  pub frequency_centred : allowed_band band ≡ true → allowed_width band.slots w ≡ true → end_within band.slots s w ≡ true → frequency_reply band s w ≡ Ok (frequency_of band.n0 s w)
  unfolding frequency_reply
  frequency_centred h k l = rw (h, k, l)

-- a width w within S: an end is within S when the start is within what w leaves of S
pub room_left : (S s w : ℕ) → w ≤ S → leb s (S - w) ≡ end_within S s w
room_left S s w h =
    by_test (leb s (S - w))
    (λ fits. fits ∙ sym (le-leb (s + w) S (omega (arith, leb-true s (S - w) fits))))
    (λ not-fits. not-fits ∙ sym (lt-leb (s + w) S (omega (arith, leb-false s (S - w) not-fits))))

module _ (S : ℕ) (gap : ℤ) (m : ℕ) where
  -- a gap that is odd or negative: 19
  pub at_odd : even_natural gap ≡ false → block_at S gap m ≡ Err (NoBlock 0)
  unfolding block_at
  at_odd h = rw h

  -- then an end above the slot count: 19
  pub at_end : even_natural gap ≡ true → end_within S (half_of gap) m ≡ false → block_at S gap m ≡ Err (NoBlock 0)
  unfolding block_at
  at_end h k = rw (h, k)

  -- every other gap has its block
  pub at_half : even_natural gap ≡ true → end_within S (half_of gap) m ≡ true → block_at S gap m ≡ Ok (record { start = half_of gap; width = m })
  unfolding block_at
  at_half h k = rw (h, k)

module _ (band : Band) (n : ℤ) (m : ℕ) where
  -- a band outside its limits: 4
  pub block_outside : allowed_band band ≡ false → block_reply band n m ≡ Err (BandOutside 0)
  unfolding block_reply
  block_outside h = rw h

  -- in an allowed band, a width number that is none: 19
  pub block_width : allowed_band band ≡ true → allowed_width band.slots m ≡ false → block_reply band n m ≡ Err (NoBlock 0)
  unfolding block_reply
  block_width h k = rw (h, k)

  -- for every other width number the gap decides
  pub block_gap : allowed_band band ≡ true → allowed_width band.slots m ≡ true → block_reply band n m ≡ block_at band.slots (gap_of band.n0 n m) m
  unfolding block_reply
  block_gap h k = rw (h, k)
