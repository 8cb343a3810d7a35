-- The theorems of the grid: a block and its frequency name each other, and each call has one right answer.
use Rattle.std.specs.Prelude.{ℕ, ◌+◌, ◌*◌, ◌%◌, ◌≡◌, Bool, true, ℤ, pos, negsuc, ◌+ℤ◌, ◌-ℤ◌, Result, Ok, Err}
use Rattle.std.proofs.Common.{sym, ◌∙◌, ap, arith, eq-eqb, eqb-true}
use Rattle.std.proofs.Math.IntN.{+ℤ_comm, +ℤ-neg_ℤ_cancel, -ℤ-+ℤ_cancel}
use Rattle.refusal.specs.declared.Refusal.{Refusal}
use Rattle.grid.specs.declared.Band.{Band}
use Rattle.grid.specs.declared.Frequency.{Frequency}
use Rattle.grid.specs.declared.Block.{Block}
use Rattle.grid.specs.Grid.{allowed_band, band_reply, allowed_width, end_within, central_number, central_mhz, frequency_of, frequency_reply, gap_of, even_natural, half_of, block_at, block_reply}
use Rattle.theory.proofs.TestLaws.{by_test}
use Rattle.grid.specs.ReplyLaws.{frequency_outside, frequency_width, frequency_end, frequency_centred, block_outside, block_width, block_gap, at_odd, at_end, at_half}

-- ---- the numbers alone

-- a block's n and m are its width and twice its start away from the lower edge
pub gap_of_block : (n0 : ℤ) (s w : ℕ) → gap_of n0 (central_number n0 s w) w ≡ pos (2 * s)
gap_of_block n0 s w =
    ap (λ (z : ℤ). z -ℤ n0 -ℤ pos w) (+ℤ_comm n0 (pos (2 * s + w))) ∙
    ap (λ (z : ℤ). z -ℤ pos w) (+ℤ-neg_ℤ_cancel (pos (2 * s + w)) n0) ∙
    +ℤ-neg_ℤ_cancel (pos (2 * s)) (pos w)

-- what is even and not negative is twice its half
pub twice_half : (z : ℤ) → even_natural z ≡ true → pos (2 * half_of z) ≡ z
twice_half (pos d) h = ap pos (omega (arith, eqb-true (d % 2) 0 h))
twice_half (negsuc d) h = absurd (let no : ◌≡◌ {A = ℕ} 0 1 = cc in omega arith)

-- the block that starts at half an even gap has the central number that the gap was made of
pub block_of_gap : (n0 n : ℤ) (m : ℕ) → even_natural (gap_of n0 n m) ≡ true → central_number n0 (half_of (gap_of n0 n m)) m ≡ n
block_of_gap n0 n m h =
    ap (λ (z : ℤ). n0 +ℤ (z +ℤ pos m)) (twice_half (gap_of n0 n m) h) ∙
    ap (λ (z : ℤ). n0 +ℤ z) (-ℤ-+ℤ_cancel (n -ℤ n0) (pos m)) ∙
    +ℤ_comm n0 (n -ℤ n0) ∙
    -ℤ-+ℤ_cancel n n0

-- ---- what an accepted call says

-- a block that has a frequency: its band, its width and its end are allowed, and the frequency is the block's
pub record Centres (band : Band) (s w : ℕ) (f : Frequency) : Type 0 where
  pub allowed : allowed_band band ≡ true
  pub width : allowed_width band.slots w ≡ true
  pub end : end_within band.slots s w ≡ true
  pub is : f ≡ frequency_of band.n0 s w

-- a refusal is no frequency
refused_not_centred : {X : Type 0} (r : Refusal) (f : Frequency) → Err r ≡ Ok f → X
refused_not_centred r f h = absurd (let no : ◌≡◌ {A = ℕ} 0 1 = cc in omega arith)

-- a reply that holds a frequency comes of a block that has it
pub centres : (band : Band) (s w : ℕ) (f : Frequency) → frequency_reply band s w ≡ Ok f → Centres band s w f
centres band s w f h =
    by_test (allowed_band band)
    (λ allowed.
    by_test (allowed_width band.slots w)
    (λ width.
    by_test (end_within band.slots s w)
    (λ end. record { allowed = allowed; width = width; end = end; is = cc (frequency_centred band s w allowed width end) })
    (λ end. refused_not_centred _ f (sym (frequency_end band s w allowed width end) ∙ h)))
    (λ width. refused_not_centred _ f (sym (frequency_width band s w allowed width) ∙ h)))
    (λ allowed. refused_not_centred _ f (sym (frequency_outside band s w allowed) ∙ h))

-- two numbers that have a block: the band, the width and the end are allowed, the gap is even and not negative, and the block is that one
pub record Finds (band : Band) (n : ℤ) (m : ℕ) (b : Block) : Type 0 where
  pub allowed : allowed_band band ≡ true
  pub width : allowed_width band.slots m ≡ true
  pub even : even_natural (gap_of band.n0 n m) ≡ true
  pub end : end_within band.slots (half_of (gap_of band.n0 n m)) m ≡ true
  pub is : b ≡ record { start = half_of (gap_of band.n0 n m); width = m }

-- a refusal is no block
refused_not_found : {X : Type 0} (r : Refusal) (b : Block) → Err r ≡ Ok b → X
refused_not_found r b h = absurd (let no : ◌≡◌ {A = ℕ} 0 1 = cc in omega arith)

-- a reply that holds a block comes of two numbers that have it
pub finds : (band : Band) (n : ℤ) (m : ℕ) (b : Block) → block_reply band n m ≡ Ok b → Finds band n m b
finds band n m b h =
    let S = band.slots in
    let gap = gap_of band.n0 n m in
    by_test (allowed_band band)
    (λ allowed.
    by_test (allowed_width S m)
    (λ width.
    let at : block_at S gap m ≡ Ok b = sym (block_gap band n m allowed width) ∙ h in
    by_test (even_natural gap)
    (λ even.
    by_test (end_within S (half_of gap) m)
    (λ end. record { allowed = allowed; width = width; even = even; end = end; is = cc (at_half S gap m even end) })
    (λ end. refused_not_found _ b (sym (at_end S gap m even end) ∙ at)))
    (λ even. refused_not_found _ b (sym (at_odd S gap m even) ∙ at)))
    (λ width. refused_not_found _ b (sym (block_width band n m allowed width) ∙ h)))
    (λ allowed. refused_not_found _ b (sym (block_outside band n m allowed) ∙ h))

-- ---- there and back

-- in an allowed band, the numbers of a block whose width and end are allowed name that block
pub block_names_itself : (band : Band) (s w : ℕ) → allowed_band band ≡ true → allowed_width band.slots w ≡ true → end_within band.slots s w ≡ true → block_reply band (central_number band.n0 s w) w ≡ Ok (record { start = s; width = w })
block_names_itself band s w allowed width end =
    let half : half_of (pos (2 * s)) ≡ s = omega arith in
    block_gap band (central_number band.n0 s w) w allowed width ∙
    ap (λ (gap : ℤ). block_at band.slots gap w) (gap_of_block band.n0 s w) ∙
    at_half band.slots (pos (2 * s)) w (eq-eqb (2 * s % 2) 0 (omega arith)) (ap (λ (h : ℕ). end_within band.slots h w) half ∙ end) ∙
    ap (λ (h : ℕ). Ok (record { start = h; width = w })) half

-- a block turned into its frequency and back is the same block
pub block_and_back : (band : Band) (s w : ℕ) (f : Frequency) → frequency_reply band s w ≡ Ok f → block_reply band f.n f.m ≡ Ok (record { start = s; width = w })
block_and_back band s w f h =
    let c = centres band s w f h in
    ap (λ (g : Frequency). block_reply band g.n g.m) c.is ∙
    block_names_itself band s w c.allowed c.width c.end

-- two numbers turned into their block and back are the same numbers
pub numbers_and_back : (band : Band) (n : ℤ) (m : ℕ) (b : Block) → block_reply band n m ≡ Ok b → frequency_reply band b.start b.width ≡ Ok (record { n = n; m = m; mhz = central_mhz n })
numbers_and_back band n m b h =
    let f = finds band n m b h in
    ap (λ (k : Block). frequency_reply band k.start k.width) f.is ∙
    frequency_centred band (half_of (gap_of band.n0 n m)) m f.allowed f.width f.end ∙
    ap (λ (k : ℤ). Ok (record { n = k; m = m; mhz = central_mhz k })) (block_of_gap band.n0 n m f.even)

-- ---- each call has one right answer: two results that meet its contract are equal

-- of `Band::new`
pub same_band : (n0 : ℤ) (S G : ℕ) (r r' : Result Band Refusal) → r ≡ band_reply n0 S G → r' ≡ band_reply n0 S G → r ≡ r'
same_band n0 S G r r' h k = h ∙ sym k

-- of `Band::allowed`
pub same_allowed : (band : Band) (r r' : Bool) → r ≡ allowed_band band → r' ≡ allowed_band band → r ≡ r'
same_allowed band r r' h k = h ∙ sym k

-- of `to_frequency`
pub same_frequency : (band : Band) (s w : ℕ) (r r' : Result Frequency Refusal) → r ≡ frequency_reply band s w → r' ≡ frequency_reply band s w → r ≡ r'
same_frequency band s w r r' h k = h ∙ sym k

-- of `from_frequency`
pub same_block : (band : Band) (n : ℤ) (m : ℕ) (r r' : Result Block Refusal) → r ≡ block_reply band n m → r' ≡ block_reply band n m → r ≡ r'
same_block band n m r r' h k = h ∙ sym k

-- of `width_allowed`
pub same_width : (S w : ℕ) (r r' : Bool) → r ≡ allowed_width S w → r' ≡ allowed_width S w → r ≡ r'
same_width S w r r' h k = h ∙ sym k

-- of `end_within`
pub same_end : (S s w : ℕ) (r r' : Bool) → r ≡ end_within S s w → r' ≡ end_within S s w → r ≡ r'
same_end S s w r r' h k = h ∙ sym k
