-- The frequency grid: which bands are allowed, where a block of slots stands on the grid, and which block has given grid numbers.
-- The names are those of the rules: n0 is the band's lower edge, S its slot count, G its guard; a block has a start s and a width w;
-- n is its central number and m its width number.
use Rattle.grid.specs.declared.Block.{Block}
use Rattle.refusal.specs.declared.Refusal.{Refusal}
use Rattle.std.specs.Prelude.{ℕ, ◌+◌, ◌*◌, ◌/◌, ◌%◌, Bool, true, false, ◌&&◌, leb, eqb, ℤ, pos, negsuc, neg_ℤ, ◌+ℤ◌, ◌-ℤ◌, ◌*ℤ◌, Result, Ok, Err}
use Rattle.std.specs.Int.Signed.{le_z}
use Rattle.refusal.specs.declared.Refusal.TheVariants.{BandOutside, BadWidth, EndAbove, NoBlock}
use Rattle.grid.specs.declared.Band.{Band}
use Rattle.grid.specs.declared.Frequency.{Frequency}

-- unless the test holds, the refusal; where it holds, the rest
module _ {A : Type 0} where
  abbrev pub unless : Bool → A → A → A
  unless true refusal rest = rest
  unless false refusal rest = refusal

-- ---- the band

-- a lower edge n0 is allowed from -400 to 400
abbrev pub allowed_edge : ℤ → Bool
allowed_edge n0 = le_z (neg_ℤ (pos 400)) n0 && le_z n0 (pos 400)

-- a slot count S is allowed from 1 to 384
abbrev pub allowed_slots : ℕ → Bool
allowed_slots S = leb 1 S && leb S 384

-- a guard G is allowed from 0 to 8
abbrev pub allowed_guard : ℕ → Bool
allowed_guard G = leb G 8

-- a band is allowed when its three numbers are
abbrev pub allowed_band : Band → Bool
allowed_band band = allowed_edge band.n0 && (allowed_slots band.slots && allowed_guard band.guard)

-- the band of three numbers, or refusal 4 at place 0
abbrev pub band_reply : ℤ → ℕ → ℕ → Result Band Refusal
band_reply n0 S G =
    unless (allowed_band (record { n0 = n0; slots = S; guard = G })) (Err (BandOutside 0))
    (Ok (record { n0 = n0; slots = S; guard = G }))

-- ---- from a block to its frequency

-- a width w is allowed from 1 to S
abbrev pub allowed_width : ℕ → ℕ → Bool
allowed_width S w = leb 1 w && leb w S

-- an end s + w is allowed up to S
abbrev pub end_within : ℕ → ℕ → ℕ → Bool
end_within S s w = leb (s + w) S

-- the central number: n = n0 + 2 s + w
abbrev pub central_number : ℤ → ℕ → ℕ → ℤ
central_number n0 s w = n0 +ℤ pos (2 * s + w)

-- the central frequency in MHz: 193,100,000 + 6,250 n
abbrev pub central_mhz : ℤ → ℤ
central_mhz n = pos 193100000 +ℤ pos 6250 *ℤ n

-- where a block stands: its n, its m, which is w, and its central frequency
abbrev pub frequency_of : ℤ → ℕ → ℕ → Frequency
frequency_of n0 s w =
    record { n = central_number n0 s w; m = w; mhz = central_mhz (central_number n0 s w) }

-- a block's frequency; or refusal 4, then 9, then 17 for an end s + w above S, each at place 0
unfoldable pub frequency_reply : Band → ℕ → ℕ → Result Frequency Refusal
frequency_reply band s w =
    unless (allowed_band band) (Err (BandOutside 0))
    (unless (allowed_width band.slots w) (Err (BadWidth 0))
    (unless (end_within band.slots s w) (Err (EndAbove 0))
    (Ok (frequency_of band.n0 s w))))

-- ---- and back

-- n - n0 - m, which is twice the start of a block that has n and m
abbrev pub gap_of : ℤ → ℤ → ℕ → ℤ
gap_of n0 n m = n -ℤ n0 -ℤ pos m

-- whether a number is even and not negative
abbrev pub even_natural : ℤ → Bool
even_natural (pos d) = eqb (d % 2) 0
even_natural (negsuc d) = false

-- half of such a number
abbrev pub half_of : ℤ → ℕ
half_of (pos d) = d / 2
half_of (negsuc d) = 0

-- the block that starts at half of n - n0 - m; or refusal 19 at place 0 where that is odd or negative, or the end is above S
unfoldable pub block_at : ℕ → ℤ → ℕ → Result Block Refusal
block_at S gap m =
    unless (even_natural gap && end_within S (half_of gap) m) (Err (NoBlock 0))
    (Ok (record { start = half_of gap; width = m }))

-- the block that has n and m; or refusal 4, then 19 also for a width m that is not allowed, each at place 0
unfoldable pub block_reply : Band → ℤ → ℕ → Result Block Refusal
block_reply band n m =
    unless (allowed_band band) (Err (BandOutside 0))
    (unless (allowed_width band.slots m) (Err (NoBlock 0))
    (block_at band.slots (gap_of band.n0 n m) m))
