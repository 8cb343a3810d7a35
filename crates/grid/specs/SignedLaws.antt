-- That the grid's signed numbers fit the types that hold them, and are read back as they were written.
-- `mag z` is n both for n and for -(n + 1), so a signed number fits its width when its `mag` is below half the width's power.
use Rattle.std.specs.Prelude.{ℕ, zero, suc, ◌+◌, ◌-◌, ◌*◌, ◌/◌, ◌≤◌, ◌<◌, ◌≡◌, refl, Bool, true, false, cond, T, ltb, leb, eqb, ℤ, pos, negsuc, neg_ℤ, ◌+ℤ◌, ◌-ℤ◌, ◌*ℤ◌}
use Rattle.std.proofs.Common.{arith, ltb-true, to_z-of_z}
use Rattle.std.specs.Int.{Width, w16, w32, w64}
use mir.Val.{Fits, SFits, to_z, of_z, hbits}
use Rattle.std.proofs.Math.Facts.{to_z_pos, sfits_widen}
use Rattle.std.proofs.Math.IntN.{sub_ℕ}
use Rattle.std.specs.Int.Signed.{mag, quot_z, rem_z, lt_z}
use Rattle.grid.specs.Grid.{central_mhz, gap_of, even_natural, half_of}

-- ---- sizes

-- either way a test goes, the size is at most that of the larger case
mag_either : (b : Bool) (x y z : ℕ) → x ≤ z → y ≤ z → mag (cond b (negsuc x) (pos y)) ≤ z
mag_either true x y z h k = h
mag_either false x y z h k = k

-- the difference of two naturals is no larger than their sum
mag_apart : (a b : ℕ) → mag (sub_ℕ a b) ≤ a + b
mag_apart a b = mag_either (ltb a b) (b - suc a) (a - b) (a + b) (omega arith) (omega arith)

-- the size of a sum
pub mag_sum : (a b : ℤ) → mag (a +ℤ b) ≤ mag a + mag b + 1
mag_sum (pos a) (pos b) = omega arith
mag_sum (pos a) (negsuc b) = omega (arith, mag_apart a (suc b))
mag_sum (negsuc a) (pos b) = omega (arith, mag_apart b (suc a))
mag_sum (negsuc a) (negsuc b) = omega arith

-- the size of a number with the other sign
mag_minus : (a : ℤ) → mag (neg_ℤ a) ≤ mag a + 1
mag_minus (pos zero) = omega arith
mag_minus (pos (suc a)) = omega arith
mag_minus (negsuc a) = omega arith

-- the size of a difference
mag_difference : (a b : ℤ) → mag (a -ℤ b) ≤ mag a + mag b + 2
mag_difference a b = omega (arith, mag_sum a (neg_ℤ b), mag_minus b)

-- the size of a product with 6250
pub mag_6250 : (a : ℤ) → mag (pos 6250 *ℤ a) ≤ 6250 * mag a + 6251
mag_6250 (pos a) = omega arith
mag_6250 (negsuc a) = omega (arith, mag_minus (pos (6250 * suc a)))

-- a natural with the other sign is no larger
mag_below : (n : ℕ) → mag (neg_ℤ (pos n)) ≤ n
mag_below zero = omega arith
mag_below (suc n) = omega arith

-- the size of a half
mag_half : (z : ℤ) → mag (quot_z z (pos 2)) ≤ mag z
mag_half (pos d) = omega arith
mag_half (negsuc d) = omega (arith, mag_below (suc d / 2))

-- the half that is given back is no larger than the number
pub half_below : (z : ℤ) → half_of z ≤ mag z
half_below (pos d) = omega arith
half_below (negsuc d) = omega arith

-- what is below zero is not even and not negative
pub below_zero : (z : ℤ) → lt_z z (pos 0) ≡ true → false ≡ even_natural z
below_zero (pos d) h = absurd (omega (arith, ltb-true d 0 h))
below_zero (negsuc d) h = refl

-- what is not below zero is even when no remainder is left
pub even_remainder : (z : ℤ) → lt_z z (pos 0) ≡ false → eqb (of_z w64 (rem_z z (pos 2))) 0 ≡ even_natural z
even_remainder (pos d) h = refl
even_remainder (negsuc d) h = absurd (let no : ◌≡◌ {A = ℕ} 0 1 = cc in omega arith)

-- the half of what is even and not negative is not negative
half_is : (z : ℤ) → even_natural z ≡ true → quot_z z (pos 2) ≡ pos (half_of z)
half_is (pos d) h = refl
half_is (negsuc d) h = absurd (let no : ◌≡◌ {A = ℕ} 0 1 = cc in omega arith)

-- a number that is stored in a narrow width, read, and stored in a wider one is itself
pub widened : (w v : Width) (z : ℤ) → T (leb (hbits w) (hbits v)) → SFits w z → to_z v (of_z v (to_z w (of_z w z))) ≡ z
widened w v z wider fits = rw (to_z-of_z {w = w} {z = z} fits) (to_z-of_z (sfits_widen wider fits))

-- ---- the numbers that the code computes

-- a lower edge and a number of steps add up within 32 bits
pub number_fits : (n0 : ℤ) (k : ℕ) → SFits w16 n0 → k < 1000000 → SFits w32 (n0 +ℤ pos k)
number_fits n0 k fits small = record { sfits = omega (arith, mag_sum n0 (pos k), fits.sfits) }

-- and their sum, computed in 32 bits, is exact
pub number_exact : (n0 : ℤ) (k : ℕ) → SFits w16 n0 → k < 1000000 → to_z w32 (of_z w32 (to_z w32 (of_z w32 (to_z w16 (of_z w16 n0))) +ℤ to_z w32 k)) ≡ n0 +ℤ pos k
number_exact n0 k fits small =
    rw (widened w16 w32 n0 tt fits, to_z_pos w32 {n = k} (omega arith)) (to_z-of_z (number_fits n0 k fits small))

-- 6250 times a number of 32 bits is within 64 bits
pub product_fits : (n : ℤ) → SFits w32 n → SFits w64 (pos 6250 *ℤ n)
product_fits n fits = record { sfits = omega (arith, mag_6250 n, fits.sfits) }

-- and so is its central frequency
pub mhz_fits : (n : ℤ) → SFits w32 n → SFits w64 (central_mhz n)
mhz_fits n fits = record { sfits = omega (arith, mag_6250 n, mag_sum (pos 193100000) (pos 6250 *ℤ n), fits.sfits) }

-- which, computed in 64 bits, is exact
pub mhz_exact : (n : ℤ) → SFits w32 n → to_z w64 (of_z w64 (pos 193100000 +ℤ to_z w64 (of_z w64 (pos 6250 *ℤ to_z w64 (of_z w64 (to_z w32 (of_z w32 n))))))) ≡ central_mhz n
mhz_exact n fits = rw (widened w32 w64 n tt fits, to_z-of_z (product_fits n fits)) (to_z-of_z (mhz_fits n fits))

-- a number of 32 bits less a lower edge is within 64 bits
pub difference_fits : (n0 n : ℤ) → SFits w16 n0 → SFits w32 n → SFits w64 (n -ℤ n0)
difference_fits n0 n edge fits = record { sfits = omega (arith, mag_difference n n0, edge.sfits, fits.sfits) }

-- and so is the gap
pub gap_fits : (n0 n : ℤ) (m : ℕ) → SFits w16 n0 → SFits w32 n → Fits w16 m → SFits w64 (gap_of n0 n m)
gap_fits n0 n m edge fits small =
    record { sfits = omega (arith, mag_difference n n0, mag_difference (n -ℤ n0) (pos m), edge.sfits, fits.sfits, small.fits) }

-- which, computed in 64 bits, is exact
pub gap_exact : (n0 n : ℤ) (m : ℕ) → SFits w16 n0 → SFits w32 n → Fits w16 m → to_z w64 (of_z w64 (to_z w64 (of_z w64 (to_z w64 (of_z w64 (to_z w32 (of_z w32 n))) -ℤ to_z w64 (of_z w64 (to_z w16 (of_z w16 n0))))) -ℤ to_z w64 m)) ≡ gap_of n0 n m
gap_exact n0 n m edge fits small =
    rw (widened w32 w64 n tt fits, widened w16 w64 n0 tt edge, to_z-of_z (difference_fits n0 n edge fits), to_z_pos w64 {n = m} (omega (arith, small.fits)))
    (to_z-of_z (gap_fits n0 n m edge fits small))

-- a number of 64 bits has a half of 64 bits
pub half_fits : (z : ℤ) → SFits w64 z → SFits w64 (quot_z z (pos 2))
half_fits z fits = record { sfits = omega (arith, mag_half z, fits.sfits) }

-- which, of what is even and not negative, is read back as it was written
pub half_exact : (z : ℤ) → SFits w64 z → even_natural z ≡ true → to_z w64 (of_z w64 (quot_z (to_z w64 (of_z w64 z)) (pos 2))) ≡ pos (half_of z)
half_exact z fits even = rw (to_z-of_z fits, to_z-of_z (half_fits z fits)) (half_is z even)
