-- Signed numbers on a page: how far a negative one is below 0, and what its decimal is.
use Rattle.std.specs.Prelude.{ℕ, suc, ◌+◌, ◌^◌, ◌≤◌, ◌<◌, true, false, ◌∷◌, ◌≡◌, refl, ℤ, pos, negsuc, nat_abs, ◌-ℤ◌, length, T}
use Rattle.std.proofs.Common.{ap, arith, add-one, ltb-true, le-ltb, to_z, of_z, SFits, to_z-of_z}
use Rattle.std.specs.Int.Signed.{lt_z, mag, non_neg}
use Rattle.std.specs.Int.{w64}
use Rattle.report.specs.Text.{decimal, decimal_signed}
use Rattle.report.specs.TextLaws.{decimal_digits}

-- what -1 less a negative number leaves: one less than how far that is below 0
one_less : (z : ℤ) → lt_z z (pos 0) ≡ true → negsuc 0 -ℤ z ≡ pos (mag z)
one_less (pos n) h = absurd (omega (arith, ltb-true n 0 h))
one_less (negsuc n) h = rw (le-ltb (suc n) 1 (omega arith)) (ap pos (omega arith))

-- and one more is how far it is below 0
pub one_more : (z : ℤ) → lt_z z (pos 0) ≡ true → mag z + 1 ≡ nat_abs z
one_more (pos n) h = absurd (omega (arith, ltb-true n 0 h))
one_more (negsuc n) h = omega arith

-- 64 bits hold what is left
pub less_fits : (z : ℤ) → lt_z z (pos 0) ≡ true → SFits w64 z → SFits w64 (negsuc 0 -ℤ z)
less_fits z below fits = rw (one_less z below) (record { sfits = fits.sfits })

-- and, computed in 64 bits, it is exact
pub less_exact : (z : ℤ) → lt_z z (pos 0) ≡ true → SFits w64 z → to_z w64 (of_z w64 (negsuc 0 -ℤ to_z w64 (of_z w64 z))) ≡ pos (mag z)
less_exact z below fits = rw (to_z-of_z fits, to_z-of_z (less_fits z below fits)) (one_less z below)

-- what is not below 0 is natural
pub natural : (z : ℤ) → lt_z z (pos 0) ≡ false → T (non_neg z)
natural (pos n) h = tt
natural (negsuc n) h = absurd (let no : ◌≡◌ {A = ℕ} 0 1 = cc in omega arith)

-- a negative number is a minus sign and how far it is below 0
pub signed_negative : (z : ℤ) → lt_z z (pos 0) ≡ true → decimal_signed z ≡ 45 ∷ decimal (nat_abs z)
unfolding decimal_signed
signed_negative (pos n) h = absurd (omega (arith, ltb-true n 0 h))
signed_negative (negsuc n) h = rw (add-one n)

-- another is its digits
pub signed_natural : (z : ℤ) → lt_z z (pos 0) ≡ false → decimal_signed z ≡ decimal (nat_abs z)
unfolding decimal_signed
signed_natural (pos n) h = refl
signed_natural (negsuc n) h = absurd (let no : ◌≡◌ {A = ℕ} 0 1 = cc in omega arith)

-- a signed number has a digit for each nought of a power of ten above it, and perhaps a sign
pub signed_digits : (more : ℕ) (z : ℤ) → mag z + 1 < 10 ^ suc more → length (decimal_signed z) ≤ suc more + 1
unfolding decimal_signed
signed_digits more (pos n) h = omega (arith, decimal_digits more n (omega arith))
signed_digits more (negsuc n) h = omega (arith, decimal_digits more (n + 1) h)
