-- A lower edge as the two bytes of its two's complement, and back.
use Rattle.std.specs.Prelude.{ℕ, suc, ◌-◌, ◌≤◌, ◌<◌, ◌≡◌, refl, true, false, ltb, ℤ, pos, negsuc, ◌+ℤ◌, ◌-ℤ◌}
use Rattle.std.proofs.Common.{sym, ap, ◌∙◌, arith, lt-ltb, le-ltb, ltb-true, ltb-false, SFits, to_z, of_z}
use Rattle.std.specs.Int.Signed.{lt_z}
use Rattle.std.specs.Int.{w16, w32}
use mir.ValLaws.{to_z_pos, to_z-of_z, of_z-to_z, of_z_fits, to_z-Fits}
use Rattle.theory.proofs.TestLaws.{by_test}
use Rattle.request.specs.Encoding.{bits16, signed16}

-- a number of 16 bits with its highest bit set is below 0
pub lowered : (n : ℕ) → n < 65536 → pos n -ℤ pos 65536 ≡ negsuc (65535 - n)
lowered n h =
    let same : 65536 - suc n ≡ 65535 - n = omega arith in
    rw (lt-ltb n 65536 h, same)

-- it is in range as it is lowered
pub lowered_fits : (n : ℕ) → n < 65536 → SFits w32 (to_z w32 n -ℤ pos 65536)
lowered_fits n h = rw (to_z_pos w32 n (omega arith), lowered n h) (record { sfits = omega arith })

pub lowered_16 : (n : ℕ) → 32768 ≤ n → n < 65536 → SFits w16 (pos n -ℤ pos 65536)
lowered_16 n high h = rw (lowered n h) (record { sfits = omega arith })

pub lowered_exact : (n : ℕ) → n < 65536 → to_z w32 (of_z w32 (to_z w32 n -ℤ pos 65536)) ≡ pos n -ℤ pos 65536
lowered_exact n h =
    to_z-of_z w32 (to_z w32 n -ℤ pos 65536) (lowered_fits n h) ∙ ap (λ (z : ℤ). z -ℤ pos 65536) (to_z_pos w32 n (omega arith))

-- the two readings of 16 bits are the machine's
pub signed_low : (n : ℕ) → n < 32768 → signed16 n ≡ pos n
unfolding signed16
signed_low n h = rw (lt-ltb n 32768 h)

pub signed_high : (n : ℕ) → 32768 ≤ n → signed16 n ≡ pos n -ℤ pos 65536
unfolding signed16
signed_high n h = rw (le-ltb n 32768 h)

pub signed_machine : (n : ℕ) → n < 65536 → signed16 n ≡ to_z w16 n
signed_machine n h =
    by_test (ltb n 32768)
    (λ (t : ltb n 32768 ≡ true).
    signed_low n (ltb-true n 32768 t) ∙ sym (to_z_pos w16 n (ltb-true n 32768 t)))
    (λ (t : ltb n 32768 ≡ false).
    let same : 65535 - n ≡ 65536 - suc n = omega arith in
    signed_high n (ltb-false n 32768 t) ∙ lowered n h ∙ rw (t, same))

pub bits_machine : (z : ℤ) → SFits w16 z → bits16 z ≡ of_z w16 z
unfolding bits16
bits_machine (pos n) h = refl
bits_machine (negsuc n) h = let same : 65535 - n ≡ 65536 - suc n = omega arith in same

-- a number of its range is its bits read back
pub signed_of_bits : (z : ℤ) → SFits w16 z → signed16 (bits16 z) ≡ z
signed_of_bits z h =
    ap signed16 (bits_machine z h) ∙ signed_machine (of_z w16 z) (of_z_fits w16 z h).fits ∙ to_z-of_z w16 z h

-- 16 bits are those of the number they are read as
pub bits_of_signed : (n : ℕ) → n < 65536 → bits16 (signed16 n) ≡ n
bits_of_signed n h =
    ap bits16 (signed_machine n h) ∙ bits_machine (to_z w16 n) (to_z-Fits w16 n (record { fits = h })) ∙
    of_z-to_z w16 n (record { fits = h })

-- a number below 0 is raised by 65536 to its bits
pub raised : (z : ℤ) → lt_z z (pos 0) ≡ true → SFits w16 z → z +ℤ pos 65536 ≡ pos (bits16 z)
unfolding bits16
raised (pos n) below h = absurd (let z : n < 0 = ltb-true n 0 below in omega arith)
raised (negsuc n) below h =
    let low : n < 32768 = h.sfits in
    let same : 65536 - suc n ≡ 65535 - n = omega arith in
    rw (le-ltb 65536 (suc n) (omega arith), same)

-- a number from 0 on is its own bits
pub kept : (z : ℤ) → lt_z z (pos 0) ≡ false → z ≡ pos (bits16 z)
unfolding bits16
kept (pos n) above = refl
kept (negsuc n) above = absurd (let z : ◌≡◌ {A = ℕ} 0 1 = cc in omega arith)

-- bits are two bytes
pub bits_fit : (z : ℤ) → SFits w16 z → bits16 z < 65536
bits_fit z h = rw (bits_machine z h) (of_z_fits w16 z h).fits

-- widened for the sum, a number is the same
pub widened : (z : ℤ) → SFits w16 z → to_z w32 (of_z w32 (to_z w16 (of_z w16 z))) ≡ z
widened z h =
    ap (λ (y : ℤ). to_z w32 (of_z w32 y)) (to_z-of_z w16 z h) ∙ to_z-of_z w32 z (record { sfits = widen h.sfits })
  where
    widen : {n : ℕ} → n < 32768 → n < 2147483648
    widen low = omega arith

-- the sum is in range, and is the bits
pub raised_fits : (z : ℤ) → lt_z z (pos 0) ≡ true → SFits w16 z → SFits w32 (to_z w32 (of_z w32 (to_z w16 (of_z w16 z))) +ℤ pos 65536)
raised_fits z below h =
    rw (widened z h, raised z below h) (record { sfits = let fit : bits16 z < 65536 = bits_fit z h in omega arith })

pub raised_exact : (z : ℤ) → lt_z z (pos 0) ≡ true → SFits w16 z →
    to_z w32 (of_z w32 (to_z w32 (of_z w32 (to_z w16 (of_z w16 z))) +ℤ pos 65536)) ≡ pos (bits16 z)
raised_exact z below h =
    to_z-of_z w32 (to_z w32 (of_z w32 (to_z w16 (of_z w16 z))) +ℤ pos 65536) (raised_fits z below h) ∙
    ap (λ (y : ℤ). y +ℤ pos 65536) (widened z h) ∙ raised z below h

-- 16 bits are within 32
pub in_32 : (z : ℤ) → SFits w16 z → SFits w32 (to_z w16 (of_z w16 z))
in_32 z h = rw (to_z-of_z w16 z h) (record { sfits = widen h.sfits })
  where
    widen : {n : ℕ} → n < 32768 → n < 2147483648
    widen low = omega arith
