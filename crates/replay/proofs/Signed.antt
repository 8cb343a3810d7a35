-- Numbers below 0, made of their two's complement.
use Prim.Native.Nat.{ℕ, zero, suc, ◌^◌, ◌<◌}
use mathlib.Core.Path.{◌≡◌, refl, ap}
use native.Mathlib.Omega.{arith}
use lib.IntN.{pos, negsuc, ◌-ℤ◌}
use mir.Syntax.{Width}
use mir.Val.{to_z, hbits, SFits}
use mir.Facts.{to_z_pos}

-- what is left when a natural is taken from -1
minus_one_less : (k : ℕ) → negsuc 0 -ℤ pos k ≡ negsuc k
minus_one_less zero = refl
minus_one_less (suc k) = ap negsuc (omega arith)

-- it fits a width that holds the natural
pub less_fits : (w : Width) (k : ℕ) → k < 2 ^ hbits w → SFits w (negsuc 0 -ℤ to_z w k)
less_fits w k h = rw (to_z_pos w {n = k} h, minus_one_less k) (record { sfits = h })
