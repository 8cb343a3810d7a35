-- What is told of an answer of the grid says all of it.
use Rattle.grid.specs.declared.Band.{Band}
use Rattle.grid.specs.declared.Frequency.{Frequency}
use Rattle.grid.specs.declared.Block.{Block}
use Rattle.std.specs.Prelude.{ℕ, ◌≡◌, ℤ, pos, get_or, Result, Ok, Err}
use Rattle.std.proofs.Common.{sym, ap}
use Rattle.std.specs.Int.Signed.{mag}
use Rattle.refusal.specs.declared.Refusal.{Refusal}
use Rattle.refusal.specs.Told.{Told}
use Rattle.refusal.specs.RefusalLaws.{same_refusal}
use Rattle.refusal.specs.ToldLaws.{refusal_told_whole, refusal_told_fault}
use Rattle.grid.specs.Told.{refusal_told±, band_told, centre_told, block_told}

-- a value told
abbrev value± : Told ℤ → ℕ → ℤ
value± t k = get_or t.1 k (pos 0)

-- two refusals told alike among signed values are the same
refusal_told_whole± : (why why' : Refusal) → refusal_told± why ≡ refusal_told± why' → why ≡ why'
refusal_told_whole± why why' h =
    same_refusal why why' (ap (λ (t : Told ℤ). t.0) h) (ap (λ (t : Told ℤ). mag (value± t 0)) h)

-- two replies of the band's constructor that are told alike are the same
pub band_told_whole : (r r' : Result Band Refusal) → band_told r ≡ band_told r' → r ≡ r'
unfolding band_told
band_told_whole (Ok b) (Ok b') h =
    ap (λ (t : Told ℤ). Ok (record { n0 = value± t 0; slots = mag (value± t 1); guard = mag (value± t 2) })) h
band_told_whole (Ok b) (Err why) h = absurd (refusal_told_fault why _ _ (sym h))
band_told_whole (Err why) (Ok b) h = absurd (refusal_told_fault why _ _ h)
band_told_whole (Err why) (Err why') h = ap Err (refusal_told_whole± why why' h)

-- and two blocks' frequencies
pub centre_told_whole : (r r' : Result Frequency Refusal) → centre_told r ≡ centre_told r' → r ≡ r'
unfolding centre_told
centre_told_whole (Ok f) (Ok f') h =
    ap (λ (t : Told ℤ). Ok (record { n = value± t 0; m = mag (value± t 1); mhz = value± t 2 })) h
centre_told_whole (Ok f) (Err why) h = absurd (refusal_told_fault why _ _ (sym h))
centre_told_whole (Err why) (Ok f) h = absurd (refusal_told_fault why _ _ h)
centre_told_whole (Err why) (Err why') h = ap Err (refusal_told_whole± why why' h)

-- and two blocks
pub block_told_whole : (r r' : Result Block Refusal) → block_told r ≡ block_told r' → r ≡ r'
unfolding block_told
block_told_whole (Ok b) (Ok b') h =
    ap (λ (t : Told ℕ). Ok (record { start = get_or t.1 0 0; width = get_or t.1 1 0 })) h
block_told_whole (Ok b) (Err why) h = absurd (refusal_told_fault why _ _ (sym h))
block_told_whole (Err why) (Ok b) h = absurd (refusal_told_fault why _ _ h)
block_told_whole (Err why) (Err why') h = ap Err (refusal_told_whole why why' h)
