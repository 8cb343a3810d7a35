-- What the answers of the grid say, by the numbers of the rules.
use Rattle.grid.specs.declared.Band.{Band}
use Rattle.grid.specs.declared.Frequency.{Frequency}
use Rattle.grid.specs.declared.Block.{Block}
use Rattle.std.specs.Prelude.{ℕ, [], ◌∷◌, ℤ, pos, Result, Ok, Err}
use Rattle.refusal.specs.declared.Refusal.{Refusal}
use Rattle.refusal.specs.Refusal.{number_of, place_of}
use Rattle.refusal.specs.Told.{Told, refusal_told}

-- a refusal among signed values
abbrev pub refusal_told± : Refusal → Told ℤ
refusal_told± why = (number_of why, pos (place_of why) ∷ [])

-- a band: n0, S, G
unfoldable pub band_told : Result Band Refusal → Told ℤ
band_told (Ok band) = (0, band.n0 ∷ pos band.slots ∷ pos band.guard ∷ [])
band_told (Err why) = refusal_told± why

-- where a block stands: n, m, MHz
unfoldable pub centre_told : Result Frequency Refusal → Told ℤ
centre_told (Ok f) = (0, f.n ∷ pos f.m ∷ f.mhz ∷ [])
centre_told (Err why) = refusal_told± why

-- a block: s, w
unfoldable pub block_told : Result Block Refusal → Told ℕ
block_told (Ok b) = (0, b.start ∷ b.width ∷ [])
block_told (Err why) = refusal_told why
