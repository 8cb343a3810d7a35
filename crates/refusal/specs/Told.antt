-- How an answer is told: the number of its fault and the fault's place; or 0, and the answer's values. Every answer that is an enum
-- has one definition of this shape, in its own crate.
use Rattle.std.specs.Prelude.{ℕ, List, [], ◌∷◌}
use Rattle.refusal.specs.declared.Refusal.{Refusal}
use Rattle.refusal.specs.Refusal.{number_of, place_of}

-- a number, and values
abbrev pub Told : Type 0 → Type 0
Told A = ℕ × List A

-- a refusal: its number, and its place alone
abbrev pub refusal_told : Refusal → Told ℕ
refusal_told why = (number_of why, place_of why ∷ [])
