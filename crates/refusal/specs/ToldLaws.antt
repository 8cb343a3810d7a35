-- What is told of an answer says all of it: here, of a refusal.
use Rattle.std.specs.Prelude.{ℕ, List, ◌≡◌, get_or}
use Rattle.std.proofs.Common.{ap, arith}
use Rattle.refusal.specs.declared.Refusal.{Refusal}
use Rattle.refusal.specs.Refusal.{number_of}
use Rattle.refusal.specs.RefusalLaws.{same_refusal, some_number}
use Rattle.refusal.specs.Told.{Told, refusal_told}

-- two refusals that are told alike are the same
pub refusal_told_whole : (why why' : Refusal) → refusal_told why ≡ refusal_told why' → why ≡ why'
refusal_told_whole why why' h =
    same_refusal why why' (ap (λ (t : Told ℕ). t.0) h) (ap (λ (t : Told ℕ). get_or t.1 0 0) h)

-- no refusal is told with 0
pub refusal_told_fault : {A : Type 0} (why : Refusal) (place values : List A) → ◌≡◌ {A = Told A} (number_of why, place) (0, values) → ⊥
refusal_told_fault {A} why place values h = omega (arith, some_number why, ap (λ (t : Told A). t.0) h)
