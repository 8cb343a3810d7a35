-- A refusal is its number and its place, and nothing more.
use Rattle.std.specs.Prelude.{ℕ, ◌-◌, ◌≤◌, ◌≡◌, refl, List, [], ◌∷◌, get_or}
use Rattle.std.proofs.Common.{sym, ◌∙◌, ap, arith}
use Rattle.refusal.specs.declared.Refusal.{Refusal}
use Rattle.refusal.specs.declared.Refusal.TheVariants.{PastEnd, WrongTag, WrongLength, BandOutside, BadLink, TooManyDemands, BadRoute, IdentUsed, BadWidth, BufferShort, TooManyToSearch, NotAnOrder, NoStart, UnknownIdent, IdentSeen, NoRow, EndAbove, Clash, NoBlock, FileTooLong, UnknownRate, GroupsOutside, NoCertificate}
use Rattle.refusal.specs.Refusal.{number_of, place_of}

-- the refusals that stand at a place, by their numbers from 1 on; where no refusal has a number, the first stands in
abbrev refusals_at : ℕ → List Refusal
refusals_at place =
    PastEnd place ∷ WrongTag place ∷ WrongLength place ∷ BandOutside place ∷ BadLink place ∷ TooManyDemands place ∷ BadRoute place ∷ IdentUsed place ∷ BadWidth place ∷ BufferShort place ∷ TooManyToSearch place ∷ NotAnOrder place ∷ NoStart place ∷ UnknownIdent place ∷ IdentSeen place ∷ NoRow place ∷ EndAbove place ∷ Clash place ∷ NoBlock place ∷ FileTooLong place ∷ UnknownRate place ∷ PastEnd place ∷ PastEnd place ∷ GroupsOutside place ∷ PastEnd place ∷ PastEnd place ∷ PastEnd place ∷ PastEnd place ∷ PastEnd place ∷ NoCertificate place ∷ []

-- the refusal that has a number and a place
abbrev pub refusal_of : ℕ → ℕ → Refusal
refusal_of number place = get_or (refusals_at place) (number - 1) (PastEnd place)

-- a refusal is the one that has its number and its place
pub refusal_of_itself : (r : Refusal) → refusal_of (number_of r) (place_of r) ≡ r
refusal_of_itself (PastEnd place) = refl
refusal_of_itself (WrongTag place) = refl
refusal_of_itself (WrongLength place) = refl
refusal_of_itself (BandOutside place) = refl
refusal_of_itself (BadLink place) = refl
refusal_of_itself (TooManyDemands place) = refl
refusal_of_itself (BadRoute place) = refl
refusal_of_itself (IdentUsed place) = refl
refusal_of_itself (BadWidth place) = refl
refusal_of_itself (BufferShort place) = refl
refusal_of_itself (TooManyToSearch place) = refl
refusal_of_itself (NotAnOrder place) = refl
refusal_of_itself (NoStart place) = refl
refusal_of_itself (UnknownIdent place) = refl
refusal_of_itself (IdentSeen place) = refl
refusal_of_itself (NoRow place) = refl
refusal_of_itself (EndAbove place) = refl
refusal_of_itself (Clash place) = refl
refusal_of_itself (NoBlock place) = refl
refusal_of_itself (FileTooLong place) = refl
refusal_of_itself (UnknownRate place) = refl
refusal_of_itself (GroupsOutside place) = refl
refusal_of_itself (NoCertificate place) = refl

-- two refusals with the same number and the same place are the same
pub same_refusal : (r r' : Refusal) → number_of r ≡ number_of r' → place_of r ≡ place_of r' → r ≡ r'
same_refusal r r' number place =
    sym (refusal_of_itself r) ∙ ap (λ (n : ℕ). refusal_of n (place_of r)) number ∙ ap (refusal_of (number_of r')) place ∙
    refusal_of_itself r'

-- two results that meet the contract of `number` are equal
pub same_number : (r : Refusal) (n n' : ℕ) → n ≡ number_of r → n' ≡ number_of r → n ≡ n'
same_number r n n' h k = h ∙ sym k

-- two results that meet the contract of `place` are equal
pub same_place : (r : Refusal) (p p' : ℕ) → p ≡ place_of r → p' ≡ place_of r → p ≡ p'
same_place r p p' h k = h ∙ sym k

-- no refusal has the number 0
pub some_number : (why : Refusal) → 1 ≤ number_of why
some_number (PastEnd place) = omega arith
some_number (WrongTag place) = omega arith
some_number (WrongLength place) = omega arith
some_number (BandOutside place) = omega arith
some_number (BadLink place) = omega arith
some_number (TooManyDemands place) = omega arith
some_number (BadRoute place) = omega arith
some_number (IdentUsed place) = omega arith
some_number (BadWidth place) = omega arith
some_number (BufferShort place) = omega arith
some_number (TooManyToSearch place) = omega arith
some_number (NotAnOrder place) = omega arith
some_number (NoStart place) = omega arith
some_number (UnknownIdent place) = omega arith
some_number (IdentSeen place) = omega arith
some_number (NoRow place) = omega arith
some_number (EndAbove place) = omega arith
some_number (Clash place) = omega arith
some_number (NoBlock place) = omega arith
some_number (FileTooLong place) = omega arith
some_number (UnknownRate place) = omega arith
some_number (GroupsOutside place) = omega arith
some_number (NoCertificate place) = omega arith
