-- Laws of tests, which every crate cites: splitting on a test, and taking two tests apart that are joined by && or ||.
use Rattle.std.specs.Prelude.{Bool, true, false, ◌&&◌, ◌||◌, ◌≡◌, refl}
use Rattle.std.proofs.lemmas.Bool.{false≢true}
use Rattle.std.proofs.Common.{sym}

-- a test is true or false, and either case may use which
pub by_test : {C : Type 0} (b : Bool) → (b ≡ true → C) → (b ≡ false → C) → C
by_test true yes-then no-then = yes-then refl
by_test false yes-then no-then = no-then refl

-- no test is both true and false
pub not_both : {C : Type 0} (b : Bool) → b ≡ true → b ≡ false → C
not_both true t f = absurd (false≢true (sym f))
not_both false t f = absurd (false≢true t)

-- both tests true make the conjunction true
pub and_both : (a b : Bool) → a ≡ true → b ≡ true → (a && b) ≡ true
and_both true b p q = q
and_both false b p q = absurd (false≢true p)

-- a true conjunction has a true first test
pub and_first : (a b : Bool) → (a && b) ≡ true → a ≡ true
and_first true b p = refl
and_first false b p = absurd (false≢true p)

-- a true conjunction has a true second test
pub and_second : (a b : Bool) → (a && b) ≡ true → b ≡ true
and_second true b p = p
and_second false b p = absurd (false≢true p)

-- a test that cannot be true is false
pub not_true_false : (b : Bool) → (b ≡ true → ⊥) → b ≡ false
not_true_false true h = absurd (h refl)
not_true_false false h = refl

-- a test that cannot be false is true
pub not_false_true : (b : Bool) → (b ≡ false → ⊥) → b ≡ true
not_false_true true h = refl
not_false_true false h = absurd (h refl)

-- both tests false make the alternative false
pub or_neither : (a b : Bool) → a ≡ false → b ≡ false → (a || b) ≡ false
or_neither true b p q = p
or_neither false b p q = q

-- a false alternative has a false first test
pub or_first : (a b : Bool) → (a || b) ≡ false → a ≡ false
or_first true b p = p
or_first false b p = refl

-- a false alternative has a false second test
pub or_second : (a b : Bool) → (a || b) ≡ false → b ≡ false
or_second true b p = not_both true refl p
or_second false b p = p
