-- What a demand's field asks for goes there and back: its tag and its number.
use Rattle.std.specs.Prelude.{ℕ, ◌≤◌, ◌<◌, Bool, true, false, cond, List, ◌≡◌, refl, get_or, eqb}
use Rattle.std.proofs.Common.{sym, ap, ◌∙◌, arith, eqb-true}
use Rattle.theory.proofs.TestLaws.{by_test}
use Rattle.request.specs.declared.Asked.{Asked}
use Rattle.request.specs.declared.Asked.TheVariants.{Width, Rate}
use Rattle.request.specs.View.{DemandView, asked_width, width_of}
use Rattle.request.specs.Check.{has, known_asked}
use Rattle.request.specs.Encoding.{tag_of, number_asked}
use Rattle.reading.specs.Reading.{demands_begin, demand_tag, asked_in}

-- the tag and the number of what is asked for are read as it
pub asked_back : (a : Asked) → asked_in (tag_of a) (number_asked a) ≡ a
unfolding asked_in tag_of number_asked
asked_back (Width w) = refl
asked_back (Rate r) = refl

-- what is read from a tag that a demand's field has is written under that tag
pub asked_tag : (s : List ℕ) (at n : ℕ) → get_or s at 0 ≡ demand_tag s at → tag_of (asked_in (get_or s at 0) n) ≡ get_or s at 0
unfolding asked_in tag_of demand_tag
asked_tag s at n h =
    let tag = get_or s at 0 in
    by_test (eqb tag 5)
    (λ (t : eqb tag 5 ≡ true). rw t (sym (eqb-true tag 5 t)))
    (λ (f : eqb tag 5 ≡ false).
    let three : tag ≡ 3 = h ∙ ap (λ (b : Bool). cond b 5 3) f in
    rw f (sym three))

-- and with that number
pub asked_number : (tag n : ℕ) → number_asked (asked_in tag n) ≡ n
unfolding asked_in number_asked
asked_number tag n = by_test (eqb tag 5) (λ (t : eqb tag 5 ≡ true). rw t) (λ (f : eqb tag 5 ≡ false). rw f)

-- the tag of what is asked for is one that a demand's field has
pub tag_stands : (s : List ℕ) (at : ℕ) (a : Asked) → get_or s at 0 ≡ tag_of a → get_or s at 0 ≡ demand_tag s at
unfolding demand_tag tag_of
tag_stands s at (Width w) h = rw h
tag_stands s at (Rate r) h = rw h

-- and demands begin with it
pub tag_begins : (a : Asked) → demands_begin (tag_of a) ≡ true
unfolding demands_begin tag_of
tag_begins (Width w) = refl
tag_begins (Rate r) = refl

-- no rate in the table is above 1000
known_most : (r : ℕ) → known_asked (Rate r) ≡ true → r ≤ 1000
unfolding known_asked has
known_most r h =
    by_test (eqb r 10) (λ t. omega (arith, eqb-true r 10 t)) (λ f.
    by_test (eqb r 40) (λ t. omega (arith, eqb-true r 40 t)) (λ g.
    by_test (eqb r 100) (λ t. omega (arith, eqb-true r 100 t)) (λ i.
    by_test (eqb r 400) (λ t. omega (arith, eqb-true r 400 t)) (λ j.
    by_test (eqb r 1000) (λ t. omega (arith, eqb-true r 1000 t)) (λ k.
    let no : false ≡ true = rw (f, g, i, j, k) at h in
    absurd (let z : ◌≡◌ {A = ℕ} 0 1 = cc in omega arith))))))

-- a width within the band has 16 bits, and so has a known rate
number_fits : (S : ℕ) (a : Asked) → S < 65536 → known_asked a ≡ true → asked_width a ≤ S → number_asked a < 65536
unfolding asked_width number_asked
number_fits S (Width w) slots known inside = omega arith
number_fits S (Rate r) slots known inside = omega (arith, known_most r known)

-- so the number that a sound demand asks for fits into its field
pub asked_fits : (S : ℕ) (d : DemandView) → S < 65536 → known_asked d.asked ≡ true → width_of d ≤ S → number_asked d.asked < 65536
unfolding width_of
asked_fits S d slots known inside = number_fits S d.asked slots known inside
