-- The five rates and no others are known, and each has its width.
use Rattle.std.specs.Prelude.{ℕ, ◌+◌, ◌≤◌, ◌<◌, Bool, true, false, ◌≢◌, ◌≡◌, refl, eqb, ltb, length, get_or, drop}
use mathlib.Core.List.{List, []}
use Rattle.std.proofs.Common.{sym, ap₂, ◌∙◌, arith, add-one, drop_of_length-le, drop-cons, eq-eqb, ne_eqb}
use Rattle.std.proofs.Math.Path.{ap, fun_ext}
use Rattle.theory.proofs.TestLaws.{by_test}
use Rattle.request.specs.declared.Asked.TheVariants.{Width, Rate}
use Rattle.request.specs.Sharing.{share_link, problem_of}
use Rattle.request.specs.Encoding.{field, tag_of, demand_field}
use Rattle.request.specs.View.{DemandView, View, demand_at, rate_table, looked_up, rate_width, asked_width, width_of}
use Rattle.request.specs.Check.{has, known_asked}

module _ (rate : ℕ) (rows : List (List ℕ)) (k : ℕ) (there : k < length rows) where
  -- the row at k begins with the rate: its width is found
  pub found_here : rate ≡ get_or (get_or rows k []) 0 0 → looked_up rate (drop k rows) ≡ get_or (get_or rows k []) 1 0
  unfolding looked_up
  found_here e = ap (looked_up rate) (drop-cons rows k [] there) ∙ rw (eq-eqb rate (get_or (get_or rows k []) 0 0) e)

  -- another is looked for behind it
  pub found_later : (rate ≡ get_or (get_or rows k []) 0 0 → ⊥) → looked_up rate (drop k rows) ≡ looked_up rate (drop (k + 1) rows)
  unfolding looked_up
  found_later e =
      ap (looked_up rate) (drop-cons rows k [] there)
      ∙ rw (ne_eqb rate (get_or (get_or rows k []) 0 0) e) (ap (λ (n : ℕ). looked_up rate (drop n rows)) (sym (add-one k)))

-- behind the last row nothing is found
pub found_none : (rate k : ℕ) → 5 ≤ k → looked_up rate (drop k rate_table) ≡ 0
unfolding looked_up
found_none rate k h = ap (looked_up rate) (drop_of_length-le rate_table {i = k} h)

-- a rate has a width exactly where it is known
pub known_width : (rate : ℕ) → ltb 0 (rate_width rate) ≡ known_asked (Rate rate)
unfolding rate_width looked_up known_asked has
known_width rate =
    by_test (eqb rate 10)
    (λ t. rw t)
    (λ f.
    by_test (eqb rate 40)
    (λ t. rw (f, t))
    (λ g.
    by_test (eqb rate 100)
    (λ t. rw (f, g, t))
    (λ h.
    by_test (eqb rate 400)
    (λ t. rw (f, g, h, t))
    (λ i.
    by_test (eqb rate 1000)
    (λ t. rw (f, g, h, i, t))
    (λ j. rw (f, g, h, i, j))))))

-- the five widths
pub five_widths : (asked_width (Rate 10) ≡ 1) × (asked_width (Rate 40) ≡ 1) × (asked_width (Rate 100) ≡ 2) × (asked_width (Rate 400) ≡ 8) × (asked_width (Rate 1000) ≡ 20)
unfolding asked_width rate_width looked_up
five_widths = (refl, refl, refl, refl, refl)

-- the five rates are known
pub five_known : (known_asked (Rate 10) ≡ true)
    × (known_asked (Rate 40) ≡ true)
    × (known_asked (Rate 100) ≡ true)
    × (known_asked (Rate 400) ≡ true)
    × (known_asked (Rate 1000) ≡ true)
unfolding known_asked has
five_known = (refl, refl, refl, refl, refl)

-- and no other is
pub no_other_known : (r : ℕ) → r ≢ 10 → r ≢ 40 → r ≢ 100 → r ≢ 400 → r ≢ 1000 → known_asked (Rate r) ≡ false
unfolding known_asked has
no_other_known r a b c d e = rw (ne_eqb r 10 a, ne_eqb r 40 b, ne_eqb r 100 c, ne_eqb r 400 d, ne_eqb r 1000 e)

-- two requests whose demands have the same widths and routes, however they were booked, and whose guard is the same pose the same problem
pub booked_alike : (v v' : View) → v.band.guard ≡ v'.band.guard →
    ((k : ℕ) → width_of (demand_at v.demands k) ≡ width_of (demand_at v'.demands k)) →
    ((k : ℕ) → (demand_at v.demands k).route ≡ (demand_at v'.demands k).route) → problem_of v ≡ problem_of v'
unfolding problem_of
booked_alike v v' guard widths routes =
    ap₂ (λ (w : ℕ → ℕ) (j : ℕ → ℕ → Bool). record { width = w; joined = j; gap = λ i j. v.band.guard })
    (fun_ext widths)
    (fun_ext (λ (i : ℕ). fun_ext (λ (j : ℕ). ap₂ share_link (routes i) (routes j))))
    ∙ ap
    (λ (g : ℕ).
    record {
      width = λ i. width_of (demand_at v'.demands i);
      joined = λ i j. share_link (demand_at v'.demands i).route (demand_at v'.demands j).route;
      gap = λ i j. g;
    })
    guard

-- but their fields differ: a demand booked by its width and one booked by a rate never look the same in a file
pub booked_apart : (d d' : DemandView) (w r : ℕ) → d.asked ≡ Width w → d'.asked ≡ Rate r → demand_field d ≢ demand_field d'
unfolding demand_field field tag_of
booked_apart d d' w r by_width by-rate same =
    omega (arith, sym (ap tag_of by_width) ∙ ap (λ (file : List ℕ). get_or file 0 0) same ∙ ap tag_of by-rate)

-- two results that meet the contract of `width_of` are equal
pub same_width_of : (d : DemandView) (a b : ℕ) → a ≡ width_of d → b ≡ width_of d → a ≡ b
same_width_of d a b h k = h ∙ sym k
