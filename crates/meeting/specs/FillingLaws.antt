-- An array is filled entry by entry.
use Rattle.std.specs.Prelude.{ℕ, ◌+◌, ◌≤◌, ◌<◌, Bool, cond, List, ◌≡◌, ltb, eqb, get_or, set, replicate}
use Rattle.std.proofs.Common.{sym, ap, ◌∙◌, arith, length-set, get_or-set_same, get_or-set_other, lt-ltb, le-ltb, ltb-true, ltb-false, eqb-true}
use Rattle.std.proofs.lemmas.List.{length-replicate, get_or-replicate}
use Rattle.std.proofs.lemmas.Bool.{eqb-false}
use Rattle.theory.proofs.TestLaws.{by_test}
use Rattle.meeting.specs.inner.Filling.{FilledTo}

module _ (A : Type 0) (f : ℕ → A) (start : A) (n : ℕ) where
  -- at the start nothing is filled
  pub filled_none : FilledTo A f start n 0 (replicate n start)
  filled_none =
      record {
        full = length-replicate n start;
        entry = λ k h. get_or-replicate n k start start h ∙ sym (ap (λ (b : Bool). cond b (f k) start) (le-ltb k 0 (omega arith)));
      }

  -- one more entry
  pub filled_more : (j : ℕ) (array : List A) (x : A) → j < n → x ≡ f j → FilledTo A f start n j array →
      FilledTo A f start n (j + 1) (set array j x)
  filled_more j array x h e so_far =
      record {
        full = length-set array j x ∙ so_far.full;
        entry =
            λ k b.
            by_test (eqb k j)
            (λ same.
            let here : k ≡ j = eqb-true k j same in
            rw (here, get_or-set_same array j x start (omega (arith, so_far.full)), lt-ltb j (j + 1) (omega arith)) e)
            (λ other.
            get_or-set_other array j k x start (eqb-false k j other) ∙ so_far.entry k b
            ∙ ap (λ (b : Bool). cond b (f k) start) (sooner k (eqb-false k j other)));
      }
    where
      sooner : (k : ℕ) → (k ≡ j → ⊥) → ltb k j ≡ ltb k (j + 1)
      sooner k other =
          by_test (ltb k j)
          (λ t. t ∙ sym (lt-ltb k (j + 1) (omega (arith, ltb-true k j t))))
          (λ t.
          t ∙ sym (le-ltb k (j + 1) (by_test (ltb k (j + 1))
          (λ s. absurd (other (omega (arith, ltb-true k (j + 1) s, ltb-false k j t))))
          (ltb-false k (j + 1)))))

  -- an entry that is filled
  pub filled_entry : (j : ℕ) (array : List A) → FilledTo A f start n j array → (k : ℕ) → k < n → k < j → get_or array k start ≡ f k
  filled_entry j array so_far k h l = so_far.entry k h ∙ ap (λ (b : Bool). cond b (f k) start) (lt-ltb k j l)

  -- an entry that is not filled
  pub unfilled_entry : (j : ℕ) (array : List A) → FilledTo A f start n j array → (k : ℕ) → k < n → j ≤ k → get_or array k start ≡ start
  unfilled_entry j array so_far k h l = so_far.entry k h ∙ ap (λ (b : Bool). cond b (f k) start) (le-ltb k j l)
