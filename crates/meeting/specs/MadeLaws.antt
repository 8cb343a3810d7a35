-- An array made of another's entries by a closure: each entry is what the closure says, where a call leaves the closure as it is.
use Rattle.std.specs.Prelude.{ℕ, zero, suc, ◌+◌, ◌≤◌, ◌<◌, List, map, ◌≡◌, eqb, length, get_or}
use Rattle.std.proofs.Common.{subst, sym, ◌∙◌, arith, eqb-true, ext_get_or}
use Rattle.std.proofs.lemmas.Bool.{eqb-false}
use Rattle.std.proofs.lemmas.List.{length-map}
use Rattle.std.specs.Array.{IsMapOf, MapsFrom}
use Rattle.std.specs.Fn.{Called}
use denote.Param.Members.{Mut}
use Rattle.theory.proofs.TestLaws.{by_test}
use Rattle.theory.specs.Orders.{listing}
use Rattle.theory.proofs.ListingLaws.{listing_length}
use Rattle.meeting.specs.MeetingLaws.{listing_at}

-- what an array of n entries is, entry by entry, it is as a list
listed : {B : Type 0} (of : ℕ → B) (n : ℕ) (ys : List B) (d : B) → length ys ≡ n → ((k : ℕ) → k < n → get_or ys k d ≡ of k) → ys ≡ map of (listing n)
listed of n ys d long each =
    ext_get_or d ys (map of (listing n)) (long ∙ sym (length-map (listing n) of ∙ listing_length n))
    (λ k h. each k (omega (arith, long)) ∙ sym (listing_at of n k d (omega (arith, long))))

module _ {F A B : Type 0} (g : Mut F (A × Unit {0}) B) (f : F) (of : A → B)
    (says : (x : A) (y : B) (q : F) → Called g f (x, tt) y q → (q ≡ f) × (y ≡ of x)) where
  mapped_from : (n i : ℕ) (xs : List A) (ys : List B) → MapsFrom g f xs ys i n → (k : ℕ) (a : A) (d : B) → i ≤ k → k < i + n →
      get_or ys k d ≡ of (get_or xs k a)
  mapped_from zero i xs ys each k a d low high = absurd (omega arith)
  mapped_from (suc n) i xs ys each k a d low high =
      let here = says each.1 each.2 each.0 each.5 in
      by_test (eqb k i)
      (λ same. rw (eqb-true k i same, each.3.1 a) (each.4.1 d ∙ here.1))
      (λ other.
      mapped_from n (i + 1) xs ys (subst (λ (q : F). MapsFrom g q xs ys (i + 1) n) here.0 each.6) k a d
      (omega (arith, eqb-false k i other)) (omega arith))

  -- an array made of another's entries
  pub mapped : (n : ℕ) (xs : List A) (ys : List B) (a : A) (d : B) → IsMapOf g f xs ys n → ys ≡ map (λ (k : ℕ). of (get_or xs k a)) (listing n)
  mapped n xs ys a d is =
      listed (λ (k : ℕ). of (get_or xs k a)) n ys d is.long (λ k h. mapped_from n 0 xs ys is.each k a d (omega arith) (omega arith))
