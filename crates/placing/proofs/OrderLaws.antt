-- The test of an order, step by step, and what an order that passes is.
use Rattle.std.specs.Prelude.{ℕ, zero, suc, ◌+◌, ◌≤◌, ◌<◌, Bool, true, false, ◌≡◌, refl, leb, eqb, length, get_or, take, drop, Ok, Err}
use Rattle.std.proofs.Math.Bool.{cond, or-true}
use mathlib.Core.List.Memᴰ
use mathlib.Core.List.{List, [], ◌∷◌, ◌++◌, Memᴰ}
use Rattle.std.proofs.Common.{⊎_elim, sym, ap, subst, ◌∙◌, arith, drop_of_length-le, drop-cons}
use Rattle.std.proofs.Math.Numerals.{add-one}
use Rattle.std.proofs.Math.Seq.{take-suc}
use borrow.Author.Tests.{le-leb, lt-leb, leb-false, eq-eqb, ne_eqb, eqb-true}
use Rattle.refusal.specs.declared.Refusal.TheVariants.{NotAnOrder}
use Rattle.theory.proofs.TestLaws.{by_test, or_first, or_second, or_neither}
use Rattle.theory.specs.Arrange.{Arrange}
use Rattle.theory.proofs.ArrangeLaws.{no_repeats_first, no_repeats_rest, no_repeats_with, arrange_from, arrange_length, arrange_mem, arrange_no_repeats}
use Rattle.theory.specs.Earlier.{NoRepeats, Chained}
use Rattle.theory.specs.Orders.{listing}
use Rattle.theory.proofs.ListingLaws.{listing_mem, listing_below, listing_length, listing_no_repeats}
use Rattle.request.specs.Check.{then, has}
use Rattle.request.proofs.CheckLaws.{then_sound, then_refused, first_sound, next_sound}
use Rattle.request.proofs.SoundLaws.{not_refused}
use Rattle.placing.specs.FirstFit.{wrong_entry, check_entries, check_length, check_order}
use Rattle.meeting.specs.MeetingLaws.{has_append}

module _ (K : ℕ) (order : List ℕ) (k : ℕ) (h : k < length order) where
  -- the entries from k on: the one at k, then those behind it
  entries_turn : check_entries K (take k order) k (drop k order) ≡
      then (cond (wrong_entry K (take k order) (get_or order k 0)) (Err (NotAnOrder k)) (Ok tt))
      (check_entries K (take (k + 1) order) (k + 1) (drop (k + 1) order))
  unfolding check_entries
  entries_turn = rw (drop-cons order k 0 h, add-one k, take-suc order k 0 h)

  -- a wrong entry is refused
  entry_wrong : wrong_entry K (take k order) (get_or order k 0) ≡ true →
      check_entries K (take k order) k (drop k order) ≡ Err (NotAnOrder k)
  entry_wrong wrong =
      entries_turn ∙
      then_refused (cond (wrong_entry K (take k order) (get_or order k 0)) (Err (NotAnOrder k)) (Ok tt))
      (check_entries K (take (k + 1) order) (k + 1) (drop (k + 1) order))
      (NotAnOrder k)
      (ap (λ (b : Bool). cond b (Err (NotAnOrder k)) (Ok tt)) wrong)

  -- an entry of K or more is refused
  pub entry_above : K ≤ get_or order k 0 → check_entries K (take k order) k (drop k order) ≡ Err (NotAnOrder k)
  unfolding wrong_entry
  entry_above above = entry_wrong (rw (le-leb K (get_or order k 0) above))

  -- an entry that stood before is refused
  pub entry_seen : has (get_or order k 0) (take k order) ≡ true →
      check_entries K (take k order) k (drop k order) ≡ Err (NotAnOrder k)
  unfolding wrong_entry
  entry_seen seen = entry_wrong (rw seen (or-true (leb K (get_or order k 0))))

  -- another passes, and the next is looked at
  pub entry_passes : get_or order k 0 < K → has (get_or order k 0) (take k order) ≡ false →
      check_entries K (take k order) k (drop k order) ≡ check_entries K (take (k + 1) order) (k + 1) (drop (k + 1) order)
  unfolding wrong_entry
  entry_passes below new =
      entries_turn ∙
      then_sound (cond (wrong_entry K (take k order) (get_or order k 0)) (Err (NotAnOrder k)) (Ok tt))
      (check_entries K (take (k + 1) order) (k + 1) (drop (k + 1) order))
      (ap (λ (b : Bool). cond b (Err (NotAnOrder k)) (Ok tt))
      (or_neither (leb K (get_or order k 0)) (has (get_or order k 0) (take k order)) (lt-leb K (get_or order k 0) below) new))

-- behind the last entry all have passed
pub entries_end : (K : ℕ) (order : List ℕ) (k : ℕ) → length order ≤ k → check_entries K (take k order) k (drop k order) ≡ Ok tt
unfolding check_entries
entries_end K order k h = rw (drop_of_length-le order h)

-- an order of the right length is tested by its entries
pub order_entries : (K : ℕ) (order : List ℕ) → length order ≡ K → check_order K order ≡ check_entries K [] 0 order
unfolding check_order check_length
order_entries K order e =
    then_sound (check_length K order) (check_entries K [] 0 order)
    (ap (λ (b : Bool). cond b (Ok tt) (Err (NotAnOrder (length order)))) (eq-eqb (length order) K e))

-- another is refused at its length
pub order_length : (K : ℕ) (order : List ℕ) → (length order ≡ K → ⊥) → check_order K order ≡ Err (NotAnOrder (length order))
unfolding check_order check_length
order_length K order e =
    then_refused (check_length K order) (check_entries K [] 0 order) (NotAnOrder (length order))
    (ap (λ (b : Bool). cond b (Ok tt) (Err (NotAnOrder (length order)))) (ne_eqb (length order) K e))

-- where entries pass the first is not wrong
first_right : (K : ℕ) (earlier : List ℕ) (k i : ℕ) (order : List ℕ) → check_entries K earlier k (i ∷ order) ≡ Ok tt →
    (i < K) × (has i earlier ≡ false)
unfolding check_entries wrong_entry
first_right K earlier k i order sound =
    let right : wrong_entry K earlier i ≡ false
    = not_refused (wrong_entry K earlier i) (NotAnOrder k)
    (first_sound (cond (wrong_entry K earlier i) (Err (NotAnOrder k)) (Ok tt))
    (check_entries K (earlier ++ (i ∷ [])) (k + 1) order) sound) in (
      leb-false K i (or_first (leb K i) (has i earlier) right),
      or_second (leb K i) (has i earlier) right,
    )

-- and the others pass
rest_passes : (K : ℕ) (earlier : List ℕ) (k i : ℕ) (order : List ℕ) → check_entries K earlier k (i ∷ order) ≡ Ok tt →
    check_entries K (earlier ++ (i ∷ [])) (k + 1) order ≡ Ok tt
unfolding check_entries
rest_passes K earlier k i order sound =
    next_sound (cond (wrong_entry K earlier i) (Err (NotAnOrder k)) (Ok tt))
    (check_entries K (earlier ++ (i ∷ [])) (k + 1) order) sound

-- entries that pass are listing positions that did not stand before
entries_new : (K : ℕ) (earlier : List ℕ) (k : ℕ) (order : List ℕ) → check_entries K earlier k order ≡ Ok tt →
    (j : ℕ) → Memᴰ j order → (j < K) × (has j earlier ≡ false)
entries_new K earlier k [] sound j m = absurd (Memᴰ.not-nil m)
entries_new K earlier k (i ∷ order) sound j m =
    ⊎_elim
    (λ (e : j ≡ i). rw e (first_right K earlier k i order sound))
    (λ (n : Memᴰ j order).
    let later = entries_new K (earlier ++ (i ∷ [])) (k + 1) order (rest_passes K earlier k i order sound) j n in
    (later.0, or_first (has j earlier) (eqb j i) (sym (has_append j earlier i) ∙ later.1)))
    (Memᴰ.cases_cons m)

-- none of the entries that pass stands twice
entries_once : (K : ℕ) (earlier : List ℕ) (k : ℕ) (order : List ℕ) → check_entries K earlier k order ≡ Ok tt → NoRepeats order
unfolding NoRepeats Chained
entries_once K earlier k [] sound = tt
entries_once K earlier k (i ∷ order) sound =
    let rest : check_entries K (earlier ++ (i ∷ [])) (k + 1) order ≡ Ok tt = rest_passes K earlier k i order sound in
    no_repeats_with i order
    (λ m.
    let again = (entries_new K (earlier ++ (i ∷ [])) (k + 1) order rest i m).1 in
    let other = or_second (has i earlier) (eqb i i) (sym (has_append i earlier i) ∙ again) in
    borrow.Author.Tests.eqb-false i i other refl)
    (entries_once K (earlier ++ (i ∷ [])) (k + 1) order rest)

-- an order that passes has K entries
pub order_counts : (K : ℕ) (order : List ℕ) → check_order K order ≡ Ok tt → length order ≡ K
unfolding check_order check_length
order_counts K order sound =
    by_test (eqb (length order) K)
    (eqb-true (length order) K)
    (λ f. absurd (let refused = order_length K order (borrow.Author.Tests.eqb-false (length order) K f) in let z : ◌≡◌ {A = ℕ} 0 1 = cc in omega arith))

-- an order that passes is an order of the listing positions
pub order_arranges : (K : ℕ) (order : List ℕ) → check_order K order ≡ Ok tt → Arrange order (listing K)
unfolding check_order
order_arranges K order sound =
    let entries : check_entries K [] 0 order ≡ Ok tt = next_sound (check_length K order) (check_entries K [] 0 order) sound in
    arrange_from order (listing K) (entries_once K [] 0 order entries)
    (order_counts K order sound ∙ sym (listing_length K))
    (λ j m. listing_mem K j (entries_new K [] 0 order entries j m).0)

-- what stands at an index stands in the list
pub get_or_mem : (list : List ℕ) (m : ℕ) → m < length list → Memᴰ (get_or list m 0) list
get_or_mem [] m h = absurd (omega arith)
get_or_mem (x ∷ list) zero h = Memᴰ.head refl
get_or_mem (x ∷ list) (suc m) h = Memᴰ.tail (get_or_mem list m (omega arith))

-- each entry of an order that passes is a listing position
pub order_positions : (K : ℕ) (order : List ℕ) → check_order K order ≡ Ok tt → (m : ℕ) → m < length order → get_or order m 0 < K
unfolding check_order
order_positions K order sound m h =
    (entries_new K [] 0 order (next_sound (check_length K order) (check_entries K [] 0 order) sound) (get_or order m 0) (get_or_mem order m h)).0

-- entries that are listing positions, none of which stood before or stands twice, pass
entries_right : (K : ℕ) (earlier : List ℕ) (k : ℕ) (order : List ℕ) →
    ((j : ℕ) → Memᴰ j order → (j < K) × (has j earlier ≡ false)) → NoRepeats order → check_entries K earlier k order ≡ Ok tt
unfolding check_entries wrong_entry
entries_right K earlier k [] new once = refl
entries_right K earlier k (i ∷ order) new once =
    let first = new i (Memᴰ.head refl) in
    then_sound (cond (wrong_entry K earlier i) (Err (NotAnOrder k)) (Ok tt)) (check_entries K (earlier ++ (i ∷ [])) (k + 1) order)
    (ap (λ (b : Bool). cond b (Err (NotAnOrder k)) (Ok tt))
    (or_neither (leb K i) (has i earlier) (lt-leb K i first.0) first.1))
    ∙ entries_right K (earlier ++ (i ∷ [])) (k + 1) order
    (λ j m.
    let later = new j (Memᴰ.tail m) in (
      later.0,
      has_append j earlier i ∙ or_neither (has j earlier) (eqb j i) later.1
          (ne_eqb j i (λ (e : j ≡ i). no_repeats_first i order once (subst (λ (n : ℕ). Memᴰ n order) e m))),
    ))
    (no_repeats_rest i order once)

-- an order of the listing positions passes
pub arranged_passes : (K : ℕ) (order : List ℕ) → Arrange order (listing K) → check_order K order ≡ Ok tt
unfolding has
arranged_passes K order listed =
    order_entries K order (arrange_length order (listing K) listed ∙ listing_length K)
    ∙ entries_right K [] 0 order (λ j m. (listing_below K j (arrange_mem order (listing K) listed j m), refl))
    (arrange_no_repeats order (listing K) listed (listing_no_repeats K))
