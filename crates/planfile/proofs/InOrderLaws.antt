-- Rows in an order: how long they are, what stands where, and which of them are in listing order.
use Rattle.std.specs.Prelude.{ℕ, zero, suc, ◌+◌, ◌*◌, ◌/◌, ◌<◌, ◌≡◌, ltb, drop}
use mathlib.Core.List.{List, [], ◌∷◌, ◌++◌}
use Rattle.std.proofs.Math.Path.{refl, ap}
use Rattle.std.proofs.Common.{sym, ◌∙◌, ap₂, add-one, arith, length-append, ltb-true, ltb-false}
use Rattle.std.proofs.Math.ListN.{length, get_or}
use Rattle.theory.specs.Arrange.{Arrange}
use Rattle.theory.proofs.ArrangeLaws.{arrange_mem, arrange_length}
use Rattle.theory.proofs.ListingLaws.{listing_below, listing_length}
use Rattle.theory.specs.Orders.{count_up, listing}
use Rattle.request.specs.Encoding.{two_bytes, field}
use Rattle.fields.specs.FieldLaws.{number_at}
use Rattle.fields.specs.Field.{number16}
use Rattle.request.specs.RoundTrip.{Idents16}
use Rattle.request.specs.Sound.{SoundRequest}
use Rattle.theory.proofs.TestLaws.{by_test}
use Rattle.request.specs.View.{View, demand_at}
use Rattle.meeting.specs.MeetingLaws.{listing_at}
use Rattle.placing.proofs.OrderLaws.{get_or_mem}
use Rattle.meeting.specs.Plan.{start_at}
use Rattle.planfile.specs.PlanFile.{row_field, row_fields, encode_plan}
use Rattle.planfile.proofs.PlanFileLaws.{row_length, rows_turn, rows_done}
use Rattle.request.proofs.ViewLaws.{ident_at}
use Rattle.planfile.specs.RoundTrip.{rows_in_order, row_idents, InListingOrder}

-- rows have 7 bytes each
pub in_order_length : (v : View) (starts order : List ℕ) → length (rows_in_order v starts order) ≡ 7 * length order
unfolding rows_in_order
in_order_length v starts [] = refl
in_order_length v starts (k ∷ order) =
    length-append (row_field (demand_at v.demands k).ident (start_at starts k)) (rows_in_order v starts order)
    ∙ omega (arith, row_length (demand_at v.demands k).ident (start_at starts k), in_order_length v starts order)

-- the file of a plan is its rows in listing order
fields_counted : (v : View) (starts : List ℕ) (n k : ℕ) → k + n ≡ length v.demands →
    row_fields starts k (drop k v.demands) ≡ rows_in_order v starts (count_up n k)
unfolding rows_in_order count_up
fields_counted v starts zero k e = rows_done starts v.demands k (omega arith)
fields_counted v starts (suc n) k e =
    rows_turn starts v.demands k (omega arith)
    ∙ ap (λ (rest : List ℕ). row_field (demand_at v.demands k).ident (start_at starts k) ++ rest)
    (ap (λ (j : ℕ). row_fields starts j (drop j v.demands)) (add-one k) ∙ fields_counted v starts n (suc k) (omega arith))

pub in_listing_order : (v : View) (starts : List ℕ) → length v.demands ≡ v.demand_count → encode_plan v starts ≡ rows_in_order v starts (listing v.demand_count)
unfolding encode_plan listing
in_listing_order v starts counted = fields_counted v starts v.demand_count 0 (omega arith)

-- a row of an order, from its offset on
in_order_drop : (v : View) (starts order : List ℕ) (k : ℕ) → k < length order →
    drop (7 * k) (rows_in_order v starts order)
    ≡ row_field (demand_at v.demands (get_or order k 0)).ident (start_at starts (get_or order k 0)) ++ rows_in_order v starts (drop (suc k) order)
unfolding rows_in_order row_field field two_bytes
in_order_drop v starts [] k h = absurd (omega arith)
in_order_drop v starts (i ∷ order) zero h = refl
in_order_drop v starts (i ∷ order) (suc k) h =
    let next : 7 * suc k ≡ suc (suc (suc (suc (suc (suc (suc (7 * k))))))) = omega arith in
    ap (λ (n : ℕ). drop n (rows_in_order v starts (i ∷ order))) next ∙ in_order_drop v starts order k (omega arith)

-- numbers that count up are those counted
counts_up : (order : List ℕ) (k : ℕ) → ((j : ℕ) → j < length order → get_or order j 0 ≡ k + j) → order ≡ count_up (length order) k
unfolding count_up
counts_up [] k h = refl
counts_up (i ∷ order) k h =
    ap₂ (λ (x : ℕ) (l : List ℕ). x ∷ l) (h 0 (omega arith) ∙ omega arith)
    (counts_up order (suc k) (λ j b. h (suc j) (omega arith) ∙ omega arith))

module _ (v : View) (sound : SoundRequest v) (there : length v.demands ≡ v.demand_count) (named : Idents16 v)
    (starts order : List ℕ) (arranged : Arrange order (listing v.demand_count)) where
  -- an order has as many entries as there are demands, each a listing position
  many : length order ≡ v.demand_count
  many = arrange_length order (listing v.demand_count) arranged ∙ listing_length v.demand_count

  entry_listed : (k : ℕ) → k < v.demand_count → get_or order k 0 < v.demand_count
  entry_listed k h = listing_below v.demand_count (get_or order k 0) (arrange_mem order (listing v.demand_count) arranged (get_or order k 0) (get_or_mem order k (omega (arith, many))))

  -- the ident in a row of an order
  ident_in_order : (k : ℕ) → k < v.demand_count → number16 (rows_in_order v starts order) (7 * k + 3) ≡ (demand_at v.demands (get_or order k 0)).ident
  unfolding row_field field two_bytes
  ident_in_order k h =
      let i = get_or order k 0 in
      number_at (rows_in_order v starts order) (7 * k) (demand_at v.demands i).ident
      (row_field (demand_at v.demands i).ident (start_at starts i) ++ rows_in_order v starts (drop (suc k) order)) 3 (7 * k + 3)
      (in_order_drop v starts order k (omega (arith, many))) (named.each i (omega (arith, entry_listed k h))) refl refl refl

  -- two demands of one ident are one
  same_ident : (i j : ℕ) → i < v.demand_count → j < v.demand_count → (demand_at v.demands i).ident ≡ (demand_at v.demands j).ident → i ≡ j
  same_ident i j hi hj e =
      by_test (ltb i j)
      (λ t. absurd (sound.idents_once i j (ltb-true i j t) hj e))
      (λ f. by_test (ltb j i)
      (λ t. absurd (sound.idents_once j i (ltb-true j i t) hi (sym e)))
      (λ g. let a = ltb-false i j f in let b = ltb-false j i g in omega arith))

  -- rows whose idents are the demands' in listing order are in that order
  pub order_is_listing : InListingOrder v (rows_in_order v starts order) → order ≡ listing v.demand_count
  unfolding InListingOrder row_idents listing
  order_is_listing same =
      let K = v.demand_count in
      let s = rows_in_order v starts order in
      let size = in_order_length v starts order in
      let rows : length s / 7 ≡ K = omega (arith, many) in
      counts_up order 0
      (λ k h.
      let low : k < K = omega (arith, many) in
      same_ident (get_or order k 0) k (entry_listed k low) low
      (sym (ident_in_order k low)
      ∙ (sym (listing_at (λ (row : ℕ). number16 s (7 * row + 3)) (length s / 7) k 0 (omega arith))
      ∙ (ap (λ (l : List ℕ). get_or l k 0) same ∙ ident_at v.demands k)))
      ∙ omega arith)
      ∙ ap (λ (n : ℕ). count_up n 0) many
