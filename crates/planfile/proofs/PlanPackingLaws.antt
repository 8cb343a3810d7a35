-- Arrays by listing position: copied, filled row by row, and what their front holds.
use Rattle.std.specs.Prelude.{ℕ, suc, ◌+◌, ◌-◌, ◌≤◌, ◌<◌, Bool, true, false, cond, ◌||◌, List, [], ◌∷◌, map, ◌≡◌, refl, length, take, set, get_or, replicate, eqb, ltb, Option, Some, None, is_some, unwrap_or, Ok, Err}
use Rattle.std.proofs.Common.{sym, ap, ◌∙◌, arith, add-one, length-set, take-suc, length-take-le, get_or-take, get_or-set_same, get_or-set_other, ext_get_or, eq-eqb, ne_eqb, eqb-true, ltb-true, ltb-false, ap₂}
use Rattle.std.proofs.lemmas.List.{length-map}
use Rattle.std.proofs.lemmas.List.Recursion.{is_position_or_len}
use Rattle.std.proofs.lemmas.Bool.{eqb-false}
use Rattle.refusal.specs.declared.Refusal.{Refusal}
use Rattle.theory.specs.Problem.{Row, start_in}
use Rattle.theory.specs.Orders.{count_up, listing}
use Rattle.theory.proofs.ListingLaws.{listing_length}
use Rattle.request.specs.View.{DemandView, View, view_demand, demand_at, idents}
use Rattle.theory.proofs.TestLaws.{by_test}
use Rattle.fields.specs.Field.{number16, body_length, field_end}
use Rattle.fields.specs.inner.Holds.{FieldHolds}
use Rattle.request.specs.Packing.{padded}
use Rattle.request.proofs.PackingLaws.{take_padded, set_padded}
use Rattle.request.proofs.ViewLaws.{idents_length, ident_at}
use Rattle.meeting.specs.Plan.{starts_of}
use Rattle.meeting.specs.MeetingLaws.{listing_at}
use Rattle.planfile.specs.PlanReading.{position_of, given, row_in, check_row, rows_refused, rows_read, read_rows, given_to}
use Rattle.planfile.proofs.PlanReadingLaws.{rows_end, rows_refuse, rows_more}
use Rattle.planfile.specs.inner.PlanPacking.{row_start, row_starts, pack_rows, place_of, RowsSoFar}
use Rattle.std.specs.List.{position_or_len}
use Rattle.request.specs.declared.Demand.{Demand}

-- one entry more in an array
pub padded_turn : (all : List ℕ) (k : ℕ) → k < length all → k < 200 →
    set (padded 200 0 (take k all)) k (get_or all k 0) ≡ padded 200 0 (take (k + 1) all)
padded_turn all k h room =
    let taken : length (take k all) ≡ k = length-take-le k all (omega arith) in
    ap (λ (n : ℕ). set (padded 200 0 (take k all)) n (get_or all k 0)) (sym taken)
    ∙ (set_padded 200 0 (take k all) (get_or all k 0) (omega arith)
    ∙ ap (padded 200 0) (sym (take-suc all k 0 h) ∙ ap (λ (n : ℕ). take n all) (sym (add-one k))))

-- one ident more in an array
pub idents_turn : (demands : List DemandView) (k : ℕ) → k < length demands → k < 200 →
    set (padded 200 0 (take k (idents demands))) k (demand_at demands k).ident ≡ padded 200 0 (take (k + 1) (idents demands))
idents_turn demands k h room =
    ap (λ (x : ℕ). set (padded 200 0 (take k (idents demands))) k x) (sym (ident_at demands k))
    ∙ padded_turn (idents demands) k (omega (arith, idents_length demands)) room

-- what is made of the first listing positions is as long as that
pub made_length : {A : Type 0} (f : ℕ → A) (n : ℕ) → length (map f (listing n)) ≡ n
made_length f n = length-map (listing n) f ∙ listing_length n

-- its front is what is made of fewer
pub made_front : {A : Type 0} (f : ℕ → A) (none : A) (k n : ℕ) → k ≤ n → take k (map f (listing n)) ≡ map f (listing k)
made_front f none k n h =
    let full = made_length f n in
    let front : length (take k (map f (listing n))) ≡ k = length-take-le k (map f (listing n)) (omega arith) in
    ext_get_or none (take k (map f (listing n))) (map f (listing k)) (front ∙ sym (made_length f k))
    (λ i l. get_or-take k (map f (listing n)) i none (omega arith) ∙ (listing_at f n i none (omega arith) ∙ sym (listing_at f k i none (omega arith))))

-- one entry of it changed
made_set : {A : Type 0} (f g : ℕ → A) (none x : A) (n k : ℕ) → k < n → g k ≡ x → ((i : ℕ) → (i ≡ k → ⊥) → g i ≡ f i) →
    set (map f (listing n)) k x ≡ map g (listing n)
made_set f g none x n k h here other =
    let full = made_length f n in
    ext_get_or none (set (map f (listing n)) k x) (map g (listing n)) (length-set (map f (listing n)) k x ∙ (full ∙ sym (made_length g n)))
    (λ i l.
    let within : i < n = omega (arith, length-set (map f (listing n)) k x) in
    by_test (eqb i k)
    (λ t. let same = eqb-true i k t in
    ap (λ (j : ℕ). get_or (set (map f (listing n)) k x) j none) same
    ∙ (get_or-set_same (map f (listing n)) k x none (omega arith) ∙ (sym here ∙ (ap g (sym same) ∙ sym (listing_at g n i none within)))))
    (λ e. let differ = eqb-false i k e in
    get_or-set_other (map f (listing n)) k i x none differ
    ∙ (listing_at f n i none within ∙ (sym (other i differ) ∙ sym (listing_at g n i none within)))))

-- a new row is marked
pub given_set : (n : ℕ) (rows : List Row) (r : Row) → r.who < n → set (given_to n rows) r.who true ≡ given_to n (r ∷ rows)
unfolding given_to given
given_set n rows r h =
    made_set (given rows) (given (r ∷ rows)) false true n r.who h
    (ap (λ (b : Bool). b || given rows r.who) (eq-eqb r.who r.who refl))
    (λ i differ. ap (λ (b : Bool). b || given rows i) (ne_eqb r.who i (λ e. differ (sym e))))

-- and its start is kept
pub starts_set : (n : ℕ) (rows : List Row) (r : Row) → r.who < n → set (starts_of n rows) r.who r.at ≡ starts_of n (r ∷ rows)
unfolding starts_of start_in
starts_set n rows r h =
    made_set (start_in rows) (start_in (r ∷ rows)) 0 r.at n r.who h
    (ap (λ (b : Bool). cond b r.at (start_in rows r.who)) (eq-eqb r.who r.who refl))
    (λ i differ. ap (λ (b : Bool). cond b r.at (start_in rows i)) (ne_eqb r.who i (λ e. differ (sym e))))

-- a new row gives its start
pub row_set : (n : ℕ) (rows : List Row) (r : Row) → r.who < n → set (row_starts n rows) r.who (Some r.at) ≡ row_starts n (r ∷ rows)
unfolding row_starts row_start given start_in
row_set n rows r h =
    made_set (row_start rows) (row_start (r ∷ rows)) None (Some r.at) n r.who h
    (ap (λ (b : Bool). cond (b || given rows r.who) (Some (cond b r.at (start_in rows r.who))) None) (eq-eqb r.who r.who refl))
    (λ i differ. ap (λ (b : Bool). cond (b || given rows i) (Some (cond b r.at (start_in rows i))) None) (ne_eqb r.who i (λ e. differ (sym e))))

-- a position has a start where it has a row
some_given : (b : Bool) (n : ℕ) → is_some (cond b (Some n) None) ≡ b
some_given true n = refl
some_given false n = refl

start_given : (rows : List Row) (k : ℕ) → is_some (row_start rows k) ≡ given rows k
unfolding row_start
start_given rows k = some_given (given rows k) (start_in rows k)

-- what an array says of a position
pub given_at : (rows : List Row) (array : List (Option ℕ)) (k : ℕ) (b : Bool) → array ≡ row_starts 200 rows → k < 200 → is_some (get_or array k None) ≡ b → given rows k ≡ b
unfolding row_starts
given_at rows array k b held h e =
    sym (start_given rows k) ∙ ap is_some (sym (listing_at (row_start rows) 200 k None h)) ∙ ap (λ (l : List (Option ℕ)). is_some (get_or l k None)) (sym held) ∙ e

-- the demand that an array of idents finds for a row
pub row_who : (v : View) (s : List ℕ) (at : ℕ) (array : List ℕ) (ident who : ℕ) → array ≡ padded 200 0 (idents v.demands) →
    ident ≡ number16 s (at + 3) → who ≡ position_of ident (take (length v.demands) array) → (row_in v s at).who ≡ who
unfolding row_in
row_who v s at array ident who held read found =
    let all = idents v.demands in
    let front : take (length v.demands) array ≡ all =
    ap (λ (n : ℕ). take n array) (sym (idents_length v.demands)) ∙ (ap (λ (l : List ℕ). take (length all) l) held ∙ take_padded 200 0 all) in
    sym (found ∙ (ap (λ (l : List ℕ). position_of ident l) front ∙ ap (λ (x : ℕ). position_of x all) read))

-- where there is no row, its start reads as 0
no_start : (rows : List Row) (k : ℕ) → given rows k ≡ false → start_in rows k ≡ 0
unfolding given start_in
no_start [] k h = refl
no_start (r ∷ rows) k h =
    by_test (eqb r.who k)
    (λ (t : eqb r.who k ≡ true). let clash = sym (ap (λ (b : Bool). b || given rows k) t) ∙ h in absurd (let z : ◌≡◌ {A = ℕ} 0 1 = cc in omega arith))
    (λ (f : eqb r.who k ≡ false). rw f (no_start rows k (rw f at h)))

or_zero : (b : Bool) (n : ℕ) → (b ≡ false → n ≡ 0) → unwrap_or (cond b (Some n) None) 0 ≡ n
or_zero true n h = refl
or_zero false n h = sym (h refl)

start_read : (rows : List Row) (k : ℕ) → unwrap_or (row_start rows k) 0 ≡ start_in rows k
unfolding row_start
start_read rows k = or_zero (given rows k) (start_in rows k) (no_start rows k)

-- what is made of a list in two steps is made in one
made_twice : {A B C : Type 0} (f : B → C) (g : A → B) (h : A → C) → ((a : A) → f (g a) ≡ h a) → (l : List A) → map f (map g l) ≡ map h l
made_twice f g h same [] = refl
made_twice f g h same (a ∷ l) = ap₂ (λ c cs. c ∷ cs) (same a) (made_twice f g h same l)

-- which positions have a start, and which starts they are
pub marks_given : (n : ℕ) (rows : List Row) → map is_some (row_starts n rows) ≡ given_to n rows
unfolding row_starts given_to
marks_given n rows = made_twice is_some (row_start rows) (given rows) (start_given rows) (listing n)

pub starts_read : (n : ℕ) (rows : List Row) → map (λ (row : Option ℕ). unwrap_or row 0) (row_starts n rows) ≡ starts_of n rows
unfolding row_starts starts_of
starts_read n rows = made_twice (λ (row : Option ℕ). unwrap_or row 0) (row_start rows) (start_in rows) (start_read rows) (listing n)

-- an ident that has a place stands there first
pub place_some : (x : ℕ) (xs : List ℕ) (k : ℕ) → place_of x xs ≡ Some k → (position_of x xs ≡ k) × (k < length xs)
unfolding place_of
place_some x xs k h =
    by_test (ltb (position_of x xs) (length xs))
    (λ (t : ltb (position_of x xs) (length xs) ≡ true).
    let same : position_of x xs ≡ k = let e = sym (ap (λ (b : Bool). cond b (Some (position_of x xs)) None) t) ∙ h in cc in
    (same, let within = ltb-true _ _ t in omega arith))
    (λ (f : ltb (position_of x xs) (length xs) ≡ false).
    let clash = sym (ap (λ (b : Bool). cond b (Some (position_of x xs)) None) f) ∙ h in absurd (let z : ◌≡◌ {A = ℕ} 0 1 = cc in omega arith))

-- one that has none is not among them
pub place_none : (x : ℕ) (xs : List ℕ) → place_of x xs ≡ None → length xs ≤ position_of x xs
unfolding place_of
place_none x xs h =
    by_test (ltb (position_of x xs) (length xs))
    (λ (t : ltb (position_of x xs) (length xs) ≡ true).
    let clash = sym (ap (λ (b : Bool). cond b (Some (position_of x xs)) None) t) ∙ h in absurd (let z : ◌≡◌ {A = ℕ} 0 1 = cc in omega arith))
    (λ (f : ltb (position_of x xs) (length xs) ≡ false). ltb-false _ _ f)

-- the first demand of an ident
pub place_seen : (ident : ℕ) (demands : List Demand) →
    cond (ltb (position_or_len (λ (d : Demand). eqb d.ident ident) demands) (length demands)) (Some (position_or_len (λ (d : Demand). eqb d.ident ident) demands)) None
    ≡ place_of ident (idents (map view_demand demands))
unfolding place_of idents view_demand position_of
place_seen ident demands =
    let test : Demand → Bool = λ (d : Demand). eqb d.ident ident in
    let of : List Demand → ℕ = λ (ds : List Demand). position_of ident (map (λ (d : DemandView). d.ident) (map view_demand ds)) in
    let first : of demands ≡ position_or_len test demands
    = is_position_or_len of test refl (λ d ds. let more : suc (of ds) ≡ 1 + of ds = omega arith in ap (λ (n : ℕ). cond (test d) 0 n) more) demands in
    let counted = length-map (map view_demand demands) (λ (d : DemandView). d.ident) ∙ length-map demands view_demand in
    rw (← first, counted) refl

-- the row of a field whose ident has a place
pub row_place : (v : View) (s : List ℕ) (at ident who : ℕ) → ident ≡ number16 s (at + 3) → place_of ident (idents v.demands) ≡ Some who →
    ((row_in v s at).who ≡ who) × (who < length v.demands)
unfolding row_in
row_place v s at ident who read found =
    let place = place_some ident (idents v.demands) who found in
    (ap (λ (x : ℕ). position_of x (idents v.demands)) (sym read) ∙ place.0, omega (arith, place.1, idents_length v.demands))

-- and of one whose ident has none
pub row_no_place : (v : View) (s : List ℕ) (at ident : ℕ) → ident ≡ number16 s (at + 3) → place_of ident (idents v.demands) ≡ None →
    length v.demands ≤ (row_in v s at).who
unfolding row_in
row_no_place v s at ident read missing =
    let same = ap (λ (x : ℕ). position_of x (idents v.demands)) read in
    omega (arith, place_none ident (idents v.demands) missing, idents_length v.demands)

-- a sound row ends 7 bytes on
pub row_end : (s : List ℕ) (at : ℕ) → FieldHolds s at 4 4 4 → (field_end s at ≡ at + 7) × (at + 7 ≤ length s)
unfolding field_end body_length
row_end s at holds =
    let four : number16 s (at + 1) ≡ 4 = omega (arith, holds.long_enough, holds.short_enough) in
    (omega arith, omega (arith, holds.within))

-- the reading begins
pub so_far_begin : (v : View) (s : List ℕ) → RowsSoFar v s 0 (replicate 200 None)
unfolding row_starts row_start given start_in listing count_up
so_far_begin v s = record { rows = []; count = 0; offset = refl; within = omega arith; held = refl; goes_on = refl }

module _ (v : View) (s : List ℕ) (at : ℕ) (array : List (Option ℕ)) (short : length s ≤ 1400) (so_far : RowsSoFar v s at array) where
  -- there is fuel for one row more
  one_more : 201 - so_far.count ≡ suc (200 - so_far.count)
  one_more = omega (arith, so_far.offset, so_far.within)

  goes_on_from : read_rows 201 v s 0 [] ≡ read_rows (suc (200 - so_far.count)) v s at so_far.rows
  goes_on_from = so_far.goes_on ∙ ap (λ (n : ℕ). read_rows n v s at so_far.rows) one_more

  -- it ends with the file
  pub so_far_end : at ≡ length s → read_rows 201 v s 0 [] ≡ rows_read so_far.rows
  so_far_end e = goes_on_from ∙ rows_end v s at so_far.rows (200 - so_far.count) e

  -- it ends with a refusal
  pub so_far_refused : (why : Refusal) → (at ≡ length s → ⊥) → check_row v s at so_far.rows ≡ Err why → read_rows 201 v s 0 [] ≡ rows_refused why
  so_far_refused why more h = goes_on_from ∙ rows_refuse v s at so_far.rows (200 - so_far.count) why more h

  -- so the rows are refused, or stand in the array
  pub so_far_fault : (why : Refusal) → (at ≡ length s → ⊥) → check_row v s at so_far.rows ≡ Err why → Err why ≡ pack_rows (read_rows 201 v s 0 [])
  unfolding pack_rows
  so_far_fault why more h = sym (ap pack_rows (so_far_refused why more h))

  pub so_far_read : at ≡ length s → Ok array ≡ pack_rows (read_rows 201 v s 0 [])
  unfolding pack_rows
  so_far_read e = ap Ok so_far.held ∙ sym (ap pack_rows (so_far_end e))

  -- it goes on behind a sound row
  pub so_far_more : (at ≡ length s → ⊥) → check_row v s at so_far.rows ≡ Ok tt → field_end s at ≡ at + 7 → at + 7 ≤ length s → (row_in v s at).who < 200 →
      RowsSoFar v s (at + 7) (set array (row_in v s at).who (Some (row_in v s at).at))
  so_far_more more h end within listed =
      let r = row_in v s at in
      let left : 200 - so_far.count ≡ 201 - (so_far.count + 1) = omega arith in
      record {
        rows = r ∷ so_far.rows;
        count = so_far.count + 1;
        offset = omega (arith, so_far.offset);
        within = within;
        held = ap (λ (l : List (Option ℕ)). set l r.who (Some r.at)) so_far.held ∙ row_set 200 so_far.rows r listed;
        goes_on =
            goes_on_from
            ∙ (rows_more v s at so_far.rows (200 - so_far.count) more h
            ∙ (ap (λ (n : ℕ). read_rows (200 - so_far.count) v s n (r ∷ so_far.rows)) end
            ∙ ap (λ (n : ℕ). read_rows n v s (at + 7) (r ∷ so_far.rows)) left));
      }
