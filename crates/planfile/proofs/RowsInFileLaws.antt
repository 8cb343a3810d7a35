-- One row: what is read is what was written, and what was written is what is read; and what a row more changes.
use Rattle.std.specs.Prelude.{ℕ, zero, suc, ◌+◌, ◌-◌, ◌*◌, ◌/◌, ◌%◌, ◌≤◌, ◌<◌, List, [], ◌∷◌, ◌++◌, ◌⊎◌, ◌≢◌, ◌≡◌, refl, eqb, length, get_or, drop}
use mathlib.Core.Bool.{Bool, true, false, cond, ◌||◌, or-true}
use Rattle.std.proofs.Common.{inl, inr, sym, ap, ◌∙◌, add-one, arith, drop-cons, drop-drop, eq-eqb, ne_eqb, eqb-true}
use Rattle.std.proofs.lemmas.Bool.{eqb-false}
use Rattle.theory.specs.Problem.{Row, start_in}
use Rattle.request.specs.Encoding.{two_bytes, field}
use Rattle.fields.specs.FieldLaws.{byte_at, left_over, number_at}
use Rattle.fields.specs.inner.Holds.{FieldHolds}
use Rattle.fields.specs.Field.{number16}
use Rattle.request.specs.View.{idents, View, demand_at}
use Rattle.request.specs.RoundTrip.{Bytes}
use Rattle.request.specs.Sound.{SoundRequest}
use Rattle.theory.proofs.TestLaws.{by_test}
use Rattle.planfile.specs.PlanFile.{row_field}
use Rattle.request.proofs.ViewLaws.{idents_length, ident_at}
use Rattle.planfile.specs.PlanReading.{position_of, given}
use Rattle.planfile.specs.inner.RowsInFile.{RowThere}

-- a row that follows an offset stands there, if its numbers are in range
pub row_there : (s : List ℕ) (at ident start : ℕ) (rest : List ℕ) → at ≤ length s → drop at s ≡ row_field ident start ++ rest →
    ident < 65536 → start < 65536 → RowThere s at ident start rest
unfolding row_field field two_bytes
row_there s at ident start rest within e named started =
    let bytes : List ℕ = 4 ∷ 0 ∷ 4 ∷ ident / 256 ∷ ident % 256 ∷ start / 256 ∷ start % 256 ∷ rest in
    let size : length s - at ≡ suc (suc (suc (suc (suc (suc (suc (length rest))))))) = left_over s at bytes e in
    let four : number16 s (at + 1) ≡ 4 = number_at s at 4 bytes 1 (at + 1) e (omega arith) refl refl refl in
    record {
      sound_field = record { within = omega arith; tagged = byte_at s at bytes e at 0 (omega arith); long_enough = omega arith; short_enough = omega arith };
      ident_read = number_at s at ident bytes 3 (at + 3) e named refl refl refl;
      start_read = number_at s at start bytes 5 (at + 5) e started refl refl refl;
      behind = sym (drop-drop 7 at s) ∙ ap (drop 7) e;
    }

-- seven bytes from an offset on
seven_bytes : (s : List ℕ) (at : ℕ) → at + 7 ≤ length s →
    drop at s ≡ get_or s at 0 ∷ get_or s (at + 1) 0 ∷ get_or s (at + 2) 0 ∷ get_or s (at + 3) 0 ∷ get_or s (at + 4) 0 ∷ get_or s (at + 5) 0 ∷ get_or s (at + 6) 0 ∷ drop (at + 7) s
seven_bytes s at long =
    let two : at + 2 ≡ suc (at + 1) = omega arith in
    let three : at + 3 ≡ suc (at + 2) = omega arith in
    let four : at + 4 ≡ suc (at + 3) = omega arith in
    let five : at + 5 ≡ suc (at + 4) = omega arith in
    let six : at + 6 ≡ suc (at + 5) = omega arith in
    let seven : at + 7 ≡ suc (at + 6) = omega arith in
    drop-cons s at 0 (omega arith) ∙ ap (λ (l : List ℕ). get_or s at 0 ∷ l)
    (ap (λ (n : ℕ). drop n s) (sym (add-one at)) ∙ drop-cons s (at + 1) 0 (omega arith) ∙ ap (λ (l : List ℕ). get_or s (at + 1) 0 ∷ l)
    (ap (λ (n : ℕ). drop n s) (sym two) ∙ drop-cons s (at + 2) 0 (omega arith) ∙ ap (λ (l : List ℕ). get_or s (at + 2) 0 ∷ l)
    (ap (λ (n : ℕ). drop n s) (sym three) ∙ drop-cons s (at + 3) 0 (omega arith) ∙ ap (λ (l : List ℕ). get_or s (at + 3) 0 ∷ l)
    (ap (λ (n : ℕ). drop n s) (sym four) ∙ drop-cons s (at + 4) 0 (omega arith) ∙ ap (λ (l : List ℕ). get_or s (at + 4) 0 ∷ l)
    (ap (λ (n : ℕ). drop n s) (sym five) ∙ drop-cons s (at + 5) 0 (omega arith) ∙ ap (λ (l : List ℕ). get_or s (at + 5) 0 ∷ l)
    (ap (λ (n : ℕ). drop n s) (sym six) ∙ drop-cons s (at + 6) 0 (omega arith) ∙ ap (λ (l : List ℕ). get_or s (at + 6) 0 ∷ l)
    (ap (λ (n : ℕ). drop n s) (sym seven))))))))

-- a sound row is the row of the ident and the start that are read from it
pub row_written : (s : List ℕ) (at : ℕ) → Bytes s → FieldHolds s at 4 4 4 →
    drop at s ≡ row_field (number16 s (at + 3)) (number16 s (at + 5)) ++ drop (at + 7) s
unfolding row_field field two_bytes number16
row_written s at bytes h =
    let one : at + 1 + 1 ≡ at + 2 = omega arith in
    let three : at + 3 + 1 ≡ at + 4 = omega arith in
    let five : at + 5 + 1 ≡ at + 6 = omega arith in
    let small = bytes.each (at + 4) in
    let little = bytes.each (at + 6) in
    let body : 256 * get_or s (at + 1) 0 + get_or s (at + 2) 0 ≡ 4 =
    ap (λ (n : ℕ). 256 * get_or s (at + 1) 0 + get_or s n 0) (sym one) ∙ omega (arith, h.long_enough, h.short_enough) in
    let high : get_or s (at + 1) 0 ≡ 0 = omega arith in
    let low : get_or s (at + 2) 0 ≡ 4 = omega arith in
    let ident-high : (256 * get_or s (at + 3) 0 + get_or s (at + 4) 0) / 256 ≡ get_or s (at + 3) 0 = omega arith in
    let ident-low : (256 * get_or s (at + 3) 0 + get_or s (at + 4) 0) % 256 ≡ get_or s (at + 4) 0 = omega arith in
    let start-high : (256 * get_or s (at + 5) 0 + get_or s (at + 6) 0) / 256 ≡ get_or s (at + 5) 0 = omega arith in
    let start-low : (256 * get_or s (at + 5) 0 + get_or s (at + 6) 0) % 256 ≡ get_or s (at + 6) 0 = omega arith in
    seven_bytes s at (omega (arith, h.within)) ∙ rw (three, five, ident-high, ident-low, start-high, start-low, h.tagged, high, low)

-- where a number is found in a list, there it stands
pub position_found : (x : ℕ) (l : List ℕ) → position_of x l < length l → get_or l (position_of x l) 0 ≡ x
unfolding position_of
position_found x [] h = absurd (omega arith)
position_found x (y ∷ l) h =
    by_test (eqb y x)
    (λ t. ap (λ (b : Bool). get_or (y ∷ l) (cond b 0 (suc (position_of x l))) 0) t ∙ eqb-true y x t)
    (λ f.
    let shorter : suc (position_of x l) < suc (length l) = rw f at h in
    ap (λ (b : Bool). get_or (y ∷ l) (cond b 0 (suc (position_of x l))) 0) f ∙ position_found x l (omega arith))

-- where no number stands twice, each is found where it stands
pub position_once : (l : List ℕ) (k : ℕ) → k < length l → ((j : ℕ) → j < k → get_or l j 0 ≢ get_or l k 0) → position_of (get_or l k 0) l ≡ k
unfolding position_of
position_once [] k h once = absurd (omega arith)
position_once (y ∷ l) zero h once = rw (eq-eqb y y refl)
position_once (y ∷ l) (suc k) h once =
    rw (ne_eqb y (get_or l k 0) (once 0 (omega arith)), position_once l k (omega arith) (λ j b. once (suc j) (omega arith)))

-- so the demand of an ident is found at its listing position
pub ident_found : (v : View) → SoundRequest v → length v.demands ≡ v.demand_count → (k : ℕ) → k < v.demand_count →
    position_of (demand_at v.demands k).ident (idents v.demands) ≡ k
ident_found v sound counted k h =
    let all = idents v.demands in
    let many = idents_length v.demands in
    ap (λ (x : ℕ). position_of x all) (sym (ident_at v.demands k))
    ∙ position_once all k (omega arith)
    (λ j b e. sound.idents_once j k b h (sym (ident_at v.demands j) ∙ (e ∙ ident_at v.demands k)))

-- a new row is there, and those before still are
pub given_new : (rows : List Row) (r : Row) → given (r ∷ rows) r.who ≡ true
unfolding given
given_new rows r = ap (λ (b : Bool). b || given rows r.who) (eq-eqb r.who r.who refl)

pub given_still : (rows : List Row) (r : Row) (k : ℕ) → given rows k ≡ true → given (r ∷ rows) k ≡ true
unfolding given
given_still rows r k h = rw h (or-true (eqb r.who k))

-- there is no other
pub given_cases : (rows : List Row) (r : Row) (k : ℕ) → given (r ∷ rows) k ≡ true → (k ≡ r.who) ⊎ (given rows k ≡ true)
unfolding given
given_cases rows r k h =
    by_test (eqb r.who k)
    (λ t. inl (sym (eqb-true r.who k t)))
    (λ f. inr (let later : given rows k ≡ true = rw f at h in later))

-- what has no row with a new one had none before, and is another demand
pub given_none : (rows : List Row) (r : Row) (k : ℕ) → given (r ∷ rows) k ≡ false → (given rows k ≡ false) × (r.who ≢ k)
unfolding given
given_none rows r k h =
    by_test (eqb r.who k)
    (λ t. absurd (let clash : true ≡ false = rw t at h in mathlib.Core.Bool.false≢true (sym clash)))
    (λ f. let later : given rows k ≡ false = rw f at h in (later, eqb-false r.who k f))

-- a new row's start is its own
pub start_new : (rows : List Row) (r : Row) → start_in (r ∷ rows) r.who ≡ r.at
unfolding start_in
start_new rows r = ap (λ (b : Bool). cond b r.at (start_in rows r.who)) (eq-eqb r.who r.who refl)

-- and the others' stay
pub start_still : (rows : List Row) (r : Row) (k : ℕ) → r.who ≢ k → start_in (r ∷ rows) k ≡ start_in rows k
unfolding start_in
start_still rows r k differ = ap (λ (b : Bool). cond b r.at (start_in rows k)) (ne_eqb r.who k differ)
