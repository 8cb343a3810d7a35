-- Rows that stand in a file, rows that are read back, and what was read and the bytes it was read from.
use Rattle.std.specs.Prelude.{ℕ, ◌+◌, ◌≤◌, ◌<◌, true, false, ◌⊎◌, ◌≡◌, length, drop}
use mathlib.Core.List.{List, Memᴰ}
use Rattle.theory.specs.Earlier.{NoRepeats}
use Rattle.theory.specs.Problem.{Row, start_in}
use Rattle.request.specs.View.{View, demand_at, width_of}
use Rattle.fields.specs.Field.{number16}
use Rattle.fields.specs.inner.Holds.{FieldHolds}
use Rattle.meeting.specs.Plan.{start_at}
use Rattle.planfile.specs.PlanReading.{given, rows_read, read_rows}
use Rattle.planfile.specs.RoundTrip.{rows_in_order}

-- a row that stands at an offset: it is sound as a field, its ident and its start are read from it, and what follows is behind it
pub record RowThere (s : List ℕ) (at ident start : ℕ) (rest : List ℕ) : Type 0 where
  pub sound_field : FieldHolds s at 4 4 4
  pub ident_read : number16 s (at + 3) ≡ ident
  pub start_read : number16 s (at + 5) ≡ start
  pub behind : drop (at + 7) s ≡ rest

-- what a sound row says: its demand is listed, has no row yet, and ends within the band
pub record NewRowHolds (v : View) (rows : List Row) (r : Row) : Type 0 where
  pub listed : r.who < length v.demands
  pub first : given rows r.who ≡ false
  pub within : r.at + width_of (demand_at v.demands r.who) ≤ v.band.slots

-- each row ends within the band
abbrev pub RowsWithin : View → List Row → Type 0
RowsWithin v rows = (k : ℕ) → given rows k ≡ true → start_in rows k + width_of (demand_at v.demands k) ≤ v.band.slots

-- the starts that rows give are these
abbrev pub RowsOf : List ℕ → List Row → Type 0
RowsOf starts rows = (k : ℕ) → given rows k ≡ true → start_in rows k ≡ start_at starts k

-- the rows of an order, read after others: each of them is there, those before still are, and all starts are the ones written
pub record RowsBack (v : View) (s : List ℕ) (left at : ℕ) (rows : List Row) (starts order : List ℕ) : Type 0 where
  pub out : List Row
  pub read : read_rows left v s at rows ≡ rows_read out
  pub has_order : (k : ℕ) → Memᴰ k order → given out k ≡ true
  pub has_rows : (k : ℕ) → given rows k ≡ true → given out k ≡ true
  pub starts_kept : RowsOf starts rows → RowsOf starts out

-- what was read after some rows, up to the end of the file: the bytes are the rows of an order, of demands that are listed and had no
-- row yet, none twice; and what those before gave is kept
pub record RowsEncoded (v : View) (s : List ℕ) (at : ℕ) (rows out : List Row) (starts : List ℕ) : Type 0 where
  pub order : List ℕ
  pub encoded : drop at s ≡ rows_in_order v starts order
  pub once : NoRepeats order
  pub new : (k : ℕ) → Memᴰ k order → given rows k ≡ false
  pub listed : (k : ℕ) → Memᴰ k order → k < v.demand_count
  pub has : (k : ℕ) → given out k ≡ true → (given rows k ≡ true) ⊎ Memᴰ k order
  pub kept : (k : ℕ) → given rows k ≡ true → start_in out k ≡ start_in rows k
