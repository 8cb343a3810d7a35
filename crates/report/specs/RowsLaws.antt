-- Laws of the rows: how small their numbers are, and how one stands behind the other.
use Rattle.std.specs.Prelude.{ℕ, ◌+◌, ◌*◌, ◌<◌, ◌≤◌, List, [], ◌++◌, ◌≡◌, ℤ, pos, ◌*ℤ◌, length, drop, get_or, Ok, Err}
use Rattle.std.proofs.Common.{ap, sym, ◌∙◌, arith, add-one, le-leb, drop_of_length-le, drop-cons}
use Rattle.std.specs.Int.Signed.{mag}
use Rattle.refusal.specs.declared.Refusal.{Refusal}
use Rattle.grid.specs.declared.Band.{Band}
use Rattle.grid.specs.declared.Frequency.{Frequency}
use Rattle.grid.specs.Grid.{frequency_reply, central_number, central_mhz, frequency_of}
use Rattle.grid.specs.ReplyLaws.{frequency_centred}
use Rattle.grid.specs.GridLaws.{centres}
use Rattle.grid.specs.SignedLaws.{mag_sum, mag_6250}
use Rattle.request.specs.declared.Request.{Request}
use Rattle.request.specs.View.{DemandView, View, view, view_demand, demand_at, no_demand, no_entry, width_of}
use Rattle.request.specs.Sound.{SoundRequest}
use Rattle.request.proofs.ViewLaws.{demands_shown, demand_shown}
use Rattle.report.specs.declared.Page.{Page}
use Rattle.report.specs.Text.{appended}
use Rattle.report.specs.TextLaws.{appended_twice}
use Rattle.report.specs.Lines.{row_line}
use Rattle.report.specs.Rows.{centred_row, demand_row, rows}

-- a central number has at most six digits, and its frequency ten
number_small : (n0 : ℤ) (s w : ℕ) → mag n0 < 32768 → s < 65536 → w < 65536 →
    (mag (central_number n0 s w) < 999999) × (mag (central_mhz (central_number n0 s w)) < 9999999999)
number_small n0 s w hn hs hw =
    let n = central_number n0 s w in
    let small : mag n < 262144 = omega (arith, mag_sum n0 (pos (2 * s + w))) in
    (omega arith, omega (arith, mag_6250 n, mag_sum (pos 193100000) (pos 6250 *ℤ n)))

-- and so have those of a block of the band
pub frequency_small : (band : Band) (s w : ℕ) (f : Frequency) → frequency_reply band s w ≡ Ok f →
    mag band.n0 < 32768 → s < 65536 → w < 65536 → (mag f.n < 999999) × (mag f.mhz < 9999999999)
frequency_small band s w f h hn hs hw = rw (centres band s w f h).is (number_small band.n0 s w hn hs hw)

-- the rows from a listing position on: the one there, then those behind it
pub rows_turn : (band : Band) (demands : List DemandView) (starts : List ℕ) (k : ℕ) → k < length demands → k < length starts →
    rows band (drop k demands) (drop k starts)
    ≡ demand_row band (demand_at demands k) (get_or starts k 0) ++ rows band (drop (k + 1) demands) (drop (k + 1) starts)
unfolding rows demand_at
rows_turn band demands starts k h g = rw (drop-cons demands k no_demand h, drop-cons starts k 0 g, add-one k)

-- a demand's row is that of its block, and at most 39 bytes long
pub row_centred : (band : Band) (d : DemandView) (start : ℕ) (f : Frequency) → frequency_reply band start (width_of d) ≡ Ok f →
    demand_row band d start ≡ row_line d.ident start (start + width_of d) f.n f.mhz
unfolding demand_row centred_row
row_centred band d start f h = ap (centred_row d.ident start (start + width_of d)) h

-- without a block there is no row
pub row_none : (band : Band) (d : DemandView) (start : ℕ) (why : Refusal) → frequency_reply band start (width_of d) ≡ Err why →
    demand_row band d start ≡ []
unfolding demand_row centred_row
row_none band d start why h = ap (centred_row d.ident start (start + width_of d)) h

-- the row at a listing position is put on, and those behind it are left
pub row_on : {after : Page} (r : Request) (starts : List ℕ) (k : ℕ) (page : Page) → length r.demands ≡ 200 → length starts ≡ 20 →
    r.demand_count ≤ 20 → k < r.demand_count →
    after ≡ appended page (demand_row r.band (view_demand (get_or r.demands k no_entry)) (get_or starts k 0)) →
    appended after (rows r.band (drop (k + 1) (view r).demands) (drop (k + 1) starts))
    ≡ appended page (rows r.band (drop k (view r).demands) (drop k starts))
row_on r starts k page all all_starts few h e =
    let demands = (view r).demands in
    let rest = rows r.band (drop (k + 1) demands) (drop (k + 1) starts) in
    let row = demand_row r.band (view_demand (get_or r.demands k no_entry)) (get_or starts k 0) in
    ap (λ (p : Page). appended p rest) e ∙ appended_twice page row rest
    ∙ ap (appended page)
    (ap (λ (d : DemandView). demand_row r.band d (get_or starts k 0) ++ rest) (sym (demand_shown r k h))
    ∙ sym (rows_turn r.band demands starts k (omega (arith, demands_shown r)) (omega arith)))

-- behind the last demand no row is left
pub rows_done : (r : Request) (starts : List ℕ) (k : ℕ) → r.demand_count ≤ k → rows r.band (drop k (view r).demands) (drop k starts) ≡ []
unfolding rows
rows_done r starts k h = rw (drop_of_length-le (view r).demands {i = k} (omega (arith, demands_shown r)))

-- in a sound request a demand whose end is within the band has its row, with its central number and frequency
pub row_stands : (v : View) (k start : ℕ) → SoundRequest v → k < v.demand_count → start + width_of (demand_at v.demands k) ≤ v.band.slots →
    demand_row v.band (demand_at v.demands k) start
    ≡ row_line (demand_at v.demands k).ident start (start + width_of (demand_at v.demands k))
    (central_number v.band.n0 start (width_of (demand_at v.demands k))) (central_mhz (central_number v.band.n0 start (width_of (demand_at v.demands k))))
row_stands v k start sound h within =
    let d = demand_at v.demands k in
    let good = sound.demands_sound k h in
    let S = v.band.slots in
    row_centred v.band d start (frequency_of v.band.n0 start (width_of d))
    (frequency_centred v.band start (width_of d) sound.band_allowed
    (rw (le-leb 1 (width_of d) good.some_width, le-leb (width_of d) S good.width_in_band))
    (le-leb (start + width_of d) S within))
