-- The rows of a plan, each written out: what is printed where there is a plan.
use Rattle.std.specs.Prelude.{ℕ, ◌+◌, List, [], ◌∷◌, ◌++◌, get_or}
use Rattle.grid.specs.declared.Band.{Band}
use Rattle.grid.specs.Grid.{central_number, central_mhz}
use Rattle.request.specs.View.{DemandView, View, demand_at, width_of}
use Rattle.report.specs.Lines.{row_line}

-- the row of a demand that starts at a slot: its ident, start, end, central number and central frequency
unfoldable pub row_of : Band → DemandView → ℕ → List ℕ
unfolding row_line
row_of band d start =
    row_line d.ident start (start + width_of d)
    (central_number band.n0 start (width_of d)) (central_mhz (central_number band.n0 start (width_of d)))

-- the rows of the demands at some listing positions, one after the other
unfoldable pub rows_at : View → List ℕ → List ℕ → List ℕ
unfolding demand_at row_of
rows_at v starts [] = []
rows_at v starts (k ∷ positions) = row_of v.band (demand_at v.demands k) (get_or starts k 0) ++ rows_at v starts positions
