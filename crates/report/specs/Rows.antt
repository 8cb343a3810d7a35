-- The rows of a plan: one for each demand, in listing order.
use Rattle.grid.specs.declared.Frequency.{Frequency}
use Rattle.refusal.specs.declared.Refusal.{Refusal}
use Rattle.std.specs.Prelude.{ℕ, ◌+◌, List, [], ◌∷◌, ◌++◌, Result, Ok, Err}
use Rattle.grid.specs.declared.Band.{Band}
use Rattle.grid.specs.Grid.{frequency_reply}
use Rattle.request.specs.View.{DemandView, width_of}
use Rattle.report.specs.Lines.{row_line}

-- the row of a block with its central number and frequency; what is no block of the band has no row
unfoldable pub centred_row : ℕ → ℕ → ℕ → Result Frequency Refusal → List ℕ
centred_row ident start end (Ok f) = row_line ident start end f.n f.mhz
centred_row ident start end (Err why) = []

-- the row of a demand that starts at a slot of the band
unfoldable pub demand_row : Band → DemandView → ℕ → List ℕ
demand_row band d start =
    centred_row d.ident start (start + width_of d) (frequency_reply band start (width_of d))

-- the rows of demands and their starts, both in listing order
unfoldable pub rows : Band → List DemandView → List ℕ → List ℕ
rows band [] starts = []
rows band (d ∷ demands) [] = []
rows band (d ∷ demands) (start ∷ starts) = demand_row band d start ++ rows band demands starts
