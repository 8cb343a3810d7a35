use Rattle.std.proofs.Common.{◌≡◌, ◌*◌, drop, map}
use Rattle.std.proofs.lemmas.List.Edits.{sets}
use Rattle.request.specs.View.{view_demand}
use Rattle.planfile.specs.PlanFile.{row_fields}
use Rattle.planfile.proofs.write.write_rows.Given as goal

abbrev pub invariant-loop-k : goal.invariant-loop-k
invariant-loop-k l =
    sets l.initial.out 0 (row_fields l.starts 0 (map view_demand l.demands)) ≡ sets l.out (7 * l.k) (row_fields l.starts l.k (drop l.k (map view_demand l.demands)))
