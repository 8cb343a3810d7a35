use Rattle.std.proofs.Common.{ℕ, List, get_or, ◌≡◌, ◌+◌, ◌*◌, ◌-◌, drop, map, sym, ap, ◌∙◌, arith}
use Rattle.std.proofs.lemmas.List.Edits.{sets}
use Rattle.std.proofs.lemmas.List.{length-map}
use Rattle.lent.specs.LentLaws.{part_stored}
use Rattle.request.specs.View.{DemandView, view_demand, demand_at, no_entry, no_demand}
use Rattle.request.proofs.ViewLaws.{map_at}
use Rattle.meeting.specs.Plan.{start_at}
use Rattle.planfile.specs.PlanFile.{row_field, row_fields}
use Rattle.planfile.proofs.PlanFileLaws.{row_length, store_turn, rows_done}
use Rattle.planfile.proofs.write.write_rows.Goals as goal

pub loop-k-preserved : goal.loop-k-preserved
unfolding start_at view_demand demand_at
loop-k-preserved c =
    let starts = c.args.starts.now in
    let demands = c.args.demands.now in
    let views = map view_demand demands in
    let k = c.loop-k.k in
    let out = c.loop-k.out in
    let counted = length-map demands view_demand in
    let row = row_field (demand_at views k).ident (start_at starts k) in
    let seen : (demand_at views k).ident ≡ (get_or demands k no_entry).ident = ap (λ (d : DemandView). d.ident) (map_at view_demand demands k no_entry no_demand (omega arith)) in
    let same : c.copy_from_slice.new.self ≡ row = rw seen (c.copy_from_slice.ensures.after ∙ c.row_field.ensures) in
    let long = row_length (demand_at views k).ident (start_at starts k) in
    let stored = part_stored out c.copy_from_slice.new.self row (7 * k) (7 * k + 7 - 7 * k) (omega arith) same (omega arith) in
    c.loop-k.invariant ∙ store_turn out starts views k (omega arith)
    ∙ ap (λ (o : List ℕ). sets o (7 * (k + 1)) (row_fields starts (k + 1) (drop (k + 1) views))) (sym stored)

pub returns : goal.returns
returns c =
    let views = map view_demand c.args.demands.now in
    sym (c.loop-k.invariant ∙ ap (λ (file : List ℕ). sets c.loop-k.out (7 * c.loop-k.k) file) (rows_done c.args.starts.now views c.loop-k.k (omega (arith, length-map c.args.demands.now view_demand))))
