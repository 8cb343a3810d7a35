use native.Mathlib.Omega.{arith}
use Rattle.fields.specs.Field.{body_length}
use Rattle.reading.specs.Reading.{demand_tag, demand_in}
use Rattle.request.specs.Packing.{pack_demand}
use Rattle.fields.specs.FieldLaws.{field_holds}
use Rattle.reading.proofs.demand_in.Goals as goal

pub overflow_add-at : goal.overflow_add-at
overflow_add-at c =
    let holds = field_holds c.args.file.now c.args.at (demand_tag c.args.file.now c.args.at) 5 36 c.requires in
    omega arith

pub number_in-requires : goal.number_in-requires
number_in-requires c =
    let holds = field_holds c.args.file.now c.args.at (demand_tag c.args.file.now c.args.at) 5 36 c.requires in
    omega arith

pub overflow_sub-hops : goal.overflow_sub-hops
overflow_sub-hops c =
    let holds = field_holds c.args.file.now c.args.at (demand_tag c.args.file.now c.args.at) 5 36 c.requires in
    omega arith

pub overflow_add-at-2 : goal.overflow_add-at-2
overflow_add-at-2 c =
    let holds = field_holds c.args.file.now c.args.at (demand_tag c.args.file.now c.args.at) 5 36 c.requires in
    omega arith

pub route_in-links-requires : goal.route_in-links-requires
route_in-links-requires c = let holds = field_holds c.args.file.now c.args.at (demand_tag c.args.file.now c.args.at) 5 36 c.requires in record { hops_in_bounds = omega arith; hops_bound = omega arith }

pub overflow_add-at-3 : goal.overflow_add-at-3
overflow_add-at-3 c =
    let holds = field_holds c.args.file.now c.args.at (demand_tag c.args.file.now c.args.at) 5 36 c.requires in
    omega arith

pub number_in-requires-2 : goal.number_in-requires-2
number_in-requires-2 c =
    let holds = field_holds c.args.file.now c.args.at (demand_tag c.args.file.now c.args.at) 5 36 c.requires in
    omega arith

pub bounds-file-at : goal.bounds-file-at
bounds-file-at c =
    let holds = field_holds c.args.file.now c.args.at (demand_tag c.args.file.now c.args.at) 5 36 c.requires in
    omega arith

pub overflow_add-at-4 : goal.overflow_add-at-4
overflow_add-at-4 c =
    let holds = field_holds c.args.file.now c.args.at (demand_tag c.args.file.now c.args.at) 5 36 c.requires in
    omega arith

pub number_in-requires-3 : goal.number_in-requires-3
number_in-requires-3 c =
    let holds = field_holds c.args.file.now c.args.at (demand_tag c.args.file.now c.args.at) 5 36 c.requires in
    omega arith

pub returns : goal.returns
unfolding pack_demand demand_in body_length
returns c = rw (c.asked_in.ensures, c.number_in-3.ensures, c.number_in-2.ensures, c.route_in-links.ensures, c.from-hops.ensures, c.number_in.ensures)
