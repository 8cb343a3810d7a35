use Rattle.std.proofs.Common.{sym, ap, ◌∙◌, rules}
use Rattle.reading.specs.FilePacking.{pack_reading}
use Rattle.reading.specs.FileLaws.{behind_links_fault, behind_demands_fault, behind_request}
use Rattle.reading.proofs.read_behind.Goals as goal

pub returns-in_err-link_count : goal.returns-in_err-link_count
unfolding pack_reading
returns-in_err-link_count c =
    let fault = ap pack_reading (sym (behind_links_fault c.args.file.now c.args.band (sym c.in_err-link_count.was ∙ c.read_links.ensures.value))) in
    search (rules, fault)

pub returns-in_err-demand_count : goal.returns-in_err-demand_count
unfolding pack_reading
returns-in_err-demand_count c =
    let fault = ap pack_reading (sym (behind_demands_fault c.args.file.now c.args.band _ (sym c.in_ok-link_count.was ∙ c.read_links.ensures.value) (sym c.in_err-demand_count.was ∙ c.read_demands.ensures))) in
    search (rules, fault)

pub returns : goal.returns
returns c =
    behind_request c.args.file.now c.args.band _ (sym c.in_ok-link_count.was ∙ c.read_links.ensures.value) _ (sym c.in_ok-demand_count.was ∙ c.read_demands.ensures)
