use borrow.Author.Rules.{rules}
use mathlib.Core.Path.{sym, ◌∙◌}
use native.Mathlib.Omega.{arith}
use Rattle.request.specs.View.{no_link}
use Rattle.reading.specs.LinksLaws.{link_holds, links_begin, links_finish, links_fail, links_step}
use Rattle.reading.proofs.read_links.Goals as goal

pub loop-links-init : goal.loop-links-init
unfolding no_link
loop-links-init c = links_begin c.args.file.now c.requires

pub links_end-requires : goal.links_end-requires
links_end-requires c = c.loop-links.invariant.within

pub check_link_field-requires : goal.check_link_field-requires
check_link_field-requires c = c.loop-links.invariant.within

pub returns-in_err-check_link_field : goal.returns-in_err-check_link_field
returns-in_err-check_link_field c =
    let turn = c.loop-links in
    let fault = links_fail c.args.file.now turn.at turn.count turn.links turn.invariant (sym c.links_end.ensures ∙ c.loop-links-test.true)
    (sym c.in_err-check_link_field.was ∙ c.check_link_field.ensures) in record { value = search (rules, fault); end_in_bounds = search rules }

pub link_in-requires : goal.link_in-requires
link_in-requires c =
    let turn = c.loop-links in
    let holds = link_holds c.args.file.now turn.at turn.count (sym c.check_link_field.ensures ∙ c.in_ok-check_link_field.was) in
    let field = holds.field in
    omega arith

pub offset_bounds-links-count : goal.offset_bounds-links-count
offset_bounds-links-count c =
    let turn = c.loop-links in
    let holds = link_holds c.args.file.now turn.at turn.count (sym c.check_link_field.ensures ∙ c.in_ok-check_link_field.was) in
    let field = holds.field in
    omega arith

pub bounds-links-count : goal.bounds-links-count
bounds-links-count c =
    let turn = c.loop-links in
    let holds = link_holds c.args.file.now turn.at turn.count (sym c.check_link_field.ensures ∙ c.in_ok-check_link_field.was) in
    let field = holds.field in
    omega arith

pub overflow_add-count : goal.overflow_add-count
overflow_add-count c =
    let turn = c.loop-links in
    let holds = link_holds c.args.file.now turn.at turn.count (sym c.check_link_field.ensures ∙ c.in_ok-check_link_field.was) in
    let field = holds.field in
    omega arith

pub overflow_add-at : goal.overflow_add-at
overflow_add-at c =
    let turn = c.loop-links in
    let holds = link_holds c.args.file.now turn.at turn.count (sym c.check_link_field.ensures ∙ c.in_ok-check_link_field.was) in
    let field = holds.field in
    omega arith

pub loop-links-smaller : goal.loop-links-smaller
loop-links-smaller c =
    let turn = c.loop-links in
    let holds = link_holds c.args.file.now turn.at turn.count (sym c.check_link_field.ensures ∙ c.in_ok-check_link_field.was) in
    let field = holds.field in
    omega arith

pub loop-links-preserved : goal.loop-links-preserved
loop-links-preserved c =
    let turn = c.loop-links in
    rw c.link_in.ensures
    (links_step c.args.file.now turn.at turn.count turn.links turn.invariant (sym c.links_end.ensures ∙ c.loop-links-test.true)
    (sym c.in_ok-check_link_field.was ∙ c.check_link_field.ensures))

pub returns : goal.returns
returns c =
    let turn = c.loop-links in
    record { value = links_finish c.args.file.now turn.at turn.count turn.links turn.invariant (sym c.links_end.ensures ∙ c.loop-links-test.false); end_in_bounds = turn.invariant.within }
