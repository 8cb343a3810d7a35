use borrow.Author.Rules.{rules}
use mathlib.Core.Path.{sym, ◌∙◌}
use native.Mathlib.Omega.{arith}
use Rattle.fields.specs.FieldLaws.{field_holds}
use Rattle.reading.specs.LinksLaws.{link_missing, link_fault, link_too_many, link_loop, link_sound}
use Rattle.reading.proofs.check_link_field.Goals as goal

pub returns-then-at-size : goal.returns-then-at-size
returns-then-at-size c = link_missing c.args.file.now c.args.at c.args.count c.if-at-size.true

pub returns-in_err-check_field : goal.returns-in_err-check_field
returns-in_err-check_field c =
    let fault = link_fault c.args.file.now c.args.at c.args.count (omega arith) (sym c.in_err-check_field.was ∙ c.check_field.ensures) in
    search (rules, fault)

pub returns-then-count-ge-MOST_LINKS : goal.returns-then-count-ge-MOST_LINKS
returns-then-count-ge-MOST_LINKS c = link_too_many c.args.file.now c.args.at c.args.count (omega arith) (sym c.in_ok-check_field.was ∙ c.check_field.ensures) (omega arith)

pub bounds-file-at : goal.bounds-file-at
bounds-file-at c =
    let holds = field_holds c.args.file.now c.args.at 2 2 2 (sym (sym c.in_ok-check_field.was ∙ c.check_field.ensures)) in
    omega arith

pub bounds-file-at-2 : goal.bounds-file-at-2
bounds-file-at-2 c =
    let holds = field_holds c.args.file.now c.args.at 2 2 2 (sym (sym c.in_ok-check_field.was ∙ c.check_field.ensures)) in
    omega arith

pub returns-then-file-at : goal.returns-then-file-at
returns-then-file-at c = link_loop c.args.file.now c.args.at c.args.count (omega arith) (sym c.in_ok-check_field.was ∙ c.check_field.ensures) (omega arith) c.if-file-at.true

pub returns : goal.returns
returns c = link_sound c.args.file.now c.args.at c.args.count (omega arith) (sym c.in_ok-check_field.was ∙ c.check_field.ensures) (omega arith) c.if-file-at.false
