use mathlib.Core.Path.{◌≡◌, sym, ap, ◌∙◌}
use native.Mathlib.Omega.{arith}
use borrow.Author.Rules.{rules}
use lib.ListN.{length}
use Rattle.std.proofs.Common.{eqb-true}
use Rattle.std.proofs.lemmas.Bool.{eqb-false}
use mir.Syntax.{w16}
use mir.Val.{to_z, of_z}
use mir.ValLaws.{to_z-of_z}
use Rattle.request.specs.Encoding.{signed16}
use Rattle.request.proofs.SignedLaws.{signed_machine}
use Rattle.fields.specs.Field.{number16}
use Rattle.fields.specs.FieldLaws.{field_holds}
use Rattle.reading.specs.ReadingLaws.{band_missing, band_fault, band_made}
use Rattle.reading.proofs.read_band.Goals as goal

pub returns-then-is_empty : goal.returns-then-is_empty
returns-then-is_empty c = band_missing c.args.file.now (eqb-true (length c.args.file.now) 0 (sym c.is_empty.ensures ∙ c.if-is_empty.true))

pub returns-in_err-check_field : goal.returns-in_err-check_field
returns-in_err-check_field c =
    let some = eqb-false (length c.args.file.now) 0 (sym c.is_empty.ensures ∙ c.if-is_empty.false) in
    let fault = band_fault c.args.file.now (omega (arith, some)) (sym c.in_err-check_field.was ∙ c.check_field.ensures) in
    search (rules, fault)

pub bounds-file-7 : goal.bounds-file-7
bounds-file-7 c =
    let holds = field_holds c.args.file.now 0 1 5 5 (sym c.check_field.ensures ∙ c.in_ok-check_field.was) in
    omega arith

pub returns : goal.returns
returns c =
    let s = c.args.file.now in
    let some = eqb-false (length s) 0 (sym c.is_empty.ensures ∙ c.if-is_empty.false) in
    let made = c.cast_signed in
    let edge : to_z w16 (of_z w16 made.result) ≡ signed16 (number16 s 3)
    = to_z-of_z w16 made.result (record { sfits = made.type_inv }) ∙ made.ensures
    ∙ sym (signed_machine c.number_in.result c.number_in.type_inv) ∙ ap signed16 c.number_in.ensures in
    c.new.ensures ∙
    band_made s (omega (arith, some)) (sym c.in_ok-check_field.was ∙ c.check_field.ensures) edge c.number_in-2.ensures
