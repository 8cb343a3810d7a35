use Rattle.std.proofs.Common.{◌≡◌, ◌∙◌, ap, sym, rules, arith, SFits, of_z}
use Rattle.std.specs.Int.{w16}
use Rattle.std.proofs.lemmas.Int.{to_z-of_z}
use Rattle.request.specs.Encoding.{bits16, two_bytes, field, band_field}
use Rattle.request.proofs.SignedLaws.{bits_machine}
use Rattle.writing.specs.PutsLaws.{puts_then}
use Rattle.writing.proofs.File.put_band.Goals as goal

pub put_number-requires : goal.put_number-requires
unfolding two_bytes
put_number-requires c = omega arith

pub put_number-requires-2 : goal.put_number-requires-2
unfolding two_bytes
put_number-requires-2 c = omega arith

pub put-requires : goal.put-requires
unfolding two_bytes
put-requires c = omega arith

pub returns : goal.returns
unfolding band_field field two_bytes
returns c =
    let band = c.args.band in
    let fits : SFits w16 band.n0 = search rules in
    let edge : c.cast_unsigned.result ≡ bits16 band.n0 = c.cast_unsigned.ensures ∙ ap (of_z w16) (to_z-of_z w16 band.n0 fits) ∙ sym (bits_machine band.n0 fits) in
    puts_then _ _ _ _ _ c.put_header.ensures (puts_then _ _ _ _ _ (rw edge at c.put_number.ensures) (puts_then _ _ _ _ _ c.put_number-2.ensures c.put.ensures))
