use mathlib.Core.Path.{sym, ap, ◌∙◌}
use native.Mathlib.Omega.{arith}
use Rattle.std.proofs.lemmas.Result.{err_from_is_err_and}
use Rattle.reading.specs.Reading.{band_in, check_band_field}
use Rattle.reading.specs.FilePacking.{pack_reading}
use Rattle.reading.specs.ReadingLaws.{band_long}
use Rattle.reading.specs.FileLaws.{file_too_long, file_band_fault, file_links, band_allowed, band_refused}
use Rattle.reading.proofs.read_request.Goals as goal

pub returns-then-file-gt-MOST_BYTES : goal.returns-then-file-gt-MOST_BYTES
unfolding pack_reading
returns-then-file-gt-MOST_BYTES c = ap pack_reading (sym (file_too_long c.args.file.now (omega arith)))

pub returns-in_err-band : goal.returns-in_err-band
unfolding pack_reading
returns-in_err-band c =
    let s = c.args.file.now in
    let fault = band_refused (check_band_field s) (band_in s) (sym c.in_err-band.was ∙ c.read_band.ensures) in
    let handed-on = err_from_is_err_and c.from_residual.result c.from_residual.ensures.1 in
    rw (handed-on.1, handed-on.2) (ap pack_reading (sym (file_band_fault s (omega arith) fault)))

pub read_behind-requires : goal.read_behind-requires
read_behind-requires c =
    let s = c.args.file.now in
    band_long s (band_allowed (check_band_field s) (band_in s) _ (sym c.in_ok-band.was ∙ c.read_band.ensures)).0

pub returns : goal.returns
returns c =
    let s = c.args.file.now in
    let allowed = band_allowed (check_band_field s) (band_in s) _ (sym c.in_ok-band.was ∙ c.read_band.ensures) in
    c.read_behind.ensures ∙ ap pack_reading (sym (file_links s _ (omega arith) allowed.0 allowed.1))
