use mathlib.Core.Path.{sym, ap}
use mir.Syntax.{w32, w64}
use mir.Val.{SFits}
use mir.Facts.{to_z-of_z}
use Rattle.host.specs.Host.{frequency_told}
use borrow.Author.Rules.{rules}
use Rattle.host.proofs.frequency.frequency_told.Goals as goal

pub returns-in-Ok : goal.returns-in-Ok
unfolding frequency_told
returns-in-Ok c =
    let centre = c.in-Ok.centre in
    let n_fits : SFits w32 centre.n = search rules in
    let mhz_fits : SFits w64 centre.mhz = search rules in
    rw (to_z-of_z n_fits, to_z-of_z mhz_fits) (sym (ap frequency_told c.in-Ok.is))

pub returns-in-Err : goal.returns-in-Err
unfolding frequency_told
returns-in-Err c =
    let zeros = c.default.ensures in
    rw (c.number.ensures, c.place.ensures, zeros.1.1.0, zeros.1.1.1.0, zeros.1.1.1.1) (sym (ap frequency_told c.in-Err.is))
