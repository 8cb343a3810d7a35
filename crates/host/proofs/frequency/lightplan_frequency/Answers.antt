use mathlib.Core.Path.{sym, ap, ◌∙◌}
use lib.IntN.{ℤ}
use mir.Facts.{to_z-of_z}
use Rattle.grid.specs.declared.Band.{Band}
use Rattle.grid.specs.Grid.{band_reply, frequency_reply}
use Rattle.host.specs.Host.{frequency_told, frequency_entry}
use Rattle.host.proofs.HostLaws.{band_made, band_unmade}
use Rattle.host.proofs.frequency.lightplan_frequency.Goals as goal

pub returns-in-Ok : goal.returns-in-Ok
unfolding frequency_entry
returns-in-Ok c =
    let a = c.args in
    let made = sym c.in-Ok.is ∙ c.new.ensures ∙ ap (λ (n0 : ℤ). band_reply n0 a.slots a.guard) (to_z-of_z c.ranges.n0) in
    c.frequency_told.ensures
    ∙ ap frequency_told
    (c.to_frequency.ensures ∙ ap (λ (b : Band). frequency_reply b a.start a.width) (band_made a.n0 a.slots a.guard _ made))

pub returns-in-Err : goal.returns-in-Err
unfolding frequency_entry
returns-in-Err c =
    let a = c.args in
    let unmade = sym c.in-Err.is ∙ c.new.ensures ∙ ap (λ (n0 : ℤ). band_reply n0 a.slots a.guard) (to_z-of_z c.ranges.n0) in
    c.frequency_told-in-Err.ensures ∙ ap frequency_told (band_unmade a.n0 a.slots a.guard a.start a.width _ unmade)
