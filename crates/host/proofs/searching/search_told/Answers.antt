use mathlib.Core.Path.{sym, ap, ◌∙◌}
use Rattle.host.specs.Host.{search_told}
use Rattle.host.proofs.searching.search_told.Goals as goal

pub returns-in-Ok : goal.returns-in-Ok
unfolding search_told
returns-in-Ok c = rw (c.outcome_number.ensures, c.outcome_end.ensures) (sym (ap search_told c.in-Ok.is))

pub returns-in-Err : goal.returns-in-Err
unfolding search_told
returns-in-Err c = c.from.ensures ∙ sym (ap search_told c.in-Err.is)
