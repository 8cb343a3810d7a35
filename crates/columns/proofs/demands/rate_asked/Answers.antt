use mathlib.Core.Path.{sym, ap}
use Rattle.columns.specs.Columns.{rate_asked}
use Rattle.columns.proofs.demands.rate_asked.Goals as goal

pub returns-in-Width : goal.returns-in-Width
unfolding rate_asked
returns-in-Width c = sym (ap rate_asked c.in-Width.is)

pub returns-in-Rate : goal.returns-in-Rate
unfolding rate_asked
returns-in-Rate c = sym (ap rate_asked c.in-Rate.is)
