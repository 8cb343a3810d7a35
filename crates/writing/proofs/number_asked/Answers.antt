use mathlib.Core.Path.{sym, ap}
use Rattle.request.specs.Encoding.{number_asked}
use Rattle.writing.proofs.number_asked.Goals as goal

pub returns-in-Width : goal.returns-in-Width
unfolding number_asked
returns-in-Width c = sym (ap number_asked c.in-Width.is)

pub returns-in-Rate : goal.returns-in-Rate
unfolding number_asked
returns-in-Rate c = sym (ap number_asked c.in-Rate.is)
