use mathlib.Core.Path.{sym, ap}
use Rattle.request.specs.Encoding.{tag_of}
use Rattle.writing.proofs.tag_of.Goals as goal

pub returns-in-Width : goal.returns-in-Width
unfolding tag_of
returns-in-Width c = sym (ap tag_of c.in-Width.is)

pub returns-in-Rate : goal.returns-in-Rate
unfolding tag_of
returns-in-Rate c = sym (ap tag_of c.in-Rate.is)
