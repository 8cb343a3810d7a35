use mathlib.Core.Path.{refl}
use Rattle.reading.specs.Reading.{link_in}
use Rattle.reading.proofs.link_in.Goals as goal

pub returns : goal.returns
unfolding link_in
returns c = refl
