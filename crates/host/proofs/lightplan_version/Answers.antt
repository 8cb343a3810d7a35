use mathlib.Core.Path.{refl}
use Rattle.host.specs.Host.{version}
use Rattle.host.proofs.lightplan_version.Goals as goal

pub returns : goal.returns
unfolding version
returns c = refl
