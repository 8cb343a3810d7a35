use Rattle.host.specs.Host.{verdict_refused}
use Rattle.host.proofs.checking.verdict_refused.Goals as goal

pub returns : goal.returns
unfolding verdict_refused
returns c = cc
