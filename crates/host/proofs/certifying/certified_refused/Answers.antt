use Rattle.host.specs.Certified.{certified_refused}
use Rattle.host.proofs.certifying.certified_refused.Goals as goal

pub returns : goal.returns
unfolding certified_refused
returns c = cc
