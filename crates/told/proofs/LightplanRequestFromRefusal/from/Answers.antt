use Rattle.told.specs.RequestTold.{request_refused}
use Rattle.told.proofs.LightplanRequestFromRefusal.from.Goals as goal

pub returns : goal.returns
unfolding request_refused
returns c = rw c.default.ensures.1.1.0 cc
