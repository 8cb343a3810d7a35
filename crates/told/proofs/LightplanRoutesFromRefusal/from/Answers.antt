use Rattle.told.specs.RequestTold.{routes_refused}
use Rattle.told.proofs.LightplanRoutesFromRefusal.from.Goals as goal

pub returns : goal.returns
unfolding routes_refused
returns c = cc
