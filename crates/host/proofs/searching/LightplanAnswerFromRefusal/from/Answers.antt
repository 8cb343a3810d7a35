use Rattle.host.specs.Host.{answer_refused}
use Rattle.host.proofs.searching.LightplanAnswerFromRefusal.from.Goals as goal

pub returns : goal.returns
unfolding answer_refused
returns c = cc
