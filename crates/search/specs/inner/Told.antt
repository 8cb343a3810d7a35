-- What the tally that a walk ends with tells.
use Rattle.std.specs.Prelude.{Bool, true, false}
use Rattle.theory.specs.Walk.{Best, none_met, met, Course, going, at_bound, out_of_steps}

-- a step was due with none left
unfoldable pub is_spent : Course → Bool
is_spent going = false
is_spent at_bound = false
is_spent out_of_steps = true

-- a plan was met
unfoldable pub is_met : Best → Bool
is_met none_met = false
is_met (met rows order) = true
