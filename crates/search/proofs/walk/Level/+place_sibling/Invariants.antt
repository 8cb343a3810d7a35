use Rattle.std.proofs.Common.{◌+◌, ◌-◌, ◌*◌}
use Rattle.search.proofs.walk.Level.+place_sibling.Given as goal

-- the demands still to place count 64 each, the places of a level still to try one each
abbrev pub decreases-place : goal.decreases-place
decreases-place l = (l.setting.now.count - l.self.now.placed) * 64

abbrev pub decreases-sibling : goal.decreases-sibling
decreases-sibling l = (l.setting.now.count - l.self.now.placed) * 64 + (l.setting.now.count - l.at) + 1
