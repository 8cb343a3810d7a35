use Rattle.groups.specs.StartLaws.{start_ready, best_within, best_above}
use Rattle.groups.proofs.walk.best_order.Goals as goal

pub returns-then-best-compact : goal.returns-then-best-compact
returns-then-best-compact c =
    best_within _ c.requires.small c.try_groups.new.best c.requires.le_m.0 c.try_groups.ensures c.if-best-compact.true

pub returns-else-best-compact : goal.returns-else-best-compact
returns-else-best-compact c =
    best_above _ c.requires.small c.try_groups.new.best c.requires.le_m.0 c.try_groups.ensures c.if-best-compact.false

pub try_groups-requires-clause-ready : goal.try_groups-requires-clause-ready
try_groups-requires-clause-ready c =
    start_ready _ c.requires.small c.fill_table.ensures c.group_starts.ensures c.requires.le_m.1 c.requires.le_m.2
