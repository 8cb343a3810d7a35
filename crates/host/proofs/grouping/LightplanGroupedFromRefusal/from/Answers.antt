use Rattle.host.specs.Host.{grouped_refused}
use Rattle.host.proofs.grouping.LightplanGroupedFromRefusal.from.Goals as goal

pub returns : goal.returns
unfolding grouped_refused
returns c =
    let zeros = c.default.ensures in
    rw (← c.number.ensures, ← c.place.ensures, zeros.1.1.0, zeros.1.1.1.0, zeros.1.1.1.1.0, zeros.1.1.1.1.1.0)
