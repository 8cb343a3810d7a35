use native.Mathlib.Omega.{arith}
use Rattle.groups.specs.TableLaws.{size_longer, size_even, longer_fits}
use Rattle.groups.proofs.table.group_size.Goals as goal

pub overflow_add-result : goal.overflow_add-result
overflow_add-result c =
    let a = c.args in
    record { fits = omega (arith, longer_fits a.count a.m a.g c.requires c.if-g-count.true) }

pub returns-then-g-count : goal.returns-then-g-count
returns-then-g-count c = let a = c.args in size_longer a.count a.m a.g c.if-g-count.true

pub returns-else-g-count : goal.returns-else-g-count
returns-else-g-count c = let a = c.args in size_even a.count a.m a.g c.if-g-count.false
