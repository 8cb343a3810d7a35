use mathlib.Core.Path.{◌≡◌}
use Rattle.search.specs.inner.Kept.{Mended}
use Rattle.search.proofs.walk.Level.mend.Given as goal

abbrev pub invariant-loop-at : goal.invariant-loop-at
invariant-loop-at l =
    record {
      rest : l.self ≡ record l.initial.self { low = l.self.low };
      so_far : Mended l.setting.table l.setting.widths l.setting.guard l.setting.count l.initial.self.order l.initial.self.low l.initial.self.placed l.at l.self.low;
    }
