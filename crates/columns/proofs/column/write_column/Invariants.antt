use Rattle.std.proofs.Common.{◌≡◌, ℕ, take, map}
use Rattle.std.specs.List.{All}
use Rattle.request.specs.declared.Demand.{Demand}
use Rattle.lent.specs.Lent.{over}
use Rattle.columns.proofs.column.write_column.Given as goal

abbrev pub invariant-loop-k : goal.invariant-loop-k
invariant-loop-k g l =
    (of : Demand → ℕ) → All (λ d. (n : ℕ) → goal.F-post g l.number d n → n ≡ of d) l.demands → l.out ≡ over (take l.k (map of l.demands)) l.initial.out
