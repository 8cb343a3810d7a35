use Rattle.std.proofs.Common.{ℕ, ◌≡◌, length, take, drop, map, Option, is_some, unwrap_or}
use Rattle.request.specs.Packing.{padded}
use Rattle.planfile.specs.PlanReading.{check_given}
use Rattle.planfile.proofs.read.all_given.Given as goal

abbrev pub invariant-loop-k : goal.invariant-loop-k
invariant-loop-k l =
    (length l.starts ≡ 200)
    × (l.starts ≡ padded 200 0 (take l.k (map (λ (row : Option ℕ). unwrap_or row 0) l.rows)))
    × (check_given 0 (map is_some l.rows) ≡ check_given l.k (drop l.k (map is_some l.rows)))
