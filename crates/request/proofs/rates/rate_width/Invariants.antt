use Rattle.std.proofs.Common.{◌≡◌, drop}
use Rattle.request.specs.View.{rate_table, looked_up, rate_width}
use Rattle.request.proofs.rates.rate_width.Given as goal

abbrev pub invariant-loop-row : goal.invariant-loop-row
invariant-loop-row l = rate_width l.rate ≡ looked_up l.rate (drop l.row-index rate_table)
