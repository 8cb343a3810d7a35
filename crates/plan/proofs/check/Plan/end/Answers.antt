use Rattle.std.specs.Prelude.{ℕ, ◌+◌, ◌-◌, max, [], get_or}
use Rattle.std.proofs.Common.{◌≡◌, sym, ◌∙◌, arith}
use Rattle.theory.specs.Problem.{plan_end}
use Rattle.theory.specs.Orders.{count_up, listing}
use Rattle.meeting.specs.inner.Small.{problem_in}
use Rattle.meeting.specs.Plan.{start_at}
use Rattle.plan.specs.TurnLaws.{end_turn, end_done}
use Rattle.plan.proofs.check.Plan.end.Goals as goal

pub overflow_add-self : goal.overflow_add-self
unfolding start_at problem_in
overflow_add-self c =
    omega (arith, c.requires.each c.loop-k.k c.loop-k-test.true, c.args.self.now.small.most_slots)

pub loop-k-preserved : goal.loop-k-preserved
unfolding start_at problem_in
loop-k-preserved c =
    let plan = c.args.self.now in
    let k = c.loop-k.k in
    let rest : ℕ → ℕ = λ n. plan_end (problem_in plan.compact.now) [] (count_up (plan.compact.now.count - n) n) (start_at plan.starts.now) in
    let turn : rest k ≡ max (get_or plan.starts.now k 0 + get_or plan.compact.now.widths k 0) (rest (k + 1))
    = end_turn (problem_in plan.compact.now) (start_at plan.starts.now) plan.compact.now.count k c.loop-k-test.true in
    let up : c.max-end.result ≡ max c.loop-k.end (get_or plan.starts.now k 0 + get_or plan.compact.now.widths k 0) = c.max-end.ensures in
    omega (arith, turn, up)

pub returns : goal.returns
unfolding listing
returns c =
    let plan = c.args.self.now in
    let at = c.loop-k in
    let done = end_done (problem_in plan.compact.now) (start_at plan.starts.now) plan.compact.now.count at.k c.loop-k-test.false in
    sym (at.invariant ∙ omega (arith, done))
