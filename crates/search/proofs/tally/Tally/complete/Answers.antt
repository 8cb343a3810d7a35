-- `complete` meets its contract, case by case.
use Rattle.search.specs.inner.Arrays.{entries, rows_of}
use Rattle.search.specs.inner.Tally.{tally_of, course_of, best_of}
use Rattle.theory.specs.Walk.{equalled, improved}
use Rattle.search.specs.TallyLaws.{counted_only, better_on, better_bound}
use Rattle.search.proofs.tally.Tally.complete.Goals as goal

pub returns-then-self-end : goal.returns-then-self-end
unfolding tally_of equalled
returns-then-self-end c K =
    let a = c.args in
    counted_only a.end a.bound (rows_of a.low.now a.order.now K) (entries a.order.now 0 K) (tally_of K a.self.now) c.if-self-end.true

pub returns-then-end-bound : goal.returns-then-end-bound
unfolding tally_of improved course_of best_of
returns-then-end-bound c K =
    let a = c.args in
    better_bound a.end a.bound (rows_of a.low.now a.order.now K) (entries a.order.now 0 K) (tally_of K a.self.now) c.if-self-end.false
    c.if-end-bound.true

pub returns-else-end-bound : goal.returns-else-end-bound
unfolding tally_of improved course_of best_of
returns-else-end-bound c K =
    let a = c.args in
    better_on a.end a.bound (rows_of a.low.now a.order.now K) (entries a.order.now 0 K) (tally_of K a.self.now) c.if-self-end.false
    c.if-end-bound.false
