-- What the search of a request made small finds, and of which requests.
use Rattle.std.specs.Prelude.{Some, is_some, ℕ, ◌≤◌, ◌<◌, List, [], ◌≡◌, get_or, Ok}
use Rattle.theory.specs.Orders.{listing}
use Rattle.theory.specs.Problem.{Row, start_in}
use Rattle.theory.specs.Search as theory
use Rattle.theory.specs.Walk.{met}
use Rattle.request.specs.View.{View}
use Rattle.request.specs.Check.{check}
use Rattle.meeting.specs.declared.Compact.{Compact}
use Rattle.meeting.specs.inner.Small.{problem_in}
use Rattle.search.specs.declared.call.Found.{Found}
use Rattle.search.specs.declared.tally.Plan.{Plan}
use Rattle.search.specs.inner.Arrays.{entries}
use Rattle.search.specs.inner.Told.{is_met}
use Rattle.search.specs.Reply.{answer_told}

-- a request that may be searched: it is sound and has at most 20 demands
pub record Searchable (v : View) : Type 0 where
  pub sound : check v ≡ Ok tt
  pub few : v.demand_count ≤ 20

-- the search of the problem of a request made small, with a bound
unfoldable pub searched_in : Compact → ℕ → ℕ → theory.Answer
unfolding problem_in listing
searched_in c bound limit = theory.search (problem_in c) c.slots bound limit [] (listing c.count)

-- of K demands the answer, whether there is a plan, and of a plan each start and the order
pub record FoundFor (K : ℕ) (answer : theory.Answer) (found : Found) : Type 0 where
  pub answer_is : found.answer ≡ answer_told answer
  pub plan_is : is_some found.plan ≡ is_met answer.best
  pub starts_are : (plan : Plan) (rows : List Row) (order : List ℕ) → found.plan ≡ Some plan → answer.best ≡ met rows order →
      (k : ℕ) → k < K → get_or plan.starts k 0 ≡ start_in rows k
  pub order_is : (plan : Plan) (rows : List Row) (order : List ℕ) → found.plan ≡ Some plan → answer.best ≡ met rows order →
      entries plan.order 0 K ≡ order
