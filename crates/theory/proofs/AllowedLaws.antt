-- An allowed plan for some of its demands, under another limit, and where it ends.
use Rattle.std.specs.Prelude.{ℕ, ◌≤◌}
use mathlib.Core.List.{List, [], Memᴰ}
use Rattle.theory.specs.Problem.{Problem, Row, end_of, Allowed, plan_end}
use Rattle.theory.proofs.ProblemLaws.{fits_nil, plan_end_above}

-- a plan that is allowed for a list is allowed for each list of some of its demands
pub allowed_part : (P : Problem) (S : ℕ) (rows : List Row) (todo part : List ℕ) (plan : ℕ → ℕ) →
    ((i : ℕ) → Memᴰ i part → Memᴰ i todo) → Allowed P S rows todo plan → Allowed P S rows part plan
allowed_part P S rows todo part plan inside a =
    record {
      within = λ i m. a.within i (inside i m);
      clear_of_rows = λ i m. a.clear_of_rows i (inside i m);
      clear_of_others = λ i j mi mj ne. a.clear_of_others i j (inside i mi) (inside j mj) ne;
    }

-- an allowed plan is allowed under every limit that its demands keep
pub allowed_within : (P : Problem) (S : ℕ) (rows : List Row) (todo : List ℕ) (plan : ℕ → ℕ) (e : ℕ) →
    ((i : ℕ) → Memᴰ i todo → end_of P i (plan i) ≤ e) → Allowed P S rows todo plan → Allowed P e rows todo plan
allowed_within P S rows todo plan e within a =
    record { within = within; clear_of_rows = a.clear_of_rows; clear_of_others = a.clear_of_others }

-- an allowed plan is allowed within its own end
pub allowed_own_end : (P : Problem) (S : ℕ) (rows : List Row) (todo : List ℕ) (plan : ℕ → ℕ) → Allowed P S rows todo plan →
    Allowed P (plan_end P rows todo plan) rows todo plan
allowed_own_end P S rows todo plan a =
    allowed_within P S rows todo plan (plan_end P rows todo plan) (plan_end_above P rows todo plan) a

-- a plan that is allowed beside rows is allowed where no row stands
pub allowed_alone : (P : Problem) (S : ℕ) (rows : List Row) (todo : List ℕ) (plan : ℕ → ℕ) → Allowed P S rows todo plan →
    Allowed P S [] todo plan
allowed_alone P S rows todo plan a =
    record { within = a.within; clear_of_rows = λ i m. fits_nil P i (plan i); clear_of_others = a.clear_of_others }
