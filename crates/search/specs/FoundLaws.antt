-- What is found of a request made small is what the search of its problem finds, and that is what the search of the request finds.
use Prim.Native.Nat.{ℕ, zero, suc, ◌+◌, ◌≤◌, ◌<◌}
use Rattle.std.specs.Prelude.{Option, Some, None, is_some, Bool, ◌≡◌, refl, drop, get_or}
use mathlib.Core.List.{List, [], ◌∷◌, map}
use Rattle.std.proofs.Math.Path.{sym, ap, subst}
use Rattle.std.proofs.Common.{◌∙◌, arith, ext_get_or, length-take-le, get_or-take, drop-cons}
use Rattle.std.proofs.Math.ListN.{length, take}
use Rattle.theory.specs.Problem.{Problem, Row, start_in}
use Rattle.theory.proofs.ProblemLaws.{top_nil}
use Rattle.theory.specs.Orders.{factorial, listing, count_up}
use Rattle.theory.proofs.ListingLaws.{listing_length, count_up-length}
use Rattle.theory.specs.Walk.{none_met, met, walk}
use Rattle.theory.specs.Walk as walk-specs
use Rattle.theory.specs.Search as theory
use Rattle.theory.proofs.SearchLaws.{search_too_narrow, search_walks, search_walk_some}
use Rattle.request.specs.View.{View}
use Rattle.request.specs.Sound.{SoundRequest}
use Rattle.request.specs.inner.Limits.{Limits}
use Rattle.meeting.specs.declared.Compact.{Compact}
use Rattle.meeting.specs.Bound.{bound_of}
use Rattle.meeting.specs.Compact.{compact_of}
use Rattle.meeting.specs.CompactLaws.{small_problem}
use Rattle.meeting.specs.MeetingLaws.{listing_at, starts_long}
use Rattle.meeting.specs.Plan.{starts_of}
use Rattle.meeting.specs.inner.Small.{problem_in}
use Rattle.search.specs.declared.Outcome.{Outcome}
use Rattle.search.specs.declared.Outcome.TheVariants.{Finished, NothingFits}
use Rattle.search.specs.declared.call.Found.{Found}
use Rattle.search.specs.declared.tally.Plan.{Plan}
use Rattle.search.specs.declared.tally.Tally.{Tally}
use Rattle.search.specs.inner.Arrays.{entries}
use Rattle.search.specs.inner.Tally.{course_of, best_of, tally_of}
use Rattle.search.specs.inner.Told.{is_met, is_spent}
use Rattle.search.specs.ArraysLaws.{entries_none}
use Rattle.search.specs.StartLaws.{met_some, ended_starts, ended_order}
use Rattle.search.specs.Reply.{searched, outcome_by, outcome_told, answer_told}
use Rattle.search.specs.ReplyLaws.{outcome_by_lem}
use Rattle.search.specs.inner.Found.{searched_in, FoundFor}

-- no plan is not a plan
none_not_met : {C : Type 0} (rows : List Row) (order : List ℕ) → none_met ≡ met rows order → C
none_not_met rows order e = absurd (let z : ◌≡◌ {A = ℕ} 0 1 = cc in omega arith)

-- nothing to place, nothing to start
nothing_started : (rows : List Row) (l : List ℕ) → take 0 l ≡ map (start_in rows) (listing 0)
unfolding listing count_up
nothing_started rows l = refl

nothing_walked : (P : Problem) (S bound limit : ℕ) → theory.search_walk P S bound limit [] (listing 0) ≡ theory.at_once P bound []
unfolding listing count_up theory.search_walk
nothing_walked P S bound limit = refl

-- the first entries of a list, taken and told one by one
entries_taken : (l : List ℕ) (from n : ℕ) → from + n ≤ length l → entries l from n ≡ take n (drop from l)
unfolding entries
entries_taken l from zero h = refl
entries_taken l from (suc n) h =
    rw (drop-cons l from 0 (omega arith))
    (ap (λ (rest : List ℕ). get_or l from 0 ∷ rest) (entries_taken l (suc from) n (omega arith)))

-- of the starts of K demands each has its own
start_at_lem : (K : ℕ) (rows : List Row) (k : ℕ) → k < K → get_or (starts_of K rows) k 0 ≡ start_in rows k
unfolding starts_of
start_at_lem K rows k h = listing_at (start_in rows) K k 0 h

-- the walk of a problem with something to place
searched_walk : (P : Problem) (S bound limit K : ℕ) → bound ≤ S → 1 ≤ K →
    theory.search P S bound limit [] (listing K) ≡ theory.conclude bound (walk P limit bound K [] [] (listing K) (theory.fresh (S + 1)))
unfolding listing count_up
searched_walk P S bound limit zero within h = absurd (omega arith)
searched_walk P S bound limit (suc n) within h =
    search_walks P S bound limit [] (listing (suc n)) within
    ∙ search_walk_some P S bound limit [] 0 (count_up n 1)
    ∙ ap (λ (k : ℕ). theory.conclude bound (walk P limit bound k [] [] (0 ∷ count_up n 1) (theory.fresh (S + 1)))) (ap suc (count_up-length n 1))

-- the first K of an array of starts are the plan's, where each of them is
pub starts_taken : (K : ℕ) (rows : List Row) (starts : List ℕ) → K ≤ length starts →
    ((k : ℕ) → k < K → get_or starts k 0 ≡ start_in rows k) → take K starts ≡ starts_of K rows
starts_taken K rows starts room each =
    let taken : length (take K starts) ≡ K = length-take-le K starts room in
    ext_get_or 0 (take K starts) (starts_of K rows) (taken ∙ sym (starts_long K rows))
    (λ k h.
    let low : k < K = omega (arith, taken) in
    get_or-take K starts k 0 low ∙ each k low ∙ sym (start_at_lem K rows k low))

-- the first K of an array are its first K entries
pub order_taken : (K : ℕ) (order : List ℕ) → K ≤ length order → take K order ≡ entries order 0 K
order_taken K order room = sym (entries_taken order 0 K (omega arith))

-- the three ways in which the search of a request made small comes out
module _ (c : Compact) (bound limit : ℕ) (found : Found) where
  -- the bound is above the band
  pub found_by_bound : (many : ℕ) → c.slots < bound → many ≡ factorial c.count →
      found ≡ record { answer = record { outcome = NothingFits; bound = bound; steps = 0; reached = 0; ruled = many }; plan = None } →
      FoundFor c.count (searched_in c bound limit) found
  unfolding answer_told outcome_told theory.too_narrow is_met searched_in
  found_by_bound many above is_all is =
      record {
        answer_is =
            ap (λ (f : Found). f.answer) is
            ∙ ap (λ (n : ℕ). record { outcome = NothingFits; bound = bound; steps = 0; reached = 0; ruled = n }) is_all
            ∙ ap (λ (n : ℕ). answer_told (theory.too_narrow bound n)) (sym (listing_length c.count))
            ∙ sym (ap answer_told narrow);
        plan_is = ap (λ (f : Found). is_some f.plan) is ∙ sym (ap (λ (a : theory.Answer). is_met a.best) narrow);
        starts_are = λ plan rows order has. absurd (none plan has);
        order_is = λ plan rows order has. absurd (none plan has);
      }
    where
      narrow : searched_in c bound limit ≡ theory.too_narrow bound (length (listing c.count))
      narrow = search_too_narrow (problem_in c) c.slots bound limit [] (listing c.count) above

      none : (plan : Plan) → found.plan ≡ Some plan → ⊥
      none plan has = let no : ◌≡◌ {A = Option Plan} None (Some plan) = sym (ap (λ (f : Found). f.plan) is) ∙ has in cc

  -- no demand is asked for
  pub found_by_nothing : (empty : Plan) → bound ≤ c.slots → c.count ≡ 0 →
      found ≡ record { answer = record { outcome = Finished 0; bound = bound; steps = 0; reached = 1; ruled = 0 }; plan = Some empty } →
      FoundFor c.count (searched_in c bound limit) found
  unfolding answer_told outcome_told theory.at_once is_met searched_in
  found_by_nothing empty within none is =
      record {
        answer_is =
            ap (λ (f : Found). f.answer) is
            ∙ ap (λ (e : ℕ). record { outcome = Finished e; bound = bound; steps = 0; reached = 1; ruled = 0 }) (sym (top_nil (problem_in c)))
            ∙ sym (ap answer_told at_once);
        plan_is = ap (λ (f : Found). is_some f.plan) is ∙ sym (ap (λ (a : theory.Answer). is_met a.best) at_once);
        starts_are = λ plan rows order has e k h. absurd (omega arith);
        order_is = λ plan rows order has e.
            ap (λ (n : ℕ). entries plan.order 0 n) none
            ∙ entries_none plan.order 0
            ∙ ordered rows order (sym (ap (λ (a : theory.Answer). a.best) at_once) ∙ e);
      }
    where
      at_once : searched_in c bound limit ≡ theory.at_once (problem_in c) bound []
      at_once =
          search_walks (problem_in c) c.slots bound limit [] (listing c.count) within
          ∙ ap (λ (n : ℕ). theory.search_walk (problem_in c) c.slots bound limit [] (listing n)) none
          ∙ nothing_walked (problem_in c) c.slots bound limit

      ordered : (rows : List Row) (order : List ℕ) → met [] [] ≡ met rows order → [] ≡ order
      ordered rows order e = cc

  -- a walk came to its end
  pub found_by_walk : (t : Tally) → bound ≤ c.slots → 1 ≤ c.count →
      tally_of c.count t ≡ walk (problem_in c) limit bound c.count [] [] (listing c.count) (theory.fresh (c.slots + 1)) →
      found ≡ record { answer = record { outcome = outcome_by (is_spent (course_of t.course)) (is_some t.best) t.mark; bound = bound; steps = t.steps; reached = t.reached; ruled = t.ruled }; plan = t.best } →
      FoundFor c.count (searched_in c bound limit) found
  unfolding answer_told theory.conclude searched_in tally_of
  found_by_walk t within some ended is =
      record {
        answer_is =
            ap (λ (f : Found). f.answer) is
            ∙ ap (λ (o : Outcome). record { outcome = o; bound = bound; steps = t.steps; reached = t.reached; ruled = t.ruled }) outcome_same
            ∙ ap (λ (u : walk-specs.Tally). answer_told (theory.conclude bound u)) ended
            ∙ sym (ap answer_told same);
        plan_is =
            ap (λ (f : Found). is_some f.plan) is
            ∙ met_some K t.best
            ∙ ap (λ (u : walk-specs.Tally). is_met u.best) ended
            ∙ sym (ap (λ (a : theory.Answer). is_met a.best) same);
        starts_are = λ plan rows order has e. ended_starts (problem_in c) limit bound K c.slots t ended plan rows order (held plan has) (best rows order e);
        order_is = λ plan rows order has e. ended_order (problem_in c) limit bound K c.slots t ended plan rows order (held plan has) (best rows order e);
      }
    where
      K : ℕ
      K = c.count

      after : walk-specs.Tally
      after = walk (problem_in c) limit bound K [] [] (listing K) (theory.fresh (c.slots + 1))

      same : searched_in c bound limit ≡ theory.conclude bound after
      same = searched_walk (problem_in c) c.slots bound limit K within some

      held : (plan : Plan) → found.plan ≡ Some plan → t.best ≡ Some plan
      held plan has = sym (ap (λ (f : Found). f.plan) is) ∙ has

      best : (rows : List Row) (order : List ℕ) → (searched_in c bound limit).best ≡ met rows order → after.best ≡ met rows order
      best rows order e = sym (ap (λ (a : theory.Answer). a.best) same) ∙ e

      outcome_same : outcome_by (is_spent (course_of t.course)) (is_some t.best) t.mark ≡
          outcome_told (theory.outcome_of (course_of t.course) (best_of K t.best) t.mark)
      outcome_same =
          ap (λ (b : Bool). outcome_by (is_spent (course_of t.course)) b t.mark) (met_some K t.best)
          ∙ outcome_by_lem (course_of t.course) (best_of K t.best) t.mark

-- what is found of a sound request made small is found of the request
pub found_asked : (v : View) → SoundRequest v → Limits v → (limit : ℕ) (found : Found) →
    FoundFor (compact_of v).count (searched_in (compact_of v) (bound_of v) limit) found → FoundFor v.demand_count (searched v limit) found
unfolding searched_in searched compact_of
found_asked v sound limits limit found so =
    subst (λ (P : Problem). FoundFor v.demand_count (theory.search P v.band.slots (bound_of v) limit [] (listing v.demand_count)) found)
    (small_problem v sound limits) so
