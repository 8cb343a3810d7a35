-- Where there is a plan, a row is printed for each demand: none is left out.
use Prim.Native.Nat.{ℕ, zero, suc, ◌+◌, ◌≤◌, ◌<◌}
use mathlib.Core.List.{List, [], ◌∷◌, ◌++◌}
use Rattle.std.specs.Prelude.{◌⊎◌, ◌≡◌, leb, get_or, take, drop, Ok}
use Rattle.std.proofs.Math.Logic.{⊎_elim}
use Rattle.std.proofs.Math.Path.{ap, ap₂}
use Rattle.std.proofs.Common.{subst, ◌∙◌, arith, add-one, leb-true, leb-false, drop_of_length-le, take_all}
use Rattle.std.proofs.Math.ListN.{length, length-map}
use Rattle.std.proofs.Math.Seq.{get_or-take}
use Rattle.theory.proofs.TestLaws.{by_test}
use Rattle.theory.specs.Problem.{fill, start_in}
use Rattle.theory.proofs.ProblemLaws.{end_is}
use Rattle.theory.specs.Orders.{count_up, listing}
use Rattle.theory.proofs.ListingLaws.{listing_mem, listing_length}
use Rattle.request.specs.declared.Request.{Request}
use Rattle.request.specs.View.{View, view, demand_at, width_of}
use Rattle.request.specs.Check.{check}
use Rattle.request.specs.Whole.{Whole}
use Rattle.request.specs.Sound.{SoundRequest}
use Rattle.request.proofs.SoundLaws.{check_sound, whole_counted}
use Rattle.request.proofs.LimitsLaws.{checked_limits}
use Rattle.request.specs.Sharing.{problem_of}
use Rattle.meeting.specs.Plan.{start_at, starts_of}
use Rattle.meeting.specs.PlanLaws.{slots_to_ends}
use Rattle.search.specs.declared.Outcome.{Outcome}
use Rattle.search.specs.declared.Outcome.TheVariants.{Finished, Unfinished}
use Rattle.search.specs.declared.Answer.{Answer}
use Rattle.search.specs.Reply.{rooms_of, searched, check_search, search_reply, buffers_after}
use Rattle.search.specs.ReplyLaws.{passed_searchable}
use Rattle.search.specs.Demand3.{PlanShown, Promised, fronts}
use Rattle.search.specs.Demand3Laws.{answer_given, demand3}
use Rattle.report.specs.Rows.{rows}
use Rattle.report.specs.RowsLaws.{rows_turn, row_stands}
use Rattle.report.specs.Report.{answer_text, plan_text, reply_text, twenty_zeros, request_text}
use Rattle.report.specs.Printed.{row_of, rows_at}

module _ (v : View) (starts : List ℕ) (sound : SoundRequest v) (counted : length v.demands ≡ v.demand_count)
    (room : v.demand_count ≤ length starts)
    (within : (k : ℕ) → k < v.demand_count → get_or starts k 0 + width_of (demand_at v.demands k) ≤ v.band.slots) where
  -- the rows from a listing position on
  rows_from : (n k : ℕ) → k + n ≡ v.demand_count → rows v.band (drop k v.demands) (drop k starts) ≡ rows_at v starts (count_up n k)
  unfolding rows rows_at row_of count_up
  rows_from zero k e = rw (drop_of_length-le v.demands {i = k} (omega arith))
  rows_from (suc n) k e =
      rows_turn v.band v.demands starts k (omega arith) (omega arith)
      ∙ ap₂ (λ (row rest : List ℕ). row ++ rest)
      (row_stands v k (get_or starts k 0) sound (omega arith) (within k (omega arith)))
      (ap (λ (m : ℕ). rows v.band (drop m v.demands) (drop m starts)) (add-one k) ∙ rows_from n (suc k) (omega arith))

  -- of starts inside the band every demand has its row
  all_rows : rows v.band v.demands starts ≡ rows_at v starts (listing v.demand_count)
  unfolding listing
  all_rows = rows_from v.demand_count 0 (omega arith)

-- a list whose first K entries are K has them
enough : (K : ℕ) (l : List ℕ) → length (take K l) ≡ K → K ≤ length l
enough K l e =
    by_test (leb K (length l))
    (leb-true K (length l))
    (λ f. let short = leb-false K (length l) f in omega (arith, ap length (take_all K l (omega arith)), e))

module _ (q : Request) (whole : Whole q) (a : Answer) (answered : search_reply (view q) 1000000 (20 ∷ 20 ∷ 20 ∷ []) ≡ Ok a) where
  abbrev v : View
  v = view q

  abbrev after : List ℕ
  after = (buffers_after v 1000000 twenty_zeros).starts

  passes : check v ≡ Ok tt
  unfolding search_reply
  passes = (passed_searchable v (20 ∷ 20 ∷ 20 ∷ []) (answer_given (check_search v (20 ∷ 20 ∷ 20 ∷ [])) (searched v 1000000) a answered).0).sound

  -- the rows of a plan shown
  shown_rows : (e : ℕ) → PlanShown v e (fronts v.demand_count (buffers_after v 1000000 twenty_zeros)) →
      rows v.band v.demands after ≡ rows_at v after (listing v.demand_count)
  unfolding problem_of start_at starts_of fronts
  shown_rows e shown =
      let K = v.demand_count in
      let sound = check_sound v (whole_counted q whole) passes in
      let limits = checked_limits q whole passes in
      let allowed = slots_to_ends v (take K after) sound limits.routes_there shown.allowed in
      let full : length (take K after) ≡ K =
      ap length shown.by_first_fit ∙ length-map (listing K) (start_in (fill (problem_of v) [] (take K (buffers_after v 1000000 twenty_zeros).order))) ∙ listing_length K in
      all_rows v after sound limits.demands_there (enough K after full)
      (λ k h. omega (arith, allowed.within k (listing_mem K k h), end_is (problem_of v) k (get_or (take K after) k 0), get_or-take K after k 0 h))

  -- with a plan the page is the answer's line and a row for each demand, in listing order
  pub plan_printed : (e : ℕ) → (a.outcome ≡ Finished e) ⊎ (a.outcome ≡ Unfinished e) →
      request_text v ≡ answer_text a ++ rows_at v after (listing v.demand_count)
  unfolding request_text reply_text plan_text Promised twenty_zeros rooms_of
  plan_printed e outcome =
      let K = v.demand_count in
      let kept = demand3 q whole 1000000 twenty_zeros a answered in
      let shown = fronts K (buffers_after v 1000000 twenty_zeros) in
      ap (reply_text v after) answered
      ∙ ⊎_elim
      (λ (is : a.outcome ≡ Finished e).
      ap (λ (o : Outcome). answer_text a ++ plan_text o (rows v.band v.demands after)) is
      ∙ ap (λ (text : List ℕ). answer_text a ++ text)
      (shown_rows e (subst (Promised v 1000000 a shown) is kept.promised).shown))
      (λ (is : a.outcome ≡ Unfinished e).
      ap (λ (o : Outcome). answer_text a ++ plan_text o (rows v.band v.demands after)) is
      ∙ ap (λ (text : List ℕ). answer_text a ++ text)
      (shown_rows e (subst (Promised v 1000000 a shown) is kept.promised).shown))
      outcome
