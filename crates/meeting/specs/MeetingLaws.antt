-- Routes: what a demand's array says of its route, and when two routes share a link.
use Rattle.std.specs.Prelude.{ℕ, zero, suc, ◌+◌, ◌≤◌, ◌<◌, true, ◌||◌, List, [], ◌∷◌, ◌++◌, map, ◌≡◌, refl, ltb, eqb, length, get_or, take, drop, set, replicate}
use Rattle.std.proofs.Math.Bool.{Bool, false, or_assoc, or-false, or-true}
use Rattle.std.proofs.Math.Path.{sym}
use Rattle.std.proofs.Common.{ap, ◌∙◌, arith, add-one, length-set, length-take, drop_of_length-le, take-suc, take_all, drop-cons, get_or-take, get_or-set_same, get_or-set_other, eqb-true, ltb-true, ltb-false}
use Rattle.std.proofs.lemmas.List.{length-replicate, length-map}
use Rattle.std.proofs.Math.ListN.{get_or-replicate}
use Rattle.std.proofs.Math.Seq.{ext_get_or}
use Rattle.std.proofs.lemmas.Bool.{eqb-false}
use Rattle.std.specs.List.{list_any}
use Rattle.request.specs.declared.Demand.{Demand}
use Rattle.request.specs.View.{View, view_demand, no_demand, demand_at, no_entry, DemandView}
use Rattle.request.proofs.ViewLaws.{map_at}
use Rattle.request.specs.Check.{has}
use Rattle.request.proofs.RouteLaws.{has_some as some_has}
use Rattle.theory.proofs.TestLaws.{by_test}
use Rattle.theory.specs.Orders.{count_up, listing}
use Rattle.theory.proofs.ListingLaws.{count_up-length, listing_length}
use Rattle.request.specs.Sharing.{share_link, problem_of}
use Rattle.theory.specs.Problem.{Row, start_in}
use Rattle.meeting.specs.Plan.{start_at, starts_of}
use Rattle.meeting.specs.PlanLaws.{share_swap}
use Rattle.meeting.specs.inner.Filling.{FilledTo}
use Rattle.meeting.specs.FillingLaws.{filled_entry, unfilled_entry}
use Rattle.meeting.specs.AskedLaws.{demand_none, demand_in_lem}
use Rattle.meeting.specs.inner.Meeting.{marked_in, MarksOf}
use Rattle.meeting.specs.Row.{meeting_row}

-- a route is as long as it says where the array has room for it
pub route_short : (d : Demand) → d.hops < 32 → take d.hops d.links ≡ (view_demand d).route
unfolding view_demand
route_short d h = refl

-- and else it is the whole array
pub route_whole : (d : Demand) → length d.links ≡ 32 → 32 ≤ d.hops → take 32 d.links ≡ (view_demand d).route
unfolding view_demand
route_whole d full h = take_all 32 d.links (omega arith) ∙ sym (take_all d.hops d.links (omega arith))

-- a test of the links from p on: the link at p, or one further on
some_on : (test : ℕ → Bool) (route : List ℕ) (p : ℕ) → p < length route →
    list_any test (drop p route) ≡ (test (get_or route p 0) || list_any test (drop (p + 1) route))
some_on test route p h = rw (add-one, drop-cons route p 0)

module _ (test : ℕ → Bool) (links : List ℕ) (hops p : ℕ) (within : hops ≤ length links)
    (so_far : list_any test (drop p (take hops links)) ≡ list_any test (take hops links)) where
  -- the turn at p of a look along the route of the first links, for the first that passes the test
  turn : p < hops → (test (get_or links p 0) || list_any test (drop (p + 1) (take hops links))) ≡ list_any test (take hops links)
  turn h =
      rw (← get_or-take hops links p 0 h)
      (sym (some_on test (take hops links) p (omega (arith, length-take hops links))) ∙ so_far)

  -- it is found
  pub link_found : p < hops → test (get_or links p 0) ≡ true → true ≡ list_any test (take hops links)
  link_found h e = rw e at (turn h)

  -- it is not the one at p
  pub link_passed : p < hops → test (get_or links p 0) ≡ false →
      list_any test (drop (p + 1) (take hops links)) ≡ list_any test (take hops links)
  link_passed h e = rw e at (turn h)

  -- there is none
  pub no_link_lem : hops ≤ p → false ≡ list_any test (take hops links)
  no_link_lem h = rw (drop_of_length-le (take hops links) {i = p} (omega (arith, length-take hops links))) at so_far

-- a number stands in a list when some entry is that number
pub has_some : (x : ℕ) (l : List ℕ) → has x l ≡ list_any (eqb x) l
unfolding has
has_some x [] = refl
has_some x (y ∷ l) = rw (has_some x l)

-- two routes share a link when some link of the one stands in the other
pub share_some : (l route : List ℕ) → list_any (λ (x : ℕ). list_any (λ (y : ℕ). eqb y x) route) l ≡ share_link l route
unfolding share_link
share_some [] route = refl
share_some (a ∷ l) route = rw (some_has a route, share_some l route)

-- one more entry
pub has_append : (x : ℕ) (l : List ℕ) (y : ℕ) → has x (l ++ (y ∷ [])) ≡ (has x l || eqb x y)
unfolding has
has_append x [] y = or-false (eqb x y)
has_append x (z ∷ l) y = rw (has_append x l y) (sym (or_assoc (eqb x z) (has x l) (eqb x y)))

-- a number stands in the first p + 1 entries when it stands in the first p, or at p
pub has_take : (x : ℕ) (l : List ℕ) (p : ℕ) → p < length l → has x (take (p + 1) l) ≡ (has x (take p l) || eqb x (get_or l p 0))
has_take x l p h = rw (add-one, take-suc l p 0) (has_append x (take p l) (get_or l p 0))

-- nothing is marked for no entries
pub marks_none : (n : ℕ) (list : List ℕ) → MarksOf n (take 0 list) (replicate n false)
unfolding marked_in has
marks_none n list = record { full = length-replicate n false; marked = λ x h. get_or-replicate n x false false h }

-- one more mark
pub marks_more : (n : ℕ) (marks : List Bool) (list : List ℕ) (p : ℕ) → p < length list → get_or list p 0 < n →
    MarksOf n (take p list) marks → MarksOf n (take (p + 1) list) (set marks (get_or list p 0) true)
unfolding marked_in
marks_more n marks list p h k known =
    record {
      full = length-set marks (get_or list p 0) true ∙ known.full;
      marked =
          λ x b.
          by_test (eqb x (get_or list p 0))
          (λ e.
          rw (has_take x list p h, e, or-true (has x (take p list)), eqb-true x (get_or list p 0) e)
          (get_or-set_same marks (get_or list p 0) true false (omega (arith, known.full))))
          (λ e.
          rw (
            has_take x list p h,
            e,
            or-false (has x (take p list)),
            get_or-set_other marks (get_or list p 0) x true false (eqb-false x (get_or list p 0) e),
          )
          (known.marked x b));
    }

-- what the arrays say of two demands' routes is what the lists say
pub joined_at : (demands : List Demand) (count j i : ℕ) → j < length (map view_demand (take count demands)) → i < length (map view_demand (take count demands)) →
    share_link (view_demand (get_or demands j no_entry)).route (view_demand (get_or demands i no_entry)).route
    ≡ share_link (demand_at (map view_demand (take count demands)) j).route (demand_at (map view_demand (take count demands)) i).route
joined_at demands count j i hj hi = rw (demand_in_lem demands count j hj, demand_in_lem demands count i hi)

-- what is no demand shares no link
shared_none : (demands : List DemandView) (j : ℕ) (route : List ℕ) → length demands ≤ j → share_link (demand_at demands j).route route ≡ false
unfolding share_link no_demand
shared_none demands j route h = rw (demand_none demands j h)

-- sharing a link goes both ways
pub joined_swap : (v : View) (i j : ℕ) → (problem_of v).joined i j ≡ (problem_of v).joined j i
unfolding problem_of
joined_swap v i j = share_swap (demand_at v.demands i).route (demand_at v.demands j).route

-- the numbers counted up from k
count_up_at : (n k j : ℕ) → j < n → get_or (count_up n k) j 0 ≡ k + j
unfolding count_up
count_up_at zero k j h = absurd (omega arith)
count_up_at (suc n) k zero h = omega arith
count_up_at (suc n) k (suc j) h = count_up_at n (suc k) j (omega arith) ∙ omega arith

-- what is made of each listing position
pub listing_at : {A : Type 0} (f : ℕ → A) (n j : ℕ) (none : A) → j < n → get_or (map f (listing n)) j none ≡ f j
unfolding listing
listing_at f n j none h =
    map_at f (count_up n 0) j 0 none (omega (arith, count_up-length n 0)) ∙ ap f (count_up_at n 0 j h ∙ omega arith)

-- an entry of a row says whether two demands share a link
pub row_entry : (v : View) (i j : ℕ) → j < 200 → get_or (meeting_row v.demands i) j false ≡ (problem_of v).joined j i
unfolding meeting_row problem_of
row_entry v i j h = listing_at (λ (k : ℕ). share_link (demand_at v.demands k).route (demand_at v.demands i).route) 200 j false h

module _ (demands : List DemandView) (i : ℕ) where
  -- demand j shares a link with demand i
  meets : ℕ → Bool
  meets j = share_link (demand_at demands j).route (demand_at demands i).route

  -- an array of 200 entries that says of each demand whether it shares a link with demand i is the row
  row_of : (row : List Bool) → length row ≡ 200 → ((j : ℕ) → j < 200 → get_or row j false ≡ meets j) → row ≡ meeting_row demands i
  unfolding meeting_row meets
  row_of row full each =
      ext_get_or false row (map meets (listing 200)) (full ∙ sym (length-map (listing 200) meets ∙ listing_length 200))
      (λ k h. each k (omega (arith, full)) ∙ sym (listing_at meets 200 k false (omega (arith, full))))

  -- a row filled for all demands is the row
  pub row_whole : (row : List Bool) →
      FilledTo Bool (λ (j : ℕ). share_link (demand_at demands j).route (demand_at demands i).route) false 200 (length demands) row → row ≡ meeting_row demands i
  unfolding meets
  row_whole row so_far =
      row_of row so_far.full
      (λ j h.
      by_test (ltb j (length demands))
      (λ t. filled_entry Bool meets false 200 (length demands) row so_far j h (ltb-true j (length demands) t))
      (λ t.
      unfilled_entry Bool meets false 200 (length demands) row so_far j h (ltb-false j (length demands) t)
      ∙ sym (shared_none demands j (demand_at demands i).route (ltb-false j (length demands) t))))

  -- the row of what is no demand is empty
  pub row_none : length demands ≤ i → replicate 200 false ≡ meeting_row demands i
  unfolding meets
  row_none h =
      row_of (replicate 200 false) (length-replicate 200 false)
      (λ j l.
      get_or-replicate 200 j false false l
      ∙ sym (share_swap (demand_at demands j).route (demand_at demands i).route ∙ shared_none demands i (demand_at demands j).route h))

-- two results of the call for a row are equal
pub same_row : (demands : List DemandView) (i : ℕ) (a b : List Bool) → a ≡ meeting_row demands i → b ≡ meeting_row demands i → a ≡ b
same_row demands i a b ha hb = ha ∙ sym hb

-- two results of the call for two demands are equal
pub same_share : (d other : Demand) (a b : Bool) → a ≡ share_link (view_demand d).route (view_demand other).route →
    b ≡ share_link (view_demand d).route (view_demand other).route → a ≡ b
same_share d other a b ha hb = ha ∙ sym hb

-- the starts of rows by listing position are the rows' starts
pub start_listed : (K : ℕ) (rows : List Row) (i : ℕ) → i < K → start_at (starts_of K rows) i ≡ start_in rows i
unfolding start_at starts_of
start_listed K rows i h = listing_at (start_in rows) K i 0 h

-- there are K of them
pub starts_long : (K : ℕ) (rows : List Row) → length (starts_of K rows) ≡ K
unfolding starts_of
starts_long K rows = length-map (listing K) (start_in rows) ∙ listing_length K
