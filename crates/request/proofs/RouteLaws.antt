-- The tests of a route say what holds position by position.
use Rattle.std.specs.Prelude.{ℕ, zero, suc, ◌+◌, ◌-◌, ◌≤◌, ◌<◌, Bool, true, false, not, ◌&&◌, ◌||◌, List, [], ◌∷◌, ◌≢◌, ◌≡◌, refl, length, take, get_or, set, ltb, eqb}
use Rattle.std.specs.List.{list_any}
use Rattle.std.proofs.Math.Bool.{or-true}
use Rattle.std.proofs.Common.{sym, ◌∙◌, ap, subst, arith, add-one, ltb-true, ltb-false, lt-ltb, eqb-true, eq-eqb, ne_eqb, below_more, length-set, length-take-le, get_or-take, get_or-set_same, get_or-set_other}
use Rattle.std.proofs.lemmas.Bool.{eqb-false, not-true}
use Rattle.std.proofs.lemmas.List.{length-map}
use Rattle.request.specs.declared.Link.{Link}
use Rattle.request.specs.View.{link_at}
use Rattle.request.specs.Check.{has, listed, once, unbroken, nodes_of, sound_route}
use Rattle.request.proofs.ViewLaws.{map_at}
use Rattle.request.specs.inner.Route.{RouteHolds, RouteCome}
use Rattle.theory.proofs.TestLaws.{by_test, not_both, not_true_false, and_first, and_second, and_both, or_neither, or_first, or_second}

-- a number that no position has does not stand in a list
pub none_has : (x : ℕ) (xs : List ℕ) → ((i : ℕ) → i < length xs → x ≡ get_or xs i 0 → ⊥) → has x xs ≡ false
unfolding has
none_has x [] none = refl
none_has x (y ∷ ys) none =
    or_neither (eqb x y) (has x ys) (ne_eqb x y (none 0 (omega arith)))
    (none_has x ys (λ (i : ℕ) (h : i < length ys) (e : x ≡ get_or ys i 0). none (suc i) (omega arith) e))

-- a number that does not stand in a list is at no position of it
pub has_none : (x : ℕ) (xs : List ℕ) → has x xs ≡ false → (i : ℕ) → i < length xs → x ≡ get_or xs i 0 → ⊥
unfolding has
has_none x [] none i h e = omega arith
has_none x (y ∷ ys) none zero h e = eqb-false x y (or_first (eqb x y) (has x ys) none) e
has_none x (y ∷ ys) none (suc i) h e = has_none x ys (or_second (eqb x y) (has x ys) none) i (omega arith) e

-- a number that is at a position of a list stands in it
pub has_at : (x : ℕ) (xs : List ℕ) (i : ℕ) → i < length xs → x ≡ get_or xs i 0 → has x xs ≡ true
unfolding has
has_at x [] i h e = absurd (omega arith)
has_at x (y ∷ ys) zero h e = ap (λ (b : Bool). b || has x ys) (eq-eqb x y e)
has_at x (y ∷ ys) (suc i) h e = rw (has_at x ys i (omega arith) e) (or-true (eqb x y))

-- two numbers are compared either way round
either_way : (x y : ℕ) → eqb x y ≡ eqb y x
either_way x y =
    by_test (eqb y x)
    (λ t. rw t (eq-eqb x y (sym (eqb-true y x t))))
    (λ t. rw t (ne_eqb x y (λ e. eqb-false y x t (sym e))))

-- a number stands in a list where some entry is that number
pub has_some : (x : ℕ) (xs : List ℕ) → list_any (λ (y : ℕ). eqb y x) xs ≡ has x xs
unfolding has
has_some x [] = refl
has_some x (y ∷ ys) = rw (has_some x ys, either_way y x)

-- a number that no position below n has does not stand in the first n of a list
pub none_early : (x : ℕ) (xs : List ℕ) (n : ℕ) → n ≤ length xs → ((i : ℕ) → i < n → x ≡ get_or xs i 0 → ⊥) → has x (take n xs) ≡ false
none_early x xs n fits none =
    none_has x (take n xs)
    (λ (i : ℕ) (h : i < length (take n xs)) (e : x ≡ get_or (take n xs) i 0).
    let below : i < n = rw (length-take-le n xs fits) at h in
    none i below (e ∙ get_or-take n xs i 0 below))

-- a number that does not stand in the first n of a list is at no position below n
pub early_none : (x : ℕ) (xs : List ℕ) (n : ℕ) → n ≤ length xs → has x (take n xs) ≡ false → (i : ℕ) → i < n → x ≡ get_or xs i 0 → ⊥
early_none x xs n fits none i h e =
    has_none x (take n xs) none i (rw (length-take-le n xs fits) h) (e ∙ sym (get_or-take n xs i 0 h))

-- the links of a route that are all listed, are listed at each position
listed_at : (n : ℕ) (route : List ℕ) → listed n route ≡ true → (p : ℕ) → p < length route → get_or route p 0 < n
unfolding listed
listed_at n [] all p h = absurd (omega arith)
listed_at n (a ∷ route) all zero h = ltb-true a n (and_first (ltb a n) (listed n route) all)
listed_at n (a ∷ route) all (suc p) h = listed_at n route (and_second (ltb a n) (listed n route) all) p (omega arith)

-- a route is listed where each position is
at_listed : (n : ℕ) (route : List ℕ) → ((p : ℕ) → p < length route → get_or route p 0 < n) → listed n route ≡ true
unfolding listed
at_listed n [] each = refl
at_listed n (a ∷ route) each =
    and_both (ltb a n) (listed n route) (lt-ltb a n (each 0 (omega arith)))
    (at_listed n route (λ (p : ℕ) (h : p < length route). each (suc p) (omega arith)))

-- a list with no number twice has different numbers at different positions
once_at : (route : List ℕ) → once route ≡ true → (p q : ℕ) → p < q → q < length route → get_or route p 0 ≢ get_or route q 0
unfolding once
once_at [] all p q pq h e = omega arith
once_at (a ∷ route) all p zero pq h e = omega arith
once_at (a ∷ route) all zero (suc q) pq h e =
    has_none a route (not-true (has a route) (and_first (not (has a route)) (once route) all)) q (omega arith) e
once_at (a ∷ route) all (suc p) (suc q) pq h e =
    once_at route (and_second (not (has a route)) (once route) all) p q (omega arith) (omega arith) e

-- a list whose positions differ has no number twice
at_once : (route : List ℕ) → ((p q : ℕ) → p < q → q < length route → get_or route p 0 ≢ get_or route q 0) → once route ≡ true
unfolding once
at_once [] differ = refl
at_once (a ∷ route) differ =
    and_both (not (has a route)) (once route)
    (ap not (none_has a route (λ (q : ℕ) (h : q < length route) (e : a ≡ get_or route q 0). differ 0 (suc q) (omega arith) (omega arith) e)))
    (at_once route
    (λ (p q : ℕ) (pq : p < q) (h : q < length route) (e : get_or route p 0 ≡ get_or route q 0).
    differ (suc p) (suc q) (omega arith) (omega arith) e))

-- an unbroken route has each link begin where the one before ends
unbroken_at : (links : List Link) (route : List ℕ) → unbroken links route ≡ true → (p : ℕ) → suc p < length route →
    (link_at links (get_or route p 0)).to ≡ (link_at links (get_or route (suc p) 0)).from
unfolding unbroken
unbroken_at links [] all p h = absurd (omega arith)
unbroken_at links (a ∷ []) all p h = absurd (omega arith)
unbroken_at links (a ∷ b ∷ route) all zero h =
    eqb-true (link_at links a).to (link_at links b).from
    (and_first (eqb (link_at links a).to (link_at links b).from) (unbroken links (b ∷ route)) all)
unbroken_at links (a ∷ b ∷ route) all (suc p) h =
    unbroken_at links (b ∷ route)
    (and_second (eqb (link_at links a).to (link_at links b).from) (unbroken links (b ∷ route)) all) p (omega arith)

-- a route in which each link begins where the one before ends is unbroken
at_unbroken : (links : List Link) (route : List ℕ) →
    ((p : ℕ) → suc p < length route → (link_at links (get_or route p 0)).to ≡ (link_at links (get_or route (suc p) 0)).from) →
    unbroken links route ≡ true
unfolding unbroken
at_unbroken links [] joined = refl
at_unbroken links (a ∷ []) joined = refl
at_unbroken links (a ∷ b ∷ route) joined =
    and_both (eqb (link_at links a).to (link_at links b).from) (unbroken links (b ∷ route))
    (eq-eqb (link_at links a).to (link_at links b).from (joined 0 (omega arith)))
    (at_unbroken links (b ∷ route) (λ (p : ℕ) (h : suc p < length (b ∷ route)). joined (suc p) (omega arith)))

-- a route of some link has a node more than links
pub nodes_counted : (link : ℕ → Link) (route : List ℕ) → 1 ≤ length route → length (nodes_of link route) ≡ length route + 1
unfolding nodes_of
nodes_counted link [] some = absurd (omega arith)
nodes_counted link (a ∷ route) some = omega (arith, length-map (a ∷ route) (λ (b : ℕ). (link b).to))

-- and no route has more
nodes_most : (link : ℕ → Link) (route : List ℕ) → length (nodes_of link route) ≤ length route + 1
unfolding nodes_of
nodes_most link [] = omega arith
nodes_most link (a ∷ route) = omega (arith, nodes_counted link (a ∷ route) (omega arith))

-- the node behind a position is where the link there leads to
node_behind : (link : ℕ → Link) (route : List ℕ) (p : ℕ) → p < length route →
    get_or (nodes_of link route) (suc p) 0 ≡ (link (get_or route p 0)).to
unfolding nodes_of
node_behind link [] p h = absurd (omega arith)
node_behind link (a ∷ route) p h = map_at (λ (b : ℕ). (link b).to) (a ∷ route) p 0 0 h

-- the node at a position is where the link there begins, if no link before it leads elsewhere
node_ahead : (link : ℕ → Link) (route : List ℕ) (n : ℕ) → n ≤ length route →
    ((p : ℕ) → p + 1 < n → (link (get_or route p 0)).to ≡ (link (get_or route (p + 1) 0)).from) →
    (p : ℕ) → p < n → get_or (nodes_of link route) p 0 ≡ (link (get_or route p 0)).from
unfolding nodes_of
node_ahead link [] n within no_gap zero h = absurd (omega arith)
node_ahead link (a ∷ route) n within no_gap zero h = refl
node_ahead link route n within no_gap (suc p) h =
    node_behind link route p (omega arith) ∙ rw (add-one p) at (no_gap p (omega arith))

-- where nodes differ, so do the links that lead to them
nodes_part : (link : ℕ → Link) (route : List ℕ) (n : ℕ) → n ≤ length route →
    ((p q : ℕ) → p < q → q < n + 1 → get_or (nodes_of link route) p 0 ≢ get_or (nodes_of link route) q 0) →
    (p q : ℕ) → p < q → q < n → get_or route p 0 ≢ get_or route q 0
nodes_part link route n within differ p q pq h same =
    differ (suc p) (suc q) (omega arith) (omega arith)
    (node_behind link route p (omega arith) ∙
    (ap (λ (a : ℕ). (link a).to) same ∙ sym (node_behind link route q (omega arith))))

-- that no link stands twice follows where no node does
pub nodes_once_links_once : (link : ℕ → Link) (route : List ℕ) → once (nodes_of link route) ≡ true → once route ≡ true
nodes_once_links_once link route all =
    at_once route
    (nodes_part link route (length route) (omega arith)
    (λ (p q : ℕ) (pq : p < q) (h : q < length route + 1).
    once_at (nodes_of link route) all p q pq (omega (arith, nodes_counted link route (omega arith)))))

-- the four things that a sound route keeps
pub sound_parts : (links : List Link) (route : List ℕ) → sound_route links route ≡ true →
    (listed (length links) route ≡ true) × (once route ≡ true) × (unbroken links route ≡ true) × (once (nodes_of (link_at links) route) ≡ true)
unfolding sound_route
sound_parts links route sound =
    let all = listed (length links) route in
    let joined = unbroken links route in
    let apart = once (nodes_of (link_at links) route) in
    let from-once : once route && (joined && apart) ≡ true = and_second all (once route && (joined && apart)) sound in
    let from-joined : joined && apart ≡ true = and_second (once route) (joined && apart) from-once in (
      and_first all (once route && (joined && apart)) sound,
      and_first (once route) (joined && apart) from-once,
      and_first joined apart from-joined,
      and_second joined apart from-joined,
    )

-- a route that keeps the three that matter is sound: that no link stands twice follows
pub parts_sound : (links : List Link) (route : List ℕ) → listed (length links) route ≡ true → unbroken links route ≡ true →
    once (nodes_of (link_at links) route) ≡ true → sound_route links route ≡ true
unfolding sound_route
parts_sound links route all joined apart =
    and_both (listed (length links) route) (once route && (unbroken links route && once (nodes_of (link_at links) route))) all
    (and_both (once route) (unbroken links route && once (nodes_of (link_at links) route)) (nodes_once_links_once (link_at links) route apart)
    (and_both (unbroken links route) (once (nodes_of (link_at links) route)) joined apart))

-- what a sound route says of its positions
pub sound_holds : (links : List Link) (route : List ℕ) → sound_route links route ≡ true →
    RouteHolds (length links) (link_at links) route (length route)
sound_holds links route sound =
    let parts = sound_parts links route sound in
    record {
      each_listed = listed_at (length links) route parts.0;
      none_twice = once_at route parts.1;
      no_gap = λ (p : ℕ) (h : p + 1 < length route). rw (add-one p) (unbroken_at links route parts.2 p (omega arith));
      nodes_differ =
          λ (p q : ℕ) (pq : p < q) (h : q < length route + 1).
          once_at (nodes_of (link_at links) route) parts.3 p q pq (omega (arith, nodes_counted (link_at links) route (omega arith)));
    }

-- a route whose positions say so is sound
pub holds_sound : (links : List Link) (route : List ℕ) → RouteHolds (length links) (link_at links) route (length route) →
    sound_route links route ≡ true
holds_sound links route holds =
    parts_sound links route (at_listed (length links) route holds.each_listed)
    (at_unbroken links route (λ (p : ℕ) (h : suc p < length route). rw (add-one p) at (holds.no_gap p (omega arith))))
    (at_once (nodes_of (link_at links) route)
    (λ (p q : ℕ) (pq : p < q) (h : q < length (nodes_of (link_at links) route)).
    holds.nodes_differ p q pq (omega (arith, nodes_most (link_at links) route))))

-- of the first 0 entries everything holds
none_holds : (count : ℕ) (link : ℕ → Link) (route : List ℕ) → RouteHolds count link route 0
none_holds count link route =
    record {
      each_listed = λ (p : ℕ) (h : p < 0). absurd (omega arith);
      none_twice = λ (p q : ℕ) (pq : p < q) (h : q < 0) (e : get_or route p 0 ≡ get_or route q 0). omega arith;
      no_gap = λ (p : ℕ) (h : p + 1 < 0). absurd (omega arith);
      nodes_differ =
          λ (p q : ℕ) (pq : p < q) (h : q < 0 + 1) (e : get_or (nodes_of link route) p 0 ≡ get_or (nodes_of link route) q 0). omega arith;
    }

-- one entry more begins where the one before ends
gap_more : (link : ℕ → Link) (route : List ℕ) (p : ℕ) →
    ((i : ℕ) → i + 1 < p → (link (get_or route i 0)).to ≡ (link (get_or route (i + 1) 0)).from) →
    (0 < p → (link (get_or route (p - 1) 0)).to ≡ (link (get_or route p 0)).from) →
    (i : ℕ) → i + 1 < p + 1 → (link (get_or route i 0)).to ≡ (link (get_or route (i + 1) 0)).from
gap_more link route p no_gap joined i h =
    by_test (ltb (i + 1) p)
    (λ (t : ltb (i + 1) p ≡ true). no_gap i (ltb-true (i + 1) p t))
    (λ (t : ltb (i + 1) p ≡ false).
    let last : i + 1 ≡ p = omega (arith, ltb-false (i + 1) p t) in
    let before : p - 1 ≡ i = omega arith in
    rw last (rw before at (joined (omega arith))))

-- one entry more leads to a node where none up to it begins
nodes_more : (count : ℕ) (link : ℕ → Link) (route : List ℕ) (p : ℕ) → RouteHolds count link route p → p < length route →
    ((i : ℕ) → i + 1 < p + 1 → (link (get_or route i 0)).to ≡ (link (get_or route (i + 1) 0)).from) →
    ((i : ℕ) → i < p + 1 → (link (get_or route p 0)).to ≢ (link (get_or route i 0)).from) →
    (i j : ℕ) → i < j → j < p + 1 + 1 → get_or (nodes_of link route) i 0 ≢ get_or (nodes_of link route) j 0
nodes_more count link route p holds within no_gap new i j ij h =
    below_more (λ (k : ℕ). (i : ℕ) → i < k → get_or (nodes_of link route) i 0 ≢ get_or (nodes_of link route) k 0) (p + 1)
    (λ (k : ℕ) (kp : k < p + 1) (i : ℕ) (ik : i < k). holds.nodes_differ i k ik kp)
    (λ (i : ℕ) (ip : i < p + 1) (e : get_or (nodes_of link route) i 0 ≡ get_or (nodes_of link route) (p + 1) 0).
    let here : get_or (nodes_of link route) (p + 1) 0 ≡ (link (get_or route p 0)).to = rw (add-one p) (node_behind link route p within) in
    new i ip (sym here ∙ (sym e ∙ node_ahead link route (p + 1) (omega arith) no_gap i ip)))
    j h i ij

-- one entry more: it is listed, begins where the one before ends, and leads to a node where none up to it begins
one_more_holds : (count : ℕ) (link : ℕ → Link) (route : List ℕ) (p : ℕ) → RouteHolds count link route p → p < length route →
    get_or route p 0 < count → (0 < p → (link (get_or route (p - 1) 0)).to ≡ (link (get_or route p 0)).from) →
    ((i : ℕ) → i < p + 1 → (link (get_or route p 0)).to ≢ (link (get_or route i 0)).from) → RouteHolds count link route (p + 1)
one_more_holds count link route p holds within here-listed joined new =
    let no_gap = gap_more link route p holds.no_gap joined in
    let differ = nodes_more count link route p holds within no_gap new in
    record {
      each_listed = below_more (λ (k : ℕ). get_or route k 0 < count) p holds.each_listed here-listed;
      none_twice = nodes_part link route (p + 1) (omega arith) differ;
      no_gap = no_gap;
      nodes_differ = differ;
    }

-- a walk along a route begins anywhere
pub come_none : (links : List Link) (route kept : List ℕ) (node : ℕ) → length kept ≡ 32 → RouteCome links route kept node 0
come_none links route kept node room =
    record {
      within = omega arith;
      room = room;
      holds = none_holds (length links) (link_at links) route;
      at_node = λ (h : 0 < 0). absurd (omega arith);
      keeps = λ (i : ℕ) (h : i < 0). absurd (omega arith);
    }

-- where the links up to a position begin is kept, with the one there
keeps_more : (links : List Link) (route kept : List ℕ) (node p : ℕ) → RouteCome links route kept node p → p < 32 →
    (i : ℕ) → i < p + 1 → get_or (set kept p (link_at links (get_or route p 0)).from) i 0 ≡ (link_at links (get_or route i 0)).from
keeps_more links route kept node p come short =
    let from = (link_at links (get_or route p 0)).from in
    below_more (λ (i : ℕ). get_or (set kept p from) i 0 ≡ (link_at links (get_or route i 0)).from) p
    (λ (i : ℕ) (h : i < p). get_or-set_other kept p i from 0 (omega arith) ∙ come.keeps i h)
    (get_or-set_same kept p from 0 (omega (arith, come.room)))

-- a walk goes on by a link that is listed, begins at the node, and leads to a node where none up to it begins
pub come_on : (links : List Link) (route kept : List ℕ) (node p : ℕ) → RouteCome links route kept node p → p < length route → p < 32 →
    get_or route p 0 < length links → eqb p 0 || eqb node (link_at links (get_or route p 0)).from ≡ true →
    has (link_at links (get_or route p 0)).to (take (p + 1) (set kept p (link_at links (get_or route p 0)).from)) ≡ false →
    RouteCome links route (set kept p (link_at links (get_or route p 0)).from) (link_at links (get_or route p 0)).to (p + 1)
come_on links route kept node p come within short here-listed goes_on new =
    let here = link_at links (get_or route p 0) in
    let more : length (set kept p here.from) ≡ 32 = length-set kept p here.from ∙ come.room in
    let keeps = keeps_more links route kept node p come short in
    record {
      within = omega arith;
      room = more;
      holds =
          one_more_holds (length links) (link_at links) route p come.holds within here-listed
          (λ (some : 0 < p).
          sym (come.at_node some) ∙
          eqb-true node here.from (rw (ne_eqb p 0 (λ (z : p ≡ 0). omega arith)) at goes_on))
          (λ (i : ℕ) (h : i < p + 1) (e : here.to ≡ (link_at links (get_or route i 0)).from).
          early_none here.to (set kept p here.from) (p + 1) (omega arith) new i h (e ∙ sym (keeps i h)));
      at_node =
          λ (some : 0 < p + 1).
          let same : p + 1 - 1 ≡ p = omega arith in
          rw same;
      keeps = keeps;
    }

-- a walk that has come to the end of a route shows it sound
pub come_sound : (links : List Link) (route kept : List ℕ) (node p : ℕ) → RouteCome links route kept node p → length route ≤ p →
    sound_route links route ≡ true
come_sound links route kept node p come done =
    let all : p ≡ length route = omega (arith, come.within) in
    holds_sound links route (subst (λ (n : ℕ). RouteHolds (length links) (link_at links) route n) all come.holds)

-- a route with an unlisted link is not sound
pub unlisted_unsound : (links : List Link) (route : List ℕ) (p : ℕ) → p < length route → length links ≤ get_or route p 0 →
    sound_route links route ≡ false
unlisted_unsound links route p h out =
    not_true_false (sound_route links route)
    (λ (sound : sound_route links route ≡ true).
    let there : get_or route p 0 < length links = (sound_holds links route sound).each_listed p h in
    omega arith)

-- a route whose next link begins at another node is not sound
pub broken_unsound : (links : List Link) (route kept : List ℕ) (node p : ℕ) → RouteCome links route kept node p → p < length route →
    eqb p 0 || eqb node (link_at links (get_or route p 0)).from ≡ false → sound_route links route ≡ false
broken_unsound links route kept node p come h broken =
    not_true_false (sound_route links route)
    (λ (sound : sound_route links route ≡ true).
    let from = (link_at links (get_or route p 0)).from in
    let some : 0 < p = omega (arith, eqb-false p 0 (or_first (eqb p 0) (eqb node from) broken)) in
    let same : p - 1 + 1 ≡ p = omega arith in
    eqb-false node from (or_second (eqb p 0) (eqb node from) broken)
    (come.at_node some ∙ rw same at ((sound_holds links route sound).no_gap (p - 1) (omega arith))))

-- a route whose next link leads to a node where one up to it begins is not sound
pub met_unsound : (links : List Link) (route kept : List ℕ) (node p : ℕ) → RouteCome links route kept node p → p < length route → p < 32 →
    has (link_at links (get_or route p 0)).to (take (p + 1) (set kept p (link_at links (get_or route p 0)).from)) ≡ true →
    sound_route links route ≡ false
met_unsound links route kept node p come h short met =
    not_true_false (sound_route links route)
    (λ (sound : sound_route links route ≡ true).
    let here = link_at links (get_or route p 0) in
    let more : length (set kept p here.from) ≡ 32 = length-set kept p here.from ∙ come.room in
    let holds = sound_holds links route sound in
    not_both {C = ⊥} (has here.to (take (p + 1) (set kept p here.from))) met
    (none_early here.to (set kept p here.from) (p + 1) (omega arith)
    (λ (i : ℕ) (ip : i < p + 1) (e : here.to ≡ get_or (set kept p here.from) i 0).
    holds.nodes_differ i (suc p) (omega arith) (omega arith)
    (node_ahead (link_at links) route (length route) (omega arith) holds.no_gap i (omega arith) ∙
    (sym (keeps_more links route kept node p come short i ip) ∙
    (sym e ∙ sym (node_behind (link_at links) route p h)))))))
