-- The test of a request in memory, step by step.
use Rattle.std.specs.Prelude.{ℕ, ◌+◌, ◌≤◌, ◌<◌, Bool, true, false, cond, List, [], ◌∷◌, ◌++◌, ◌≢◌, ◌≡◌, refl, length, take, drop, leb, ltb, eqb, Result, Ok, Err}
use Rattle.std.proofs.Common.{sym, ◌∙◌, ap, arith, add-one, ltb-true, ltb-false, lt-ltb, le-ltb, eq-eqb, ne_eqb, leb-true, drop_of_length-le, drop-cons}
use Rattle.refusal.specs.declared.Refusal.{Refusal}
use Rattle.refusal.specs.declared.Refusal.TheVariants.{WrongTag, WrongLength, BandOutside, BadLink, TooManyDemands, BadRoute, IdentUsed, BadWidth, UnknownRate}
use Rattle.grid.specs.declared.Band.{Band}
use Rattle.grid.specs.Grid.{allowed_band, allowed_width}
use Rattle.request.specs.declared.Link.{Link}
use Rattle.request.specs.declared.Demand.{Demand}
use Rattle.request.specs.declared.DemandTests.{DemandTests}
use Rattle.request.specs.declared.Request.{Request}
use Rattle.request.specs.View.{DemandView, link_at, no_link, demand_at, no_demand, view_demand, view, width_of}
use Rattle.theory.proofs.TestLaws.{by_test, and_first, and_second}
use Rattle.request.specs.Check.{then, has, sound_route, allowed_hops, check_band, check_some_link, check_links, check_link_count, check_demand, check_demands, check_demand_count, check, must, known_asked}
use Rattle.request.specs.DemandTest.{demand_tests}

-- after a check that passes comes the next
pub then_sound : (a next : Result Unit Refusal) → a ≡ Ok tt → then a next ≡ next
unfolding then
then_sound a next h = ap (λ (x : Result Unit Refusal). then x next) h

-- after a refusal nothing comes
pub then_refused : (a next : Result Unit Refusal) (why : Refusal) → a ≡ Err why → then a next ≡ Err why
unfolding then
then_refused a next why h = ap (λ (x : Result Unit Refusal). then x next) h

-- a run of checks that passes passes at its first
pub first_sound : (a next : Result Unit Refusal) → then a next ≡ Ok tt → a ≡ Ok tt
unfolding then
first_sound (Ok _) next h = refl
first_sound (Err why) next h = h

-- and at the others
pub next_sound : (a next : Result Unit Refusal) → then a next ≡ Ok tt → next ≡ Ok tt
unfolding then
next_sound (Ok _) next h = h
next_sound (Err why) next h = absurd (let z : ◌≡◌ {A = ℕ} 0 1 = cc in omega arith)

-- a run of checks may be taken in two parts
pub then_assoc : (a b c : Result Unit Refusal) → then a (then b c) ≡ then (then a b) c
unfolding then
then_assoc (Ok _) b c = refl
then_assoc (Err why) b c = refl

-- an allowed band passes
pub band_passes : (band : Band) → allowed_band band ≡ true → check_band band ≡ Ok tt
unfolding check_band
band_passes band h = ap (λ (b : Bool). cond b (Ok tt) (Err (BandOutside 0))) h

-- another is refused with 4 at place 0
pub band_refused : (band : Band) → allowed_band band ≡ false → check_band band ≡ Err (BandOutside 0)
unfolding check_band
band_refused band h = ap (λ (b : Bool). cond b (Ok tt) (Err (BandOutside 0))) h

-- no link is refused with 2 at place 0
pub no_link_lem : (count : ℕ) → count ≡ 0 → check_some_link count ≡ Err (WrongTag 0)
unfolding check_some_link
no_link_lem count h = ap (λ (b : Bool). cond b (Err (WrongTag 0)) (Ok tt)) (eq-eqb count 0 h)

-- some link passes
pub some_link_lem : (count : ℕ) → count ≢ 0 → check_some_link count ≡ Ok tt
unfolding check_some_link
some_link_lem count h = ap (λ (b : Bool). cond b (Err (WrongTag 0)) (Ok tt)) (ne_eqb count 0 h)

-- a 65th link is refused
pub too_many_links : (count : ℕ) → 64 < count → check_link_count count ≡ Err (BadLink 64)
unfolding check_link_count
too_many_links count h = ap (λ (b : Bool). cond b (Err (BadLink 64)) (Ok tt)) (lt-ltb 64 count h)

-- up to 64 links pass
pub few_links : (count : ℕ) → count ≤ 64 → check_link_count count ≡ Ok tt
unfolding check_link_count
few_links count h = ap (λ (b : Bool). cond b (Err (BadLink 64)) (Ok tt)) (le-ltb 64 count h)

-- where the count of links passes, there are at most 64
pub links_counted : (count : ℕ) → check_link_count count ≡ Ok tt → count ≤ 64
links_counted count h =
    by_test (ltb 64 count)
    (λ (t : ltb 64 count ≡ true).
    let z : Err (BadLink 64) ≡ Ok tt = sym (too_many_links count (ltb-true 64 count t)) ∙ h in
    absurd (let w : ◌≡◌ {A = ℕ} 0 1 = cc in omega arith))
    (λ (t : ltb 64 count ≡ false). ltb-false 64 count t)

-- a 201st demand is refused
pub too_many_demands : (count : ℕ) → 200 < count → check_demand_count count ≡ Err (TooManyDemands 200)
unfolding check_demand_count
too_many_demands count h = ap (λ (b : Bool). cond b (Err (TooManyDemands 200)) (Ok tt)) (lt-ltb 200 count h)

-- up to 200 demands pass
pub few_demands : (count : ℕ) → count ≤ 200 → check_demand_count count ≡ Ok tt
unfolding check_demand_count
few_demands count h = ap (λ (b : Bool). cond b (Err (TooManyDemands 200)) (Ok tt)) (le-ltb 200 count h)

-- an allowed width is 1 to S
pub width_allowed : (S w : ℕ) → allowed_width S w ≡ true → (1 ≤ w) × (w ≤ S)
width_allowed S w h = (leb-true 1 w (and_first (leb 1 w) (leb w S) h), leb-true w S (and_second (leb 1 w) (leb w S) h))

-- an allowed route length is 1 to 32
pub hops_allowed : (hops : ℕ) → allowed_hops hops ≡ true → (1 ≤ hops) × (hops ≤ 32)
unfolding allowed_hops
hops_allowed hops h = (
  leb-true 1 hops (and_first (leb 1 hops) (leb hops 32) h),
  leb-true hops 32 (and_second (leb 1 hops) (leb hops 32) h),
)

-- the links from a position on: the one there, then those behind it
links_turn : (links : List Link) (k : ℕ) → k < length links →
    check_links k (drop k links) ≡
    then (cond (eqb (link_at links k).from (link_at links k).to) (Err (BadLink k)) (Ok tt)) (check_links (k + 1) (drop (k + 1) links))
unfolding check_links link_at
links_turn links k h = rw (drop-cons links k no_link h, add-one k)

-- a link between two nodes passes, and the next is looked at
pub link_passes : (links : List Link) (k : ℕ) → k < length links → (link_at links k).from ≢ (link_at links k).to →
    check_links k (drop k links) ≡ check_links (k + 1) (drop (k + 1) links)
link_passes links k h differ =
    links_turn links k h ∙
    then_sound (cond (eqb (link_at links k).from (link_at links k).to) (Err (BadLink k)) (Ok tt)) (check_links (k + 1) (drop (k + 1) links))
    (ap (λ (b : Bool). cond b (Err (BadLink k)) (Ok tt)) (ne_eqb (link_at links k).from (link_at links k).to differ))

-- a link from a node to itself is refused
pub link_refused : (links : List Link) (k : ℕ) → k < length links → (link_at links k).from ≡ (link_at links k).to →
    check_links k (drop k links) ≡ Err (BadLink k)
link_refused links k h same =
    links_turn links k h ∙
    then_refused (cond (eqb (link_at links k).from (link_at links k).to) (Err (BadLink k)) (Ok tt)) (check_links (k + 1) (drop (k + 1) links)) (BadLink k)
    (ap (λ (b : Bool). cond b (Err (BadLink k)) (Ok tt)) (eq-eqb (link_at links k).from (link_at links k).to same))

-- behind the last link all have passed
pub links_end_lem : (links : List Link) (k : ℕ) → length links ≤ k → check_links k (drop k links) ≡ Ok tt
unfolding check_links
links_end_lem links k h = rw (drop_of_length-le links h)

-- a used ident is refused with 8
pub ident_refused : (S : ℕ) (links : List Link) (earlier : List ℕ) (k : ℕ) (d : DemandView) →
    has d.ident earlier ≡ true → check_demand S links earlier k d ≡ Err (IdentUsed k)
unfolding check_demand then
ident_refused S links earlier k d used = rw used

-- then a rate that is not in the table with 21
pub rate_refused : (S : ℕ) (links : List Link) (earlier : List ℕ) (k : ℕ) (d : DemandView) →
    has d.ident earlier ≡ false → known_asked d.asked ≡ false → check_demand S links earlier k d ≡ Err (UnknownRate k)
unfolding check_demand then
rate_refused S links earlier k d new unknown = rw (new, unknown)

-- then a width outside the band with 9
pub width_refused : (S : ℕ) (links : List Link) (earlier : List ℕ) (k : ℕ) (d : DemandView) →
    has d.ident earlier ≡ false → known_asked d.asked ≡ true → allowed_width S (width_of d) ≡ false → check_demand S links earlier k d ≡ Err (BadWidth k)
unfolding check_demand then
width_refused S links earlier k d new known outside = rw (new, known, outside)

-- then a route of no or too many links with 3
pub hops_refused : (S : ℕ) (links : List Link) (earlier : List ℕ) (k : ℕ) (d : DemandView) →
    has d.ident earlier ≡ false → known_asked d.asked ≡ true → allowed_width S (width_of d) ≡ true → allowed_hops d.hops ≡ false →
    check_demand S links earlier k d ≡ Err (WrongLength k)
unfolding check_demand then
hops_refused S links earlier k d new known width hops = rw (new, known, width, hops)

-- then an unsound route with 7
pub route_refused : (S : ℕ) (links : List Link) (earlier : List ℕ) (k : ℕ) (d : DemandView) →
    has d.ident earlier ≡ false → known_asked d.asked ≡ true → allowed_width S (width_of d) ≡ true → allowed_hops d.hops ≡ true →
    sound_route links d.route ≡ false → check_demand S links earlier k d ≡ Err (BadRoute k)
unfolding check_demand then
route_refused S links earlier k d new known width hops route = rw (new, known, width, hops, route)

-- a demand with none of these faults passes
pub demand_passes : (S : ℕ) (links : List Link) (earlier : List ℕ) (k : ℕ) (d : DemandView) →
    has d.ident earlier ≡ false → known_asked d.asked ≡ true → allowed_width S (width_of d) ≡ true → allowed_hops d.hops ≡ true →
    sound_route links d.route ≡ true → check_demand S links earlier k d ≡ Ok tt
unfolding check_demand then
demand_passes S links earlier k d new known width hops route = rw (new, known, width, hops, route)

-- the demands from a position on: the one there, then those behind it
demands_turn : (S : ℕ) (links : List Link) (earlier : List ℕ) (demands : List DemandView) (k : ℕ) → k < length demands →
    check_demands S links earlier k (drop k demands) ≡
    then (check_demand S links earlier k (demand_at demands k))
    (check_demands S links (earlier ++ ((demand_at demands k).ident ∷ [])) (k + 1) (drop (k + 1) demands))
unfolding check_demands demand_at
demands_turn S links earlier demands k h = rw (drop-cons demands k no_demand h, add-one k)

-- where a demand passes, the next is looked at
pub demands_pass : (S : ℕ) (links : List Link) (earlier : List ℕ) (demands : List DemandView) (k : ℕ) → k < length demands →
    check_demand S links earlier k (demand_at demands k) ≡ Ok tt →
    check_demands S links earlier k (drop k demands) ≡
    check_demands S links (earlier ++ ((demand_at demands k).ident ∷ [])) (k + 1) (drop (k + 1) demands)
demands_pass S links earlier demands k h passes =
    demands_turn S links earlier demands k h ∙
    then_sound (check_demand S links earlier k (demand_at demands k))
    (check_demands S links (earlier ++ ((demand_at demands k).ident ∷ [])) (k + 1) (drop (k + 1) demands)) passes

-- where a demand is refused, so is the request
pub demands_refused_lem : (S : ℕ) (links : List Link) (earlier : List ℕ) (demands : List DemandView) (k : ℕ) (why : Refusal) →
    k < length demands → check_demand S links earlier k (demand_at demands k) ≡ Err why →
    check_demands S links earlier k (drop k demands) ≡ Err why
demands_refused_lem S links earlier demands k why h refused =
    demands_turn S links earlier demands k h ∙
    then_refused (check_demand S links earlier k (demand_at demands k))
    (check_demands S links (earlier ++ ((demand_at demands k).ident ∷ [])) (k + 1) (drop (k + 1) demands)) why refused

-- behind the last demand all have passed
pub demands_end : (S : ℕ) (links : List Link) (earlier : List ℕ) (demands : List DemandView) (k : ℕ) → length demands ≤ k →
    check_demands S links earlier k (drop k demands) ≡ Ok tt
unfolding check_demands
demands_end S links earlier demands k h = rw (drop_of_length-le demands h)

-- requests that look the same get the same answer: two results of `check_request` are equal
pub same_answer : (r r' : Request) (a a' : Result Unit Refusal) → view r ≡ view r' → a ≡ check (view r) → a' ≡ check (view r') → a ≡ a'
same_answer r r' a a' same h h' = h ∙ (ap check same ∙ sym h')

-- two results of the tests of a demand are equal
pub same_tests : (S : ℕ) (links : List Link) (count : ℕ) (earlier : List ℕ) (d : Demand) (a b : DemandTests) →
    a ≡ demand_tests S (take count links) earlier (view_demand d) → b ≡ demand_tests S (take count links) earlier (view_demand d) → a ≡ b
same_tests S links count earlier d a b ha hb = ha ∙ sym hb

-- a check is sound or refused, and which of the two is known
pub by_check : {C : Type 0} (answer : Result Unit Refusal) → (answer ≡ Ok tt → C) → ((why : Refusal) → answer ≡ Err why → C) → C
by_check (Ok _) sound refused = sound refl
by_check (Err why) sound refused = refused why refl

-- a test that is sound holds
pub test_held : (test : Bool) (why : Refusal) → must test why ≡ Ok tt → test ≡ true
unfolding must
test_held true why e = refl
test_held false why e = absurd (let z : ◌≡◌ {A = ℕ} 0 1 = cc in omega arith)
