-- Laws of the columns: how they are written entry by entry, what is tested, and that two results are equal.
use Prim.Native.Nat.{ℕ, ◌+◌, ◌-◌, ◌*◌, ◌≤◌, ◌<◌}
use mathlib.Core.List.Memᴰ
use mathlib.Core.List.{List, [], ◌∷◌, ◌++◌, map, append_assoc, append-nil, map-append}
use Rattle.std.specs.Prelude.{◌≡◌, refl, get_or, take, drop, Result, Ok, Err}
use Rattle.std.proofs.Common.{sym, ◌∙◌, arith, add-one, length-append, length-drop, drop_of_length-le, drop-drop, take-append-drop, take_all, take-suc}
use Rattle.std.proofs.Math.Path.{ap}
use Rattle.std.proofs.Math.ListN.{length, set, length-map}
use Rattle.std.proofs.lemmas.List.Edits.{sets, sets-eq, paste_all}
use Rattle.std.proofs.lemmas.Slice.{put_mid-paste}
use borrow.Rule.Slice.PartMut.{put_mid}
use Rattle.std.proofs.Math.Seq.{length-take-le}
use Rattle.refusal.specs.declared.Refusal.{Refusal}
use Rattle.request.specs.declared.Link.{Link}
use Rattle.request.specs.declared.Demand.{Demand}
use Rattle.request.specs.View.{DemandView, View, view_demand, no_link, no_demand, demand_at, no_entry}
use Rattle.request.proofs.ViewLaws.{map_at}
use Rattle.request.specs.Check.{then, check}
use Rattle.request.proofs.CheckLaws.{first_sound, then_sound, then_refused}
use Rattle.std.proofs.lemmas.List.{take_more}
use Rattle.lent.specs.LentLaws.{sets_then, over_more, rooms_held}
use Rattle.lent.specs.Lent.{check_room, check_rooms, over, unless_refused, write_answer}
use Rattle.columns.specs.Columns.{hop_counts, route_links, link_ends, DemandBuffers, demand_rooms, check_demand_columns, check_route_columns, demand_reply, route_reply, demands_over, demands_after, ends_after, hops_after, routes_after}

-- ---- a column of the demands, written to a buffer

-- what a function says of demands in an array it says of them as they are seen
pub column_seen : (f : DemandView → ℕ) (demands : List Demand) → map (λ (d : Demand). f (view_demand d)) demands ≡ map f (map view_demand demands)
column_seen f [] = refl
column_seen f (d ∷ demands) = ap (λ (l : List ℕ). f (view_demand d) ∷ l) (column_seen f demands)

module _ (f : DemandView → ℕ) (demands : List DemandView) (buffer : List ℕ) where
  -- one demand more
  pub column_more : (k : ℕ) → k < length demands → k < length buffer →
      set (over (take k (map f demands)) buffer) k (f (demand_at demands k)) ≡ over (take (k + 1) (map f demands)) buffer
  unfolding demand_at
  column_more k h room =
      ap (λ (x : ℕ). set (over (take k (map f demands)) buffer) k x) (sym (map_at f demands k no_demand 0 h))
      ∙ over_more (map f demands) buffer k (omega (arith, length-map demands f)) room

  -- all of them
  pub column_all : (k : ℕ) → length demands ≤ k → over (take k (map f demands)) buffer ≡ over (map f demands) buffer
  column_all k h = ap (λ (l : List ℕ). over l buffer) (take_all k (map f demands) (omega (arith, length-map demands f)))

-- entries stored from the front on
pub stored_over : (entries buffer : List ℕ) → length entries ≤ length buffer → sets buffer 0 entries ≡ over entries buffer
unfolding over
stored_over entries buffer h =
    let e : 0 + length entries ≡ length entries = omega arith in
    sets-eq entries buffer 0 (omega arith) ∙ ap (λ (n : ℕ). entries ++ drop n buffer) e

-- a list written at the front of the part of a buffer that begins at an entry is stored there
pub part_over : (out part route : List ℕ) (at : ℕ) → at + length route ≤ length out → part ≡ over route (take (length out - at) (drop at out)) →
    put_mid at (length out - at) out part ≡ sets out at route
unfolding over
part_over out part route at room e =
    let rest = drop at out in
    let n = length out - at in
    let left : length rest ≡ n = length-drop at out in
    let all : take n rest ≡ rest = take_all n rest (omega arith) in
    let same : part ≡ route ++ drop (length route) rest = e ∙ ap (λ (l : List ℕ). route ++ drop (length route) l) all in
    let long : n ≡ length (route ++ drop (length route) rest)
    = omega (arith, length-append route (drop (length route) rest), length-drop (length route) rest) in
    let none : drop (at + n) out ≡ [] = drop_of_length-le out {i = at + n} (omega arith) in
    let behind : drop (length route) rest ≡ drop (at + length route) out = drop-drop (length route) at out in
    put_mid-paste at n out part (route ++ drop (length route) rest) n same refl long
    ∙ paste_all out at (route ++ drop (length route) rest) n long
    ∙ rw (none, append-nil, behind, ← append_assoc) (sym (sets-eq route out at room))

-- ---- the links' nodes

-- two for each link
pub ends_length : (links : List Link) → length (link_ends links) ≡ 2 * length links
unfolding link_ends
ends_length [] = refl
ends_length (l ∷ links) = let rest = ends_length links in omega arith

-- those of more links follow
ends_follow : (xs ys : List Link) → link_ends (xs ++ ys) ≡ link_ends xs ++ link_ends ys
unfolding link_ends
ends_follow [] ys = refl
ends_follow (x ∷ xs) ys = ap (λ (l : List ℕ). x.from ∷ x.to ∷ l) (ends_follow xs ys)

-- one link more
pub ends_stored : (out after : List ℕ) (links : List Link) (k : ℕ) → k < length links → after ≡ sets out 0 (link_ends (take k links)) →
    set (set after (2 * k) (get_or links k no_link).from) (2 * k + 1) (get_or links k no_link).to ≡ sets out 0 (link_ends (take (k + 1) links))
unfolding link_ends
ends_stored out after links k more e =
    let l = get_or links k no_link in
    let taken : length (take k links) ≡ k = length-take-le k links (omega arith) in
    let behind : 2 * k ≡ 0 + length (link_ends (take k links)) = omega (arith, ends_length (take k links)) in
    let longer : take (k + 1) links ≡ take k links ++ (l ∷ []) = rw (add-one k) (take-suc links k no_link more) in
    ap (λ (n : ℕ). set (set after (2 * k) l.from) n l.to) (add-one (2 * k))
    ∙ ap (λ (o : List ℕ). sets o (2 * k) (link_ends (l ∷ []))) e
    ∙ sets_then out 0 (link_ends (take k links)) (link_ends (l ∷ [])) (2 * k) behind
    ∙ ap (sets out 0) (sym (ends_follow (take k links) (l ∷ [])) ∙ ap link_ends (sym longer))

-- ---- the routes

-- those of more demands follow
routes_follow : (xs ys : List DemandView) → route_links (xs ++ ys) ≡ route_links xs ++ route_links ys
unfolding route_links
routes_follow [] ys = refl
routes_follow (x ∷ xs) ys =
    ap (λ (l : List ℕ). x.route ++ l) (routes_follow xs ys) ∙ sym (append_assoc x.route (route_links xs) (route_links ys))

module _ (demands : List Demand) (k : ℕ) (more : k < length demands) where
  -- one more of an array's demands
  seen_more : map view_demand (take (k + 1) demands) ≡ map view_demand (take k demands) ++ (view_demand (get_or demands k no_entry) ∷ [])
  seen_more =
      ap (map view_demand) (take_more demands k no_entry more) ∙ map-append view_demand (take k demands) (get_or demands k no_entry ∷ [])

  -- the route of one more demand
  routes_more : route_links (map view_demand (take (k + 1) demands)) ≡ route_links (map view_demand (take k demands)) ++ (view_demand (get_or demands k no_entry)).route
  unfolding route_links
  routes_more =
      let front = map view_demand (take k demands) in
      let d = view_demand (get_or demands k no_entry) in
      ap route_links seen_more ∙ routes_follow front (d ∷ []) ∙
      ap (λ (l : List ℕ). route_links front ++ l) (append-nil d.route)

  -- with as many links as it has
  pub hops_more : length (route_links (map view_demand (take (k + 1) demands))) ≡ length (route_links (map view_demand (take k demands))) + length (view_demand (get_or demands k no_entry)).route
  hops_more = ap length routes_more ∙ length-append (route_links (map view_demand (take k demands))) (view_demand (get_or demands k no_entry)).route

  -- the routes, one more
  pub routes_stored : (out after next : List ℕ) (at : ℕ) → at ≡ length (route_links (map view_demand (take k demands))) →
      after ≡ sets out 0 (route_links (map view_demand (take k demands))) → next ≡ sets after at (view_demand (get_or demands k no_entry)).route →
      next ≡ sets out 0 (route_links (map view_demand (take (k + 1) demands)))
  routes_stored out after next at here e f =
      let route = (view_demand (get_or demands k no_entry)).route in
      f ∙ ap (λ (o : List ℕ). sets o at route) e ∙
      sets_then out 0 (route_links (map view_demand (take k demands))) route at (omega (arith, here)) ∙ ap (sets out 0) (sym routes_more)

  -- the counts, one more
  pub hops_stored : (out after : List ℕ) → after ≡ sets out 0 (hop_counts (map view_demand (take k demands))) →
      set after k (get_or demands k no_entry).hops ≡ sets out 0 (hop_counts (map view_demand (take (k + 1) demands)))
  unfolding hop_counts view_demand
  hops_stored out after e =
      let hops : DemandView → ℕ = λ (d : DemandView). d.hops in
      let before = map view_demand (take k demands) in
      let d = view_demand (get_or demands k no_entry) in
      let here : k ≡ 0 + length (hop_counts before)
      = omega (arith, length-map before hops, length-map (take k demands) view_demand, length-take-le k demands (omega arith)) in
      ap (λ (o : List ℕ). set o k d.hops) e
      ∙ sets_then out 0 (hop_counts before) (d.hops ∷ []) k here
      ∙ ap (sets out 0) (sym (map-append hops before (d ∷ [])) ∙ ap hop_counts (sym seen_more))

  -- the first routes are no longer than all of them
  pub hops_within : length (route_links (map view_demand (take (k + 1) demands))) ≤ length (route_links (map view_demand demands))
  hops_within =
      let front = take (k + 1) demands in
      let rest = drop (k + 1) demands in
      let routes : route_links (map view_demand demands) ≡ route_links (map view_demand front) ++ route_links (map view_demand rest)
      = ap (λ (ds : List Demand). route_links (map view_demand ds)) (sym (take-append-drop (k + 1) demands)) ∙
      ap route_links (map-append view_demand front rest) ∙ routes_follow (map view_demand front) (map view_demand rest) in
      omega (arith, ap length routes ∙ length-append (route_links (map view_demand front)) (route_links (map view_demand rest)))

-- ---- what is tested

-- a sound request: the rooms decide
pub demands_fit : (v : View) (rooms : List ℕ) → check v ≡ Ok tt → check_demand_columns v rooms ≡ check_rooms v.demand_count rooms
unfolding check_demand_columns
demands_fit v rooms sound = then_sound (check v) (check_rooms v.demand_count rooms) sound

-- the test for a column of n entries
fit : (column : List ℕ) (room n : ℕ) (told : Result Unit Refusal) → length column ≡ n → check_room n room ≡ told → check_room (length column) room ≡ told
fit column room n told e h = ap (λ (m : ℕ). check_room m room) e ∙ h

module _ (v : View) (a b c L K H : ℕ) (sound : check v ≡ Ok tt) (links : length v.links ≡ L) (demands : length v.demands ≡ K) (hops : length (route_links v.demands) ≡ H) where
  both_ends : length (link_ends v.links) ≡ 2 * L
  both_ends = omega (arith, ends_length v.links, links)

  counts_length : length (hop_counts v.demands) ≡ K
  unfolding hop_counts
  counts_length = length-map v.demands (λ (d : DemandView). d.hops) ∙ demands

  -- no room for the links' nodes
  pub no_ends : (why : Refusal) → check_room (2 * L) a ≡ Err why → check_route_columns v a b c ≡ Err why
  unfolding check_route_columns then
  no_ends why h = rw (sound, fit (link_ends v.links) a (2 * L) (Err why) both_ends h)

  -- none for the counts
  pub no_hops : (why : Refusal) → check_room (2 * L) a ≡ Ok tt → check_room K b ≡ Err why → check_route_columns v a b c ≡ Err why
  unfolding check_route_columns then
  no_hops why h k = rw (sound, fit (link_ends v.links) a (2 * L) (Ok tt) both_ends h, fit (hop_counts v.demands) b K (Err why) counts_length k)

  -- room for both: that for the routes decides
  pub routes_fit : (told : Result Unit Refusal) → check_room (2 * L) a ≡ Ok tt → check_room K b ≡ Ok tt → check_room H c ≡ told → check_route_columns v a b c ≡ told
  unfolding check_route_columns then
  routes_fit told h k l =
      rw (sound, fit (link_ends v.links) a (2 * L) (Ok tt) both_ends h, fit (hop_counts v.demands) b K (Ok tt) counts_length k)
      (fit (route_links v.demands) c H told hops l)

-- what the test for rooms passes has room in each buffer
pub demands_held : (need : ℕ) (lent : DemandBuffers) → check_rooms need (demand_rooms lent) ≡ Ok tt →
    (need ≤ length lent.idents) × (need ≤ length lent.widths) × (need ≤ length lent.rates)
unfolding demand_rooms
demands_held need lent roomy =
    let held = rooms_held need (demand_rooms lent) roomy in (
      held (length lent.idents) (Memᴰ.head refl),
      held (length lent.widths) (Memᴰ.tail (Memᴰ.head refl)),
      held (length lent.rates) (Memᴰ.tail (Memᴰ.tail (Memᴰ.head refl))),
    )

-- what passes is sound
pub demands_sound : (v : View) (rooms : List ℕ) → check_demand_columns v rooms ≡ Ok tt → check v ≡ Ok tt
unfolding check_demand_columns
demands_sound v rooms h = first_sound (check v) (check_rooms v.demand_count rooms) h

pub routes_sound : (v : View) (a b c : ℕ) → check_route_columns v a b c ≡ Ok tt → check v ≡ Ok tt
unfolding check_route_columns
routes_sound v a b c h =
    first_sound (check v) (then (check_room (length (link_ends v.links)) a) (then (check_room (length (hop_counts v.demands)) b) (check_room (length (route_links v.demands)) c))) h

-- an unsound request: its fault
pub demands_unsound : (v : View) (rooms : List ℕ) (why : Refusal) → check v ≡ Err why → check_demand_columns v rooms ≡ Err why
unfolding check_demand_columns
demands_unsound v rooms why h = then_refused (check v) (check_rooms v.demand_count rooms) why h

pub routes_unsound : (v : View) (a b c : ℕ) (why : Refusal) → check v ≡ Err why → check_route_columns v a b c ≡ Err why
unfolding check_route_columns then
routes_unsound v a b c why h = rw h

-- ---- what is answered, and what the buffers hold

module _ (v : View) (lent : DemandBuffers) where
  -- refused: the buffers for the demands as they were
  pub demands_refused_lem : (why : Refusal) → check_demand_columns v (demand_rooms lent) ≡ Err why →
      (Err why ≡ demand_reply v (demand_rooms lent)) × (lent ≡ demands_after v lent)
  unfolding demand_reply write_answer demands_after unless_refused
  demands_refused_lem why h = rw h (refl, refl)

  -- passed: their columns
  pub demands_written : check_demand_columns v (demand_rooms lent) ≡ Ok tt →
      (Ok v.demand_count ≡ demand_reply v (demand_rooms lent)) × (demands_over v.demands lent ≡ demands_after v lent)
  unfolding demand_reply write_answer demands_after unless_refused
  demands_written h = rw h (refl, refl)

module _ (v : View) (e h r : List ℕ) where
  -- refused: all three buffers as they were
  pub routes_refused_lem : (why : Refusal) → check_route_columns v (length e) (length h) (length r) ≡ Err why →
      (Err why ≡ route_reply v (length e) (length h) (length r)) ×
      ((e ≡ ends_after v e h r) × ((h ≡ hops_after v e h r) × (r ≡ routes_after v e h r)))
  unfolding route_reply write_answer ends_after hops_after routes_after unless_refused
  routes_refused_lem why p = rw p (refl, (refl, (refl, refl)))

  -- passed: the three columns
  pub routes_written : check_route_columns v (length e) (length h) (length r) ≡ Ok tt →
      (Ok (length (route_links v.demands)) ≡ route_reply v (length e) (length h) (length r)) ×
      ((over (link_ends v.links) e ≡ ends_after v e h r) ×
      ((over (hop_counts v.demands) h ≡ hops_after v e h r) × (over (route_links v.demands) r ≡ routes_after v e h r)))
  unfolding route_reply write_answer ends_after hops_after routes_after unless_refused
  routes_written p = rw p (refl, (refl, (refl, refl)))

-- ---- one answer

-- two results of `demand_columns` are equal
pub same_demand_columns : (v : View) (lent : DemandBuffers) (a a' : Result ℕ Refusal) (after after' : DemandBuffers) →
    a ≡ demand_reply v (demand_rooms lent) → a' ≡ demand_reply v (demand_rooms lent) →
    after ≡ demands_after v lent → after' ≡ demands_after v lent → (a ≡ a') × (after ≡ after')
same_demand_columns v lent a a' after after' h h' k k' = (h ∙ sym h', k ∙ sym k')

-- two results of `route_columns` are equal
pub same_route_columns : (v : View) (e h r : List ℕ) (a a' : Result ℕ Refusal) (x x' y y' z z' : List ℕ) →
    a ≡ route_reply v (length e) (length h) (length r) → a' ≡ route_reply v (length e) (length h) (length r) →
    x ≡ ends_after v e h r → x' ≡ ends_after v e h r → y ≡ hops_after v e h r → y' ≡ hops_after v e h r →
    z ≡ routes_after v e h r → z' ≡ routes_after v e h r → (a ≡ a') × (x ≡ x') × (y ≡ y') × (z ≡ z')
same_route_columns v e h r a a' x x' y y' z z' p p' q q' s s' t t' = (p ∙ sym p', q ∙ sym q', s ∙ sym s', t ∙ sym t')

-- ---- a refusal leaves every buffer as it was

-- an answer of a refusal is a test's
count_refused : (c : Result Unit Refusal) (n : ℕ) (why : Refusal) → write_answer c n ≡ Err why → c ≡ Err why
unfolding write_answer
count_refused (Ok _) n why e = absurd (let z : ◌≡◌ {A = ℕ} 0 1 = cc in omega arith)
count_refused (Err why') n why e = let same : why' ≡ why = cc in ap Err same

pub demands_refused_keep : (v : View) (lent : DemandBuffers) (why : Refusal) → demand_reply v (demand_rooms lent) ≡ Err why → demands_after v lent ≡ lent
unfolding demand_reply
demands_refused_keep v lent why e =
    sym (demands_refused_lem v lent why (count_refused (check_demand_columns v (demand_rooms lent)) v.demand_count why e)).1

pub routes_refused_keep : (v : View) (e h r : List ℕ) (why : Refusal) → route_reply v (length e) (length h) (length r) ≡ Err why →
    (ends_after v e h r ≡ e) × (hops_after v e h r ≡ h) × (routes_after v e h r ≡ r)
unfolding route_reply
routes_refused_keep v e h r why p =
    let kept = routes_refused_lem v e h r why (count_refused (check_route_columns v (length e) (length h) (length r)) (length (route_links v.demands)) why p) in
    (sym kept.1.0, sym kept.1.1.0, sym kept.1.1.1)
