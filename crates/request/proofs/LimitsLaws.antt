-- A sound request keeps its limits.
use Rattle.std.specs.Prelude.{ℕ, ◌≤◌, ◌<◌, true, ◌&&◌, ◌≡◌, get_or, leb, Ok}
use Rattle.std.proofs.Common.{arith, leb-true, get_or-take}
use Rattle.grid.specs.declared.Band.{Band}
use Rattle.grid.specs.Grid.{allowed_edge, allowed_slots, allowed_guard, allowed_band}
use Rattle.request.specs.declared.Request.{Request}
use Rattle.request.specs.View.{View, view_demand, view, link_at, no_entry}
use Rattle.request.specs.Check.{check}
use Rattle.request.specs.Sound.{SoundDemand, SoundRequest}
use Rattle.request.specs.Whole.{Whole, Counted}
use Rattle.request.specs.inner.Limits.{Limits, AllLimits}
use Rattle.theory.proofs.TestLaws.{and_first, and_second}
use Rattle.request.proofs.ViewLaws.{demand_shown}
use Rattle.request.proofs.SoundLaws.{check_sound, whole_counted}

-- an allowed band has 1 to 384 slots
band_slots : (band : Band) → allowed_band band ≡ true → (1 ≤ band.slots) × (band.slots ≤ 384)
band_slots band h =
    let S = band.slots in
    let slots = and_first (allowed_slots S) (allowed_guard band.guard)
    (and_second (allowed_edge band.n0) (allowed_slots S && allowed_guard band.guard) h) in
    (leb-true 1 S (and_first (leb 1 S) (leb S 384) slots), leb-true S 384 (and_second (leb 1 S) (leb S 384) slots))

-- and a guard of at most 8
band_guard : (band : Band) → allowed_band band ≡ true → band.guard ≤ 8
band_guard band h =
    leb-true band.guard 8
    (and_second (allowed_slots band.slots) (allowed_guard band.guard)
    (and_second (allowed_edge band.n0) (allowed_slots band.slots && allowed_guard band.guard) h))

-- a sound request keeps its limits
pub sound_limits : (v : View) → Counted v → SoundRequest v → Limits v
sound_limits v counted sound =
    let all = counted.demands_counted sound.at_most_200_demands in
    record {
      some_slot = (band_slots v.band sound.band_allowed).0;
      most_slots = (band_slots v.band sound.band_allowed).1;
      most_guard = band_guard v.band sound.band_allowed;
      some_link = sound.some_link;
      most_links = sound.at_most_64_links;
      links_there = counted.links_counted sound.at_most_64_links;
      most_demands = sound.at_most_200_demands;
      demands_there = all;
      routes_there = λ (k : ℕ) (h : k < v.demand_count). counted.routes_counted k (omega arith) (sound.demands_sound k h).at_most_32_hops;
    }

-- a request that the test finds sound keeps its limits
pub checked_limits : (r : Request) → Whole r → check (view r) ≡ Ok tt → Limits (view r)
checked_limits r whole sound =
    sound_limits (view r) (whole_counted r whole) (check_sound (view r) (whole_counted r whole) sound)

-- and so does each of its demands
pub checked_demands : (r : Request) → Whole r → check (view r) ≡ Ok tt → AllLimits r
unfolding view view_demand
checked_demands r whole sound =
    let is-sound = check_sound (view r) (whole_counted r whole) sound in
    record {
      each = λ (k : ℕ) (h : k < r.demand_count).
          let d = get_or r.demands k no_entry in
          let limits : SoundDemand r.band.slots r.link_count (link_at (view r).links) (view_demand d)
          = rw (demand_shown r k h) at (is-sound.demands_sound k h) in
          record {
            some_width = limits.some_width;
            most_width = limits.width_in_band;
            some_hop = limits.some_hop;
            most_hops = limits.at_most_32_hops;
            all_hops = whole.all_hops k (omega (arith, is-sound.at_most_200_demands));
            hops_listed = λ (p : ℕ) (hp : p < d.hops). rw (get_or-take d.hops d.links p 0 hp) at (limits.links_listed p hp);
          };
    }
