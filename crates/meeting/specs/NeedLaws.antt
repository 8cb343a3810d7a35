-- The sums of a link's need, and the largest need.
use Rattle.std.specs.Prelude.{ℕ, ◌+◌, ◌-◌, ◌*◌, ◌≤◌, ◌<◌, max, true, false, ◌≡◌, refl, length, drop}
use Rattle.std.proofs.Common.{arith, mul-le-mul_left, add-one, drop_of_length-le}
use Rattle.std.proofs.Math.Seq.{drop-cons}
use Rattle.request.specs.View.{View, no_demand, demand_at, width_of}
use Rattle.request.specs.Check.{has}
use Rattle.meeting.specs.Bound.{width_on, demands_on, link_bound, bound_over}
use Rattle.meeting.specs.inner.Need.{NeedTo}

-- at the start nothing is summed up
pub need_none : (v : View) (link : ℕ) → NeedTo v link 0 0 0
need_none v link = record { widths_on = omega arith; users_on = omega arith; widths_fit = omega arith; users_fit = omega arith }

module _ (v : View) (link j widths users : ℕ) (h : j < length v.demands) (so_far : NeedTo v link j widths users) where
  -- a demand on the link counts
  pub need_on : (more with_it : ℕ) → has link (demand_at v.demands j).route ≡ true → width_of (demand_at v.demands j) < 65536 →
      more ≡ widths + width_of (demand_at v.demands j) → with_it ≡ users + 1 → NeedTo v link (j + 1) more with_it
  unfolding width_on demands_on demand_at
  need_on more with_it on low e u =
      let width-here : width_on link (drop j v.demands) ≡ width_of (demand_at v.demands j) + width_on link (drop (j + 1) v.demands)
      = rw (add-one, drop-cons v.demands j no_demand h, on) in
      let user-here : demands_on link (drop j v.demands) ≡ 1 + demands_on link (drop (j + 1) v.demands)
      = rw (add-one, drop-cons v.demands j no_demand h, on) in
      record {
        widths_on = omega (arith, so_far.widths_on);
        users_on = omega (arith, so_far.users_on);
        widths_fit = omega (arith, so_far.widths_fit);
        users_fit = omega (arith, so_far.users_fit);
      }

  -- another does not
  pub need_off : (same as_many : ℕ) → has link (demand_at v.demands j).route ≡ false → same ≡ widths → as_many ≡ users →
      NeedTo v link (j + 1) same as_many
  unfolding width_on demands_on demand_at
  need_off same as_many off e u =
      let width-here : width_on link (drop j v.demands) ≡ width_on link (drop (j + 1) v.demands)
      = rw (add-one, drop-cons v.demands j no_demand h, off) in
      let user-here : demands_on link (drop j v.demands) ≡ demands_on link (drop (j + 1) v.demands)
      = rw (add-one, drop-cons v.demands j no_demand h, off) in
      record {
        widths_on = omega (arith, so_far.widths_on);
        users_on = omega (arith, so_far.users_on);
        widths_fit = omega (arith, so_far.widths_fit);
        users_fit = omega (arith, so_far.users_fit);
      }

-- after all demands the sums are the link's
pub need_whole : (v : View) (link j widths users : ℕ) → length v.demands ≤ j → NeedTo v link j widths users →
    widths + v.band.guard * (users - 1) ≡ link_bound v link
unfolding link_bound width_on demands_on
need_whole v link j widths users h so_far =
    let widths-all : widths ≡ width_on link v.demands
    = omega (arith, rw (drop_of_length-le v.demands {i = j} h) at so_far.widths_on) in
    let users-all : users ≡ demands_on link v.demands
    = omega (arith, rw (drop_of_length-le v.demands {i = j} h) at so_far.users_on) in
    rw (widths-all, users-all)

-- the guards of a link, 32 bits hold them
pub guards_fit : (guard gaps : ℕ) → guard < 256 → gaps ≤ 200 → guard * gaps ≤ 51000
guards_fit guard gaps g h = omega (arith, mul-le-mul_left {m = gaps} {n = 200} guard h)

-- the largest need of no link
pub bound_none : (v : View) → 0 ≡ bound_over v 0
unfolding bound_over
bound_none v = refl

-- the largest need of one link more
pub bound_more : (v : View) (n : ℕ) → max (bound_over v n) (link_bound v n) ≡ bound_over v (n + 1)
unfolding bound_over
bound_more v n = rw (add-one n)
