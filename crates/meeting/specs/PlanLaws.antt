-- The rule by slots and the rule by ends and starts say the same.
use Prim.Native.Nat.{ℕ, ◌+◌, ◌-◌, ◌<◌, ◌≤◌}
use mathlib.Core.Bool.{Bool, true, false}
use Rattle.std.specs.Prelude.{List, [], ◌∷◌, ◌⊎◌, ◌≢◌, ◌≡◌, refl, length, get_or}
use Rattle.std.proofs.Common.{inl, inr, ⊎_elim, sym, subst, ◌∙◌, arith}
use lib.Dec.{eqb}
use borrow.Author.Tests.{eqb-true, eq-eqb}
use Rattle.theory.specs.Problem.{end_of, apart, Allowed}
use Rattle.theory.proofs.ProblemLaws.{fits_nil}
use Rattle.theory.proofs.ApartLaws.{unjoined_apart, before_apart, after_apart, apart_cases}
use Rattle.theory.proofs.TestLaws.{by_test}
use Rattle.theory.specs.Orders.{listing}
use Rattle.theory.proofs.ListingLaws.{listing_below, listing_mem}
use Rattle.request.specs.View.{View, demand_at, width_of}
use Rattle.request.specs.Check.{has}
use Rattle.request.specs.Sound.{SoundRequest}
use Rattle.request.specs.Sharing.{share_link, problem_of}
use Rattle.meeting.specs.Plan.{start_at, Parted, AllowedPlan}

-- what stands first in a list stands in it
pub has_first : (a : ℕ) (route : List ℕ) → has a (a ∷ route) ≡ true
unfolding has
has_first a route = rw (eq-eqb a a refl)

-- two routes that share a link have a link in common
pub shared_link : (a b : List ℕ) → share_link a b ≡ true → (link : ℕ) × (has link a ≡ true) × (has link b ≡ true)
unfolding share_link has
shared_link [] b h = absurd (mathlib.Core.Bool.false≢true h)
shared_link (x ∷ a) b h =
    by_test (has x b)
    (λ t. (x, has_first x a, t))
    (λ f.
    let rest : share_link a b ≡ true = rw f at h in
    let found = shared_link a b rest in
    (found.0, has_later found.0 x a found.1, found.2))
  where
    has_later : (link x : ℕ) (a : List ℕ) → has link a ≡ true → has link (x ∷ a) ≡ true
    has_later link x a t = rw (t, mathlib.Core.Bool.or-true)

-- two blocks whose slots are all parted by the guard: one ends, the guard included, before the other starts
parted_blocks : (G s w t u : ℕ) → 1 ≤ w → 1 ≤ u →
    ((x y : ℕ) → s ≤ x → x < s + w → t ≤ y → y < t + u → Parted G x y) → (s + w + G ≤ t) ⊎ (t + u + G ≤ s)
parted_blocks G s w t u hw hu parted =
    ⊎_elim
    (λ below. inl (omega arith))
    (λ above. ⊎_elim
    (λ (under : s + G < t + u - 1). absurd (overlap above under))
    (λ over. inr (omega arith))
    (parted s (t + u - 1) (omega arith) (omega arith) (omega arith) (omega arith)))
    (parted (s + w - 1) t (omega arith) (omega arith) (omega arith) (omega arith))
  where
    same : (x : ℕ) → Parted G x x → ⊥
    same x p = ⊎_elim (λ a. omega arith) (λ b. omega arith) p

    overlap : t + G < s + w - 1 → s + G < t + u - 1 → ⊥
    overlap above under =
        by_test (lib.Dec.leb s t)
        (λ yes_le. let h = borrow.Author.Tests.leb-true s t yes_le in same t (parted t t h (omega arith) (omega arith) (omega arith)))
        (λ no_le. let h = borrow.Author.Tests.leb-false s t no_le in same s (parted s s (omega arith) (omega arith) (omega arith) (omega arith)))

-- of two blocks one of which ends, the guard included, before the other starts, all slots are parted by the guard
blocks_parted : (G s w t u x y : ℕ) → (s + w + G ≤ t) ⊎ (t + u + G ≤ s) → s ≤ x → x < s + w → t ≤ y → y < t + u → Parted G x y
blocks_parted G s w t u x y h a b c d = ⊎_elim (λ l. inl (omega arith)) (λ r. inr (omega arith)) h

-- a sound demand's route has a first link
first_link : (hops : ℕ) (route : List ℕ) → length route ≡ hops → 1 ≤ hops → has (get_or route 0 0) route ≡ true
first_link hops [] e h = absurd (omega arith)
first_link hops (a ∷ route) e h = has_first a route

module _ (v : View) (starts : List ℕ) (sound : SoundRequest v)
    (whole : (i : ℕ) → i < v.demand_count → length (demand_at v.demands i).route ≡ (demand_at v.demands i).hops) where
  -- a plan that is allowed by its slots is allowed by its ends and starts
  pub slots_to_ends : AllowedPlan v starts → Allowed (problem_of v) v.band.slots [] (listing v.demand_count) (start_at starts)
  unfolding problem_of end_of
  slots_to_ends plan =
      record {
        within = λ i m. ends i (listing_below v.demand_count i m);
        clear_of_rows = λ i m. fits_nil (problem_of v) i (start_at starts i);
        clear_of_others = λ i j m n different. clear i j (listing_below v.demand_count i m) (listing_below v.demand_count j n) different;
      }
    where
      width : ℕ → ℕ
      width i = width_of (demand_at v.demands i)

      route : ℕ → List ℕ
      route i = (demand_at v.demands i).route

      ends : (i : ℕ) → i < v.demand_count → start_at starts i + width i ≤ v.band.slots
      ends i h =
          let d = sound.demands_sound i h in
          let last = plan.inside i (get_or (route i) 0 0) (start_at starts i + width i - 1) h
          (record {
            on_route = first_link (demand_at v.demands i).hops (route i) (whole i h) d.some_hop;
            from_start = omega (arith, d.some_width);
            below_end = omega (arith, d.some_width);
          }) in
          omega (arith, d.some_width)

      clear : (i j : ℕ) → i < v.demand_count → j < v.demand_count → i ≢ j → apart (problem_of v) i (start_at starts i) j (start_at starts j) ≡ true
      clear i j hi hj different =
          by_test (share_link (route i) (route j))
          (λ t.
          let link = shared_link (route i) (route j) t in
          ⊎_elim
          (before_apart (problem_of v) i (start_at starts i) j (start_at starts j))
          (after_apart (problem_of v) i (start_at starts i) j (start_at starts j))
          (parted_blocks v.band.guard (start_at starts i) (width i) (start_at starts j) (width j)
          (sound.demands_sound i hi).some_width (sound.demands_sound j hj).some_width
          (λ x y a b c d. plan.parted i j link.0 x y hi hj different
          (record { on_route = link.1; from_start = a; below_end = b })
          (record { on_route = link.2; from_start = c; below_end = d }))))
          (unjoined_apart (problem_of v) i (start_at starts i) j (start_at starts j))

-- two routes with a link in common share a link
pub sharing : (link : ℕ) (a b : List ℕ) → has link a ≡ true → has link b ≡ true → share_link a b ≡ true
unfolding share_link has
sharing link [] b h k = absurd (mathlib.Core.Bool.false≢true h)
sharing link (x ∷ a) b h k =
    by_test (eqb link x)
    (λ t. let here : has x b ≡ true = subst (λ (l : ℕ). has l b ≡ true) (eqb-true link x t) k in rw here)
    (λ f. let later : has link a ≡ true = rw f at h in rw (sharing link a b later k, mathlib.Core.Bool.or-true))

-- sharing a link goes both ways
pub share_swap : (a b : List ℕ) → share_link a b ≡ share_link b a
share_swap a b =
    by_test (share_link a b)
    (λ t. let link = shared_link a b t in t ∙ sym (sharing link.0 b a link.2 link.1))
    (λ f. by_test (share_link b a)
    (λ t. let link = shared_link b a t in sharing link.0 a b link.2 link.1 ∙ sym t)
    (λ g. f ∙ sym g))

module _ (v : View) (starts : List ℕ) where
  -- a plan that is allowed by its ends and starts is allowed by its slots
  pub ends_to_slots : Allowed (problem_of v) v.band.slots [] (listing v.demand_count) (start_at starts) → AllowedPlan v starts
  unfolding problem_of end_of
  ends_to_slots plan =
      record {
        inside = λ i link slot h holds.
            let ends = plan.within i (listing_mem v.demand_count i h) in
            omega (arith, holds.below_end);
        parted = λ i j link x y hi hj different a b.
            blocks_parted v.band.guard (start_at starts i) (width_of (demand_at v.demands i)) (start_at starts j) (width_of (demand_at v.demands j)) x y
            (apart_cases (problem_of v) i (start_at starts i) j (start_at starts j)
            (plan.clear_of_others i j (listing_mem v.demand_count i hi) (listing_mem v.demand_count j hj) different)
            (sharing link (demand_at v.demands i).route (demand_at v.demands j).route a.on_route b.on_route))
            a.from_start a.below_end b.from_start b.below_end;
      }
