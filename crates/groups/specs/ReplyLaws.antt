-- What groups test before anything is tried.
use Prim.Native.Nat.{ℕ, ◌≤◌, ◌<◌}
use Rattle.std.specs.Prelude.{Bool, true, false, ◌&&◌, List, ◌≡◌, leb, Ok, Err}
use Rattle.std.proofs.Math.Path.{ap}
use Rattle.std.proofs.Common.{ap₂, ◌∙◌, arith, leb-true, le-leb}
use Rattle.std.proofs.lemmas.Bool.{lt-leb}
use Rattle.refusal.specs.declared.Refusal.{Refusal}
use Rattle.refusal.specs.declared.Refusal.TheVariants.{GroupsOutside}
use Rattle.theory.proofs.TestLaws.{and_first, and_second}
use Rattle.request.specs.View.{View}
use Rattle.request.specs.Check.{then, must, check}
use Rattle.request.proofs.CheckLaws.{then_sound, then_refused, first_sound, next_sound, test_held}
use Rattle.lent.specs.Lent.{check_rooms}
use Rattle.groups.specs.Reply.{groupable, check_groups}

-- no group at all
pub groupable_none : (K M : ℕ) → M ≡ 0 → groupable K M ≡ false
unfolding groupable
groupable_none K M none = ap (λ (b : Bool). b && (leb M 8 && leb M K)) (lt-leb 1 M (omega arith))

-- more than eight
pub groupable_many : (K M : ℕ) → 8 < M → groupable K M ≡ false
unfolding groupable
groupable_many K M many = ap₂ (λ (a b : Bool). a && (b && leb M K)) (le-leb 1 M (omega arith)) (lt-leb M 8 many)

-- else it is only that no group is without a demand
pub groupable_few : (K M : ℕ) → (M ≡ 0 → ⊥) → M ≤ 8 → groupable K M ≡ leb M K
unfolding groupable
groupable_few K M some few =
    ap₂ (λ (a b : Bool). a && (b && leb M K)) (le-leb 1 M (omega arith)) (le-leb M 8 few)

-- what may be cut has 1 to 8 groups, and no more than there are demands
pub groupable_says : (K M : ℕ) → groupable K M ≡ true → (1 ≤ M) × (M ≤ 8) × (M ≤ K)
unfolding groupable
groupable_says K M can =
    let rest = and_second (leb 1 M) (leb M 8 && leb M K) can in (
      leb-true 1 M (and_first (leb 1 M) (leb M 8 && leb M K) can),
      leb-true M 8 (and_first (leb M 8) (leb M K) rest),
      leb-true M K (and_second (leb M 8) (leb M K) rest),
    )

module _ (v : View) (M : ℕ) (rooms : List ℕ) where
  -- a refused request
  pub request_refused_lem : (why : Refusal) → check v ≡ Err why → check_groups v M rooms ≡ Err why
  unfolding check_groups
  request_refused_lem why fails = then_refused (check v) _ why fails

  module _ (passes : check v ≡ Ok tt) where
    -- a sound request leaves the buffers and the groups to test
    request_passes : check_groups v M rooms ≡
        then (check_rooms v.demand_count rooms) (must (groupable v.demand_count M) (GroupsOutside M))
    unfolding check_groups
    request_passes = then_sound (check v) _ passes

    -- a buffer without room
    pub rooms_refused : (why : Refusal) → check_rooms v.demand_count rooms ≡ Err why →
        check_groups v M rooms ≡ Err why
    rooms_refused why fails = request_passes ∙ then_refused (check_rooms v.demand_count rooms) _ why fails

    module _ (roomy : check_rooms v.demand_count rooms ≡ Ok tt) where
      -- with room the groups decide
      rooms_pass : check_groups v M rooms ≡ must (groupable v.demand_count M) (GroupsOutside M)
      rooms_pass = request_passes ∙ then_sound (check_rooms v.demand_count rooms) _ roomy

      pub groups_pass : groupable v.demand_count M ≡ true → check_groups v M rooms ≡ Ok tt
      unfolding must
      groups_pass can = rooms_pass ∙ ap (λ (b : Bool). must b (GroupsOutside M)) can

      -- 24: so many groups cannot be
      pub groups_outside : groupable v.demand_count M ≡ false → check_groups v M rooms ≡ Err (GroupsOutside M)
      unfolding must
      groups_outside cannot = rooms_pass ∙ ap (λ (b : Bool). must b (GroupsOutside M)) cannot

  -- where all tests pass the request is sound, both buffers have room, and so many groups can be
  pub groups_passed : check_groups v M rooms ≡ Ok tt →
      (check v ≡ Ok tt) × (check_rooms v.demand_count rooms ≡ Ok tt) × (groupable v.demand_count M ≡ true)
  unfolding check_groups
  groups_passed passes =
      let K : ℕ = v.demand_count in
      let rest = next_sound (check v) (then (check_rooms K rooms) (must (groupable K M) (GroupsOutside M))) passes in (
        first_sound (check v) (then (check_rooms K rooms) (must (groupable K M) (GroupsOutside M))) passes,
        first_sound (check_rooms K rooms) (must (groupable K M) (GroupsOutside M)) rest,
        test_held (groupable K M) (GroupsOutside M) (next_sound (check_rooms K rooms) (must (groupable K M) (GroupsOutside M)) rest),
      )
