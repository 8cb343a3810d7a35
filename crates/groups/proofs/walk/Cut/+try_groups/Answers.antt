use Rattle.std.proofs.Common.{◌≡◌, sym, subst, ◌∙◌, refl, arith}
use Rattle.theory.specs.inner.Tried.{Lead}
use Rattle.groups.specs.inner.Walk.{Held, tried_group}
use Rattle.groups.specs.WalkLaws.{branch_kept, order_taken, down_tried, tried_past, tried_on, tried_left, tried_none}
use Rattle.groups.proofs.walk.Cut.+try_groups.Goals.{try_groups-then-not-level-g, try_groups-else-not-level-g}
use Rattle.groups.proofs.walk.Cut.+try_groups.Goals as goal

pub try_group-returns-then-not-place_group : goal.try_group-returns-then-not-place_group
try_group-returns-then-not-place_group t c =
    let r = c.requires in
    let high = c.place_group.ensures.left c.if-not-place_group.true in
    λ lead held.
    subst (Held c.args.best.now) (sym (branch_kept r.ready c.args.g r.free.0 lead (omega (arith, held.mark_is, high)))) held

pub try_group-returns-then-below-self : goal.try_group-returns-then-below-self
try_group-returns-then-below-self t c =
    let r = c.requires in
    let down = c.place_group.ensures.stands c.if-not-place_group.false in
    λ lead held.
    subst (Held c.try_groups.new.best) (down_tried r.ready c.args.g r.free.0 r.free.1 down c.if-below-self.true lead)
    (c.try_groups.ensures lead held)

pub try_group-returns-else-below-self : goal.try_group-returns-else-below-self
try_group-returns-else-below-self t c =
    let r = c.requires in
    let down = c.place_group.ensures.stands c.if-not-place_group.false in
    λ lead held. order_taken r.ready c.args.g r.free.0 r.free.1 down c.if-below-self.false lead held.mark_is

pub try_groups-loop-g-init : goal.try_groups-loop-g-init
try_groups-loop-g-init t c = λ lead held. (lead, held, refl)

pub try_groups-returns-then-best-level : goal.try_groups-returns-then-best-level
try_groups-returns-then-best-level t c =
    λ lead held.
    let (now, stands, is) = c.loop-g.invariant lead held in
    subst (Held c.loop-g.best)
    (sym (tried_left c.args.self.now c.args.level.now c.loop-g.g now
    (omega (arith, stands.mark_is, c.if-best-level.true, c.requires.ready.top_is)))
    ∙ is)
    stands

pub try_groups-loop-g-preserved : goal.try_groups-loop-g-preserved
try_groups-loop-g-preserved t c =
    let ready = c.requires.ready in
    let g = c.loop-g.g in
    λ lead held.
    let (now, stands, is) = c.loop-g.invariant lead held in
    elim c.if-not-level-g.branch [
      | try_groups-then-not-level-g w ↦
          let after : Lead = tried_group c.args.self.now c.args.level.now g now in (
            after,
            rw w.best-is (w.try_group.ensures now stands),
            tried_on ready g c.loop-g-test.true now w.if-not-level-g.true ∙ is,
          )
      | try_groups-else-not-level-g w ↦ (now, rw w.best-is stands, tried_past ready g c.loop-g-test.true now w.if-not-level-g.false ∙ is)
    ]

pub try_groups-returns : goal.try_groups-returns
try_groups-returns t c =
    let done : c.loop-g.g ≡ c.args.self.now.m = omega arith in
    λ lead held.
    let (now, stands, is) = c.loop-g.invariant lead held in
    subst (Held c.loop-g.best)
    (sym (tried_none c.args.self.now c.args.level.now c.loop-g.g done now) ∙ is) stands
