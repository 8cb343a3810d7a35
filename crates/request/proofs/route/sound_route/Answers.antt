use Rattle.std.proofs.Common.{◌≡◌, ◌<◌, ◌≤◌, ◌||◌, length, get_or, true, sym, ◌∙◌, eqb, eq-eqb, ne_eqb, rules, arith}
use Rattle.std.proofs.Math.Bool.{or-true}
use Rattle.request.specs.View.{link_at, no_link}
use Rattle.theory.proofs.TestLaws.{or_neither}
use Rattle.request.proofs.RouteLaws.{has_some, come_none, come_on, come_sound, unlisted_unsound, broken_unsound, met_unsound}
use Rattle.request.proofs.route.sound_route.Goals as goal
use Rattle.request.proofs.route.sound_route.Goals.{else-p-ne0-via-then-p-ne0+else-node-here, else-p-ne0-via-else-p-ne0}

pub loop-p-init : goal.loop-p-init
loop-p-init c = come_none _ _ _ _ (search rules)

pub returns-in_default : goal.returns-in_default
returns-in_default c =
    let out : length c.args.links.now ≤ c.from.result = search rules in
    sym (unlisted_unsound c.args.links.now c.args.route.now c.loop-p.p c.loop-p-test.true (omega (arith, out, c.from.ensures)))

pub returns-then-node-here : goal.returns-then-node-here
unfolding link_at no_link
returns-then-node-here c =
    let links = c.args.links.now in
    let route = c.args.route.now in
    let walk = c.loop-p in
    let at : get_or links c.from.result no_link ≡ c.in-Some.here.now = search rules in
    let here : link_at links (get_or route walk.p 0) ≡ c.in-Some.here.now = rw c.from.ensures at at in
    sym
    (broken_unsound links route walk.met walk.node walk.p walk.invariant c.loop-p-test.true
    (rw here (or_neither (eqb walk.p 0) (eqb walk.node c.in-Some.here.now.from) (ne_eqb walk.p 0 c.if-p-ne0.true)
    (ne_eqb walk.node c.in-Some.here.now.from c.if-node-here.true))))

pub returns-then-contains : goal.returns-then-contains
unfolding link_at no_link
returns-then-contains c =
    let links = c.args.links.now in
    let route = c.args.route.now in
    let walk = c.loop-p in
    let at : get_or links c.from.result no_link ≡ c.in-Some.here.now = search rules in
    let here : link_at links (get_or route walk.p 0) ≡ c.in-Some.here.now = rw c.from.ensures at at in
    sym
    (met_unsound links route walk.met walk.node walk.p walk.invariant c.loop-p-test.true (omega (arith, c.requires))
    (rw here (sym (has_some c.in-Some.here.now.to _) ∙ sym c.contains.ensures.value ∙ c.if-contains.true)))

pub loop-p-preserved : goal.loop-p-preserved
unfolding link_at no_link
loop-p-preserved c =
    let links = c.args.links.now in
    let route = c.args.route.now in
    let walk = c.loop-p in
    let at : get_or links c.from.result no_link ≡ c.in-Some.here.now = search rules in
    let here : link_at links (get_or route walk.p 0) ≡ c.in-Some.here.now = rw c.from.ensures at at in
    let within : c.from.result < length links = search rules in
    let goes_on : (eqb walk.p 0 || eqb walk.node c.in-Some.here.now.from) ≡ true =
    elim c.else-p-ne0.branch [
      | else-p-ne0-via-then-p-ne0+else-node-here w ↦ rw (eq-eqb walk.node c.in-Some.here.now.from w.if-node-here.false) (or-true (eqb walk.p 0))
      | else-p-ne0-via-else-p-ne0 w ↦ rw (eq-eqb walk.p 0 w.if-p-ne0.false)
    ] in
    rw here at
    (come_on links route walk.met walk.node walk.p walk.invariant c.loop-p-test.true (omega (arith, c.requires))
    (omega (arith, within, c.from.ensures)) (rw here goes_on)
    (rw here (sym (has_some c.in-Some.here.now.to _) ∙ sym c.contains.ensures.value ∙ c.if-contains.false)))

pub returns : goal.returns
returns c =
    let walk = c.loop-p in
    sym (come_sound c.args.links.now c.args.route.now walk.met walk.node walk.p walk.invariant c.loop-p-test.false)
