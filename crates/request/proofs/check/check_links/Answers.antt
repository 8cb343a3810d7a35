use Rattle.std.proofs.Common.{sym, ◌∙◌}
use Rattle.request.specs.View.{link_at, no_link}
use Rattle.request.proofs.CheckLaws.{link_passes, link_refused, links_end_lem}
use Rattle.request.proofs.StepsLaws.{no_link_refused, links_too_many, links_refused_lem, links_pass}
use Rattle.request.proofs.check.check_links.Goals as goal

pub returns-then-count-eq0 : goal.returns-then-count-eq0
returns-then-count-eq0 c = sym (no_link_refused c.args.count c.args.links.now c.if-count-eq0.true)

pub returns-then-link : goal.returns-then-link
unfolding link_at no_link
returns-then-link c =
    let links = c.args.links.now in
    let turn = c.loop-k in
    sym
    (links_refused_lem c.args.count links turn.k c.if-count-eq0.false
    (turn.invariant ∙ link_refused links turn.k c.loop-k-test.true c.if-link.true))

pub loop-k-preserved : goal.loop-k-preserved
unfolding link_at no_link
loop-k-preserved c = c.loop-k.invariant ∙ link_passes c.args.links.now c.loop-k.k c.loop-k-test.true c.if-link.false

pub returns-then-count-gt-MOST_LINKS : goal.returns-then-count-gt-MOST_LINKS
returns-then-count-gt-MOST_LINKS c =
    let links = c.args.links.now in
    sym
    (links_too_many c.args.count links (c.loop-k.invariant ∙ links_end_lem links c.loop-k.k c.loop-k-test.false) c.if-count-gt-MOST_LINKS.true)

pub returns : goal.returns
returns c =
    let links = c.args.links.now in
    sym
    (links_pass c.args.count links c.if-count-eq0.false (c.loop-k.invariant ∙ links_end_lem links c.loop-k.k c.loop-k-test.false)
    c.if-count-gt-MOST_LINKS.false)
