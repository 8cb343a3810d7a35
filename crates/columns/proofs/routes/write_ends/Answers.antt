use Rattle.std.proofs.Common.{List, refl, ap, ◌∙◌, arith, take_all}
use Rattle.std.proofs.lemmas.List.Edits.{sets}
use Rattle.request.specs.declared.Link.{Link}
use Rattle.request.specs.View.{no_link}
use Rattle.columns.specs.Columns.{link_ends}
use Rattle.columns.proofs.ColumnsLaws.{ends_stored, ends_length, stored_over}
use Rattle.columns.proofs.routes.write_ends.Goals as goal

pub loop-k-init : goal.loop-k-init
unfolding link_ends
loop-k-init c = refl

pub loop-k-preserved : goal.loop-k-preserved
unfolding no_link
loop-k-preserved c = rw (c.from.ensures, c.from-in-loop-k.ensures) (ends_stored c.args.out.now c.loop-k.out c.args.links.now c.loop-k.k (omega arith) c.loop-k.invariant)

pub returns : goal.returns
returns c =
    let links = c.args.links.now in
    c.loop-k.invariant
    ∙ ap (λ (ls : List Link). sets c.args.out.now 0 (link_ends ls)) (take_all c.loop-k.k links (omega arith))
    ∙ stored_over (link_ends links) c.args.out.now (omega (arith, ends_length links))
