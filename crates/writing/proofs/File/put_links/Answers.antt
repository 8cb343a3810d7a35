use Rattle.std.proofs.Common.{take, arith}
use Rattle.std.proofs.Math.Seq.{length-take-le}
use Rattle.request.specs.View.{no_link}
use Rattle.request.specs.Encoding.{two_bytes, field, link_field, link_fields}
use Rattle.request.proofs.EncodingLaws.{links_bytes}
use Rattle.writing.specs.WritingLaws.{links_more}
use Rattle.writing.specs.PutsLaws.{puts_none, puts_then}
use Rattle.writing.proofs.File.put_links.Goals as goal

pub loop-link-init : goal.loop-link-init
unfolding link_fields
loop-link-init c = puts_none _

pub put_header-requires : goal.put_header-requires
put_header-requires c =
    let k = c.loop-link.link-index in
    omega (arith, links_bytes (take k c.args.links.now), length-take-le k c.args.links.now (omega arith))

pub put-requires : goal.put-requires
unfolding two_bytes
put-requires c =
    let k = c.loop-link.link-index in
    omega (arith, links_bytes (take k c.args.links.now), length-take-le k c.args.links.now (omega arith))

pub loop-link-preserved : goal.loop-link-preserved
unfolding no_link link_field field two_bytes
loop-link-preserved c =
    rw (links_more c.args.links.now c.loop-link.link-index no_link (omega arith))
    (puts_then _ _ _ _ _ c.loop-link.invariant (puts_then _ _ _ _ _ c.put_header.ensures c.put.ensures))
