use Rattle.std.proofs.Common.{◌+◌, ◌-◌, length, refl, ap, ◌∙◌, arith}
use Rattle.std.proofs.Math.Seq.{length-sets}
use Rattle.lent.specs.LentLaws.{part_stored}
use Rattle.writing.proofs.File.put.Goals as goal

pub returns : goal.returns
returns c =
    let file = c.args.self.now in
    let bytes = c.args.bytes.now in
    let stored = part_stored file.out.now c.copy_from_slice.new.self bytes file.at (file.at + length bytes - file.at) c.requires c.copy_from_slice.ensures.after (omega arith) in
    record { buffer = refl; grown = refl; kept = ap length stored ∙ length-sets file.out.now file.at bytes; stored = stored }
