use Rattle.std.proofs.Common.{◌∙◌}
use Rattle.request.specs.Encoding.{two_bytes, field}
use Rattle.fields.specs.FieldLaws.{number_bytes}
use Rattle.planfile.specs.PlanFile.{row_field}
use Rattle.planfile.proofs.write.row_field.Goals as goal

pub returns : goal.returns
unfolding row_field field two_bytes
returns c =
    rw (c.to_be_bytes.ensures ∙ number_bytes c.args.ident c.ranges.ident.fits, c.to_be_bytes-2.ensures ∙ number_bytes c.args.start c.ranges.start.fits)
