use Rattle.fields.specs.FieldLaws.{number_bytes}
use Rattle.writing.proofs.File.put_number.Goals as goal

pub returns : goal.returns
returns c = rw (c.to_be_bytes.ensures, number_bytes c.args.number c.ranges.number.fits) at c.put.ensures
