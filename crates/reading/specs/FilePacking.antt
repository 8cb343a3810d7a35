-- What reading a file gives, as values of arrays.
use Rattle.std.specs.Prelude.{Result, Ok, Err}
use Rattle.refusal.specs.declared.Refusal.{Refusal}
use Rattle.request.specs.declared.Request.{Request}
use Rattle.request.specs.Packing.{pack}
use Rattle.reading.specs.Reading.{FileReading, refused, accepted}

-- what reading gives: a refusal, or the request
unfoldable pub pack_reading : FileReading → Result Request Refusal
unfolding pack
pack_reading (refused why) = Err why
pack_reading (accepted v) = Ok (pack v)
