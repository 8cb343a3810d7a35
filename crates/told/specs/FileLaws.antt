-- How a file reads, as the code that calls the reader cites it.
use Rattle.std.specs.Prelude.{Result, ℕ, List, ◌≡◌, refl, get_or, Ok, Err}
use Rattle.std.proofs.Common.{sym, ap, ◌∙◌, arith, Fits}
use Rattle.std.specs.Int.{w8}
use Rattle.refusal.specs.declared.Refusal.{Refusal}
use Rattle.request.specs.View.{view}
use Rattle.request.specs.RoundTrip.{Bytes}
use Rattle.request.specs.declared.Request.{Request}
use Rattle.request.specs.Packing.{pack}
use Rattle.reading.specs.Reading.{FileReading, refused, accepted, read_file}
use Rattle.reading.specs.FilePacking.{pack_reading}
use Rattle.writing.specs.RoundTripLaws.{read_seen}

-- a reading that is refused is of a file that is
refused_reading : (read : FileReading) (why : Refusal) → pack_reading read ≡ Err why → read ≡ refused why
unfolding pack_reading
refused_reading (refused why') why h = let same : why' ≡ why = cc in ap refused same
refused_reading (accepted v) why h = absurd (let z : ◌≡◌ {A = ℕ} 0 1 = cc in omega arith)

pub file_refused : (file : List ℕ) (reading : Result Request Refusal) (why : Refusal) → reading ≡ pack_reading (read_file file) → reading ≡ Err why →
    read_file file ≡ refused why
file_refused file reading why read told = refused_reading (read_file file) why (sym read ∙ told)

-- a file that is lent is of bytes
pub bytes_known : (s : List ℕ) → ((at : ℕ) → Fits w8 (get_or s at 0)) → Bytes s
bytes_known s known = record { each = λ (at : ℕ). omega (arith, known at) }

-- a reading that is sound is of a file that is accepted as the request read
sound_reading : (file : List ℕ) (read : FileReading) (request : Request) → Bytes file → read_file file ≡ read → pack_reading read ≡ Ok request →
    read_file file ≡ accepted (view request)
unfolding pack_reading
sound_reading file (refused why) request bytes same h = absurd (let z : ◌≡◌ {A = ℕ} 0 1 = cc in omega arith)
sound_reading file (accepted v) request bytes same h =
    let packed : pack v ≡ request = cc in same ∙ ap accepted (sym (read_seen file v bytes same) ∙ ap view packed)

pub file_accepted : (file : List ℕ) (reading : Result Request Refusal) (request : Request) → Bytes file → reading ≡ pack_reading (read_file file) →
    reading ≡ Ok request → read_file file ≡ accepted (view request)
file_accepted file reading request bytes read told = sound_reading file (read_file file) request bytes refl (sym read ∙ told)
