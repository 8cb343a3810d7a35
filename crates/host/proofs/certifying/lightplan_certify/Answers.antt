use mathlib.Core.Path.{◌≡◌, sym, ap, ◌∙◌}
use Rattle.request.specs.View.{view}
use Rattle.reading.specs.Reading.{FileReading, refused, accepted, read_file}
use Rattle.told.specs.FileLaws.{file_refused, file_accepted, bytes_known}
use Rattle.host.specs.Certified.{certify_told, certified_entry}
use Rattle.host.proofs.certifying.lightplan_certify.Goals as goal

pub returns-in-Err : goal.returns-in-Err
unfolding certified_entry
returns-in-Err c =
    let no_request : read_file c.args.file.now ≡ refused c.in-Err.why
    = file_refused c.args.file.now c.read_request.result c.in-Err.why c.read_request.ensures c.in-Err.is in
    let args = c.args in
    c.certified_refused.ensures ∙ ap (λ (file : FileReading). certified_entry file args.starts.now args.weights.now args.a) (sym no_request)

pub returns : goal.returns
unfolding certified_entry
returns c =
    let request_read : read_file c.args.file.now ≡ accepted (view c.in-Ok.request)
    = file_accepted c.args.file.now c.read_request.result c.in-Ok.request (bytes_known _ c.shared_slice_known-1.given) c.read_request.ensures c.in-Ok.is in
    let args = c.args in
    c.certified_told.ensures ∙ (ap certify_told c.certify-reply.ensures
    ∙ ap (λ (file : FileReading). certified_entry file args.starts.now args.weights.now args.a) (sym request_read))
