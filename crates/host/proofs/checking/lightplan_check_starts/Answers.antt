use Rattle.std.specs.Prelude.{ℕ, Result}
use Rattle.refusal.specs.declared.Refusal.{Refusal}
use mathlib.Core.Path.{◌≡◌, sym, ap, ◌∙◌}
use Rattle.request.specs.View.{view}
use Rattle.reading.specs.Reading.{FileReading, refused, accepted, read_file}
use Rattle.told.specs.FileLaws.{file_refused, file_accepted, bytes_known}
use Rattle.meeting.specs.Reply.{bound_reply}
use Rattle.host.specs.Host.{check_told, starts_entry}
use Rattle.host.proofs.checking.lightplan_check_starts.Goals as goal

pub returns-in-Err : goal.returns-in-Err
unfolding starts_entry
returns-in-Err c =
    let no_request : read_file c.args.file.now ≡ refused c.in-Err.why
    = file_refused c.args.file.now c.read_request.result c.in-Err.why c.read_request.ensures c.in-Err.is in
    c.verdict_refused.ensures ∙ ap (λ (file : FileReading). starts_entry file c.args.starts.now) (sym no_request)

pub returns : goal.returns
unfolding starts_entry
returns c =
    let request_read : read_file c.args.file.now ≡ accepted (view c.in-Ok.request)
    = file_accepted c.args.file.now c.read_request.result c.in-Ok.request (bytes_known _ c.shared_slice_known-1.given) c.read_request.ensures c.in-Ok.is in
    let a = c.args in
    let v = view c.in-Ok.request in
    c.check_told.ensures ∙ (ap (λ (b : Result ℕ Refusal). check_told b c.check_starts-reply.result) c.bound-need.ensures
    ∙ (ap (λ (reply : Result ℕ Refusal). check_told (bound_reply v) reply) c.check_starts-reply.ensures
    ∙ ap (λ (file : FileReading). starts_entry file a.starts.now) (sym request_read)))
