use Rattle.std.specs.Prelude.{ℕ, Result}
use Rattle.refusal.specs.declared.Refusal.{Refusal}
use mathlib.Core.Path.{◌≡◌, sym, ap, ◌∙◌}
use lib.ListN.{length}
use Rattle.request.specs.View.{view}
use Rattle.reading.specs.Reading.{FileReading, refused, accepted, read_file}
use Rattle.told.specs.FileLaws.{file_refused, file_accepted, bytes_known}
use Rattle.meeting.specs.Reply.{bound_reply}
use Rattle.host.specs.Host.{check_told, verdict_entry, starts_read}
use Rattle.host.proofs.checking.lightplan_check.Goals as goal

pub returns-in-Err : goal.returns-in-Err
unfolding verdict_entry starts_read
returns-in-Err c =
    let no_request : read_file c.args.file.now ≡ refused c.in-Err.why
    = file_refused c.args.file.now c.read_request.result c.in-Err.why c.read_request.ensures c.in-Err.is in
    let a = c.args in
    let read = sym no_request in record { answer = c.verdict_refused.ensures ∙ ap (λ (file : FileReading). verdict_entry file a.plan.now (length a.starts.now)) read; starts = ap (λ (file : FileReading). starts_read file a.plan.now a.starts.now) read }

pub returns : goal.returns
unfolding verdict_entry starts_read
returns c =
    let request_read : read_file c.args.file.now ≡ accepted (view c.in-Ok.request)
    = file_accepted c.args.file.now c.read_request.result c.in-Ok.request (bytes_known _ c.shared_slice_known-1.given) c.read_request.ensures c.in-Ok.is in
    let a = c.args in
    let v = view c.in-Ok.request in
    let need = c.bound-need in
    let checked = c.read_plan-reply in
    let read = sym request_read in record {
      answer = c.check_told.ensures ∙ (ap (λ (b : Result ℕ Refusal). check_told b checked.result) need.ensures
          ∙ (ap (λ (reply : Result ℕ Refusal). check_told (bound_reply v) reply) checked.ensures.value
          ∙ ap (λ (file : FileReading). verdict_entry file a.plan.now (length a.starts.now)) read));
      starts = checked.ensures.starts_after ∙ ap (λ (file : FileReading). starts_read file a.plan.now a.starts.now) read;
    }
