use Rattle.std.specs.Prelude.{ℕ, Option, Result}
use Rattle.refusal.specs.declared.Refusal.{Refusal}
use mathlib.Core.List.{[], ◌∷◌}
use mathlib.Core.Path.{◌≡◌, sym, ap, ◌∙◌}
use lib.ListN.{length}
use Rattle.request.specs.View.{view}
use Rattle.reading.specs.Reading.{FileReading, refused, accepted, read_file}
use Rattle.meeting.specs.Reply.{bound_reply}
use Rattle.groups.specs.declared.Grouped.{Grouped}
use Rattle.host.specs.Host.{grouped_told, grouped_entry, starts_grouped, blockers_grouped}
use Rattle.told.specs.FileLaws.{file_refused, file_accepted, bytes_known}
use Rattle.host.proofs.grouping.lightplan_groups.Goals as goal

pub returns-in-Err : goal.returns-in-Err
unfolding grouped_entry starts_grouped blockers_grouped
returns-in-Err c =
    let no_request : read_file c.args.file.now ≡ refused c.in-Err.why
    = file_refused c.args.file.now c.read_request.result c.in-Err.why c.read_request.ensures c.in-Err.is in
    let a = c.args in
    let rooms = length a.starts.now ∷ length a.blockers.now ∷ [] in
    let read = sym no_request in record { answer = c.from.ensures ∙ ap (λ (file : FileReading). grouped_entry file a.m rooms) read; starts = ap (λ (file : FileReading). starts_grouped file a.m rooms a.starts.now) read; blockers = ap (λ (file : FileReading). blockers_grouped file a.m rooms a.blockers.now) read }

pub returns : goal.returns
unfolding grouped_entry starts_grouped blockers_grouped
returns c =
    let request_read : read_file c.args.file.now ≡ accepted (view c.in-Ok.request)
    = file_accepted c.args.file.now c.read_request.result c.in-Ok.request (bytes_known _ c.shared_slice_known-1.given) c.read_request.ensures c.in-Ok.is in
    let a = c.args in
    let v = view c.in-Ok.request in
    let rooms = length a.starts.now ∷ length a.blockers.now ∷ [] in
    let need = c.bound-need in
    let grouped = c.groups-reply in
    let read = sym request_read in record {
      answer = c.grouped_told.ensures ∙ (ap (λ (b : Result ℕ Refusal). grouped_told b a.m grouped.result) need.ensures
          ∙ (ap (λ (reply : Result (Option Grouped) Refusal). grouped_told (bound_reply v) a.m reply) grouped.ensures.reply
          ∙ ap (λ (file : FileReading). grouped_entry file a.m rooms) read));
      starts = grouped.ensures.starts ∙ ap (λ (file : FileReading). starts_grouped file a.m rooms a.starts.now) read;
      blockers = grouped.ensures.blockers ∙ ap (λ (file : FileReading). blockers_grouped file a.m rooms a.blockers.now) read;
    }
