use Rattle.std.specs.Prelude.{ℕ, Result}
use Rattle.refusal.specs.declared.Refusal.{Refusal}
use mathlib.Core.Path.{◌≡◌, sym, ap, ◌∙◌}
use lib.ListN.{length}
use Rattle.request.specs.View.{view}
use Rattle.reading.specs.Reading.{FileReading, refused, accepted, read_file}
use Rattle.told.specs.FileLaws.{file_refused, file_accepted, bytes_known}
use Rattle.told.specs.RequestTold.{routes_told, routes_entry, ends_read, hops_read, routes_read}
use Rattle.told.proofs.routes_told.Goals as goal

pub returns-in-Err : goal.returns-in-Err
unfolding routes_entry ends_read hops_read routes_read
returns-in-Err c =
    let no_request : read_file c.args.file.now ≡ refused c.in-Err.why
    = file_refused c.args.file.now c.read_request.result c.in-Err.why c.read_request.ensures c.in-Err.is in
    let a = c.args in
    let read = sym no_request in record { answer = c.from.ensures ∙ ap (λ (file : FileReading). routes_entry file (length a.ends.now) (length a.hops.now) (length a.routes.now)) read; ends = ap (λ (file : FileReading). ends_read file a.ends.now a.hops.now a.routes.now) read; hops = ap (λ (file : FileReading). hops_read file a.ends.now a.hops.now a.routes.now) read; routes = ap (λ (file : FileReading). routes_read file a.ends.now a.hops.now a.routes.now) read }

pub returns-in-Ok-route_columns : goal.returns-in-Ok-route_columns
unfolding routes_told routes_entry ends_read hops_read routes_read view
returns-in-Ok-route_columns c =
    let request_read : read_file c.args.file.now ≡ accepted (view c.in-Ok.request)
    = file_accepted c.args.file.now c.read_request.result c.in-Ok.request (bytes_known _ c.shared_slice_known-1.given) c.read_request.ensures c.in-Ok.is in
    let a = c.args in
    let v = view c.in-Ok.request in
    let written = c.route_columns in
    let read = sym request_read in record {
      answer = (ap (λ (w : Result ℕ Refusal). routes_told w v) (sym c.in-Ok-route_columns.is ∙ written.ensures.answer)
          ∙ ap (λ (file : FileReading). routes_entry file (length a.ends.now) (length a.hops.now) (length a.routes.now)) read);
      ends = written.ensures.ends ∙ ap (λ (file : FileReading). ends_read file a.ends.now a.hops.now a.routes.now) read;
      hops = written.ensures.hops ∙ ap (λ (file : FileReading). hops_read file a.ends.now a.hops.now a.routes.now) read;
      routes = written.ensures.routes ∙ ap (λ (file : FileReading). routes_read file a.ends.now a.hops.now a.routes.now) read;
    }

pub returns-in-Err-route_columns : goal.returns-in-Err-route_columns
unfolding routes_told routes_entry ends_read hops_read routes_read
returns-in-Err-route_columns c =
    let request_read : read_file c.args.file.now ≡ accepted (view c.in-Ok.request)
    = file_accepted c.args.file.now c.read_request.result c.in-Ok.request (bytes_known _ c.shared_slice_known-1.given) c.read_request.ensures c.in-Ok.is in
    let a = c.args in
    let v = view c.in-Ok.request in
    let written = c.route_columns in
    let read = sym request_read in record {
      answer = c.from-in-Err-route_columns.ensures ∙ (ap (λ (w : Result ℕ Refusal). routes_told w v) (sym c.in-Err-route_columns.is ∙ written.ensures.answer)
          ∙ ap (λ (file : FileReading). routes_entry file (length a.ends.now) (length a.hops.now) (length a.routes.now)) read);
      ends = written.ensures.ends ∙ ap (λ (file : FileReading). ends_read file a.ends.now a.hops.now a.routes.now) read;
      hops = written.ensures.hops ∙ ap (λ (file : FileReading). hops_read file a.ends.now a.hops.now a.routes.now) read;
      routes = written.ensures.routes ∙ ap (λ (file : FileReading). routes_read file a.ends.now a.hops.now a.routes.now) read;
    }
