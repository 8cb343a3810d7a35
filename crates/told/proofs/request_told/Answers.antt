use Rattle.std.specs.Prelude.{ℕ, Result}
use Rattle.refusal.specs.declared.Refusal.{Refusal}
use mathlib.Core.Path.{◌≡◌, sym, ap, ◌∙◌}
use Rattle.request.specs.View.{view}
use Rattle.reading.specs.Reading.{FileReading, refused, accepted, read_file}
use Rattle.columns.specs.Columns.{DemandBuffers, demand_rooms}
use Rattle.told.specs.FileLaws.{file_refused, file_accepted, bytes_known}
use Rattle.told.specs.RequestTold.{request_after, request_entry, demands_read}
use Rattle.told.proofs.request_told.Goals as goal

pub returns-in-Err : goal.returns-in-Err
unfolding request_entry demands_read
returns-in-Err c =
    let lent : DemandBuffers = record { idents = c.args.idents.now; widths = c.args.widths.now; rates = c.args.rates.now } in
    let no_request : read_file c.args.file.now ≡ refused c.in-Err.why
    = file_refused c.args.file.now c.read_request.result c.in-Err.why c.read_request.ensures c.in-Err.is in
    let read = sym no_request in record { answer = c.from.ensures ∙ ap (λ (file : FileReading). request_entry file (demand_rooms lent)) read; idents = ap (λ (file : FileReading). (demands_read file lent).idents) read; widths = ap (λ (file : FileReading). (demands_read file lent).widths) read; rates = ap (λ (file : FileReading). (demands_read file lent).rates) read }

pub returns-in-Err-demand_columns : goal.returns-in-Err-demand_columns
unfolding request_after request_entry demands_read
returns-in-Err-demand_columns c =
    let lent : DemandBuffers = record { idents = c.args.idents.now; widths = c.args.widths.now; rates = c.args.rates.now } in
    let request_read : read_file c.args.file.now ≡ accepted (view c.in-Ok.request)
    = file_accepted c.args.file.now c.read_request.result c.in-Ok.request (bytes_known _ c.shared_slice_known-1.given) c.read_request.ensures c.in-Ok.is in
    let v = view c.in-Ok.request in
    let written = c.demand_columns in
    let read = sym request_read in record {
      answer = c.from-in-Err-demand_columns.ensures ∙ (ap (λ (w : Result ℕ Refusal). request_after w v) (sym c.in-Err-demand_columns.is ∙ written.ensures.answer)
          ∙ ap (λ (file : FileReading). request_entry file (demand_rooms lent)) read);
      idents = written.ensures.idents ∙ ap (λ (file : FileReading). (demands_read file lent).idents) read;
      widths = written.ensures.widths ∙ ap (λ (file : FileReading). (demands_read file lent).widths) read;
      rates = written.ensures.rates ∙ ap (λ (file : FileReading). (demands_read file lent).rates) read;
    }

pub returns-in-Ok-demand_columns : goal.returns-in-Ok-demand_columns
unfolding request_after request_entry demands_read
returns-in-Ok-demand_columns c =
    let lent : DemandBuffers = record { idents = c.args.idents.now; widths = c.args.widths.now; rates = c.args.rates.now } in
    let request_read : read_file c.args.file.now ≡ accepted (view c.in-Ok.request)
    = file_accepted c.args.file.now c.read_request.result c.in-Ok.request (bytes_known _ c.shared_slice_known-1.given) c.read_request.ensures c.in-Ok.is in
    let v = view c.in-Ok.request in
    let written = c.demand_columns in
    let read = sym request_read in record {
      answer = c.numbers_told.ensures ∙ (ap (λ (w : Result ℕ Refusal). request_after w v) (sym c.in-Ok-demand_columns.is ∙ written.ensures.answer)
          ∙ ap (λ (file : FileReading). request_entry file (demand_rooms lent)) read);
      idents = written.ensures.idents ∙ ap (λ (file : FileReading). (demands_read file lent).idents) read;
      widths = written.ensures.widths ∙ ap (λ (file : FileReading). (demands_read file lent).widths) read;
      rates = written.ensures.rates ∙ ap (λ (file : FileReading). (demands_read file lent).rates) read;
    }
