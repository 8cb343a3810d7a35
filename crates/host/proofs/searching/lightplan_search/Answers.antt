use mathlib.Core.Path.{◌≡◌, sym, ap, ◌∙◌}
use Rattle.request.specs.View.{view}
use Rattle.reading.specs.Reading.{FileReading, refused, accepted, read_file}
use Rattle.search.specs.Reply.{buffers_of, rooms_of}
use Rattle.host.specs.Host.{search_told, answer_entry, buffers_searched}
use Rattle.told.specs.FileLaws.{file_refused, file_accepted, bytes_known}
use Rattle.host.proofs.searching.lightplan_search.Goals as goal

pub returns-in-Err : goal.returns-in-Err
unfolding answer_entry buffers_searched
returns-in-Err c =
    let no_request : read_file c.args.file.now ≡ refused c.in-Err.why
    = file_refused c.args.file.now c.read_request.result c.in-Err.why c.read_request.ensures c.in-Err.is in
    let a = c.args in
    let lent = buffers_of a.starts.now a.order.now a.blockers.now in
    let read = sym no_request in record { answer = c.from.ensures ∙ ap (λ (file : FileReading). answer_entry file a.limit (rooms_of lent)) read; starts = ap (λ (file : FileReading). (buffers_searched file a.limit lent).starts) read; order = ap (λ (file : FileReading). (buffers_searched file a.limit lent).order) read; blockers = ap (λ (file : FileReading). (buffers_searched file a.limit lent).blockers) read }

pub returns : goal.returns
unfolding answer_entry buffers_searched
returns c =
    let request_read : read_file c.args.file.now ≡ accepted (view c.in-Ok.request)
    = file_accepted c.args.file.now c.read_request.result c.in-Ok.request (bytes_known _ c.shared_slice_known-1.given) c.read_request.ensures c.in-Ok.is in
    let a = c.args in
    let lent = buffers_of a.starts.now a.order.now a.blockers.now in
    let searched = c.search-reply in
    let read = sym request_read in record { answer = c.search_told.ensures ∙ (ap search_told searched.ensures.answer ∙ ap (λ (file : FileReading). answer_entry file a.limit (rooms_of lent)) read); starts = searched.ensures.starts ∙ ap (λ (file : FileReading). (buffers_searched file a.limit lent).starts) read; order = searched.ensures.order ∙ ap (λ (file : FileReading). (buffers_searched file a.limit lent).order) read; blockers = searched.ensures.blockers ∙ ap (λ (file : FileReading). (buffers_searched file a.limit lent).blockers) read }
