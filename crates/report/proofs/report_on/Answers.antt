use Rattle.report.specs.ReportLaws.{file_read, file_refused}
use Rattle.report.proofs.report_on.Goals as goal

pub returns-in-Ok : goal.returns-in-Ok
returns-in-Ok c = record {
  value = file_read c.args.file.now c.read_request.result c.in-Ok.request c.read_request.ensures c.in-Ok.is c.request_page.ensures.value;
  len_bound = c.request_page.ensures.len_bound;
}

pub returns-in-Err : goal.returns-in-Err
returns-in-Err c = record {
  value = file_refused c.args.file.now c.read_request.result c.in-Err.why c.read_request.ensures c.in-Err.is c.refused_page.ensures.value;
  len_bound = c.refused_page.ensures.len_bound;
}
