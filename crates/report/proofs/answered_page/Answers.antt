use Rattle.report.specs.Report.{answer_text}
use Rattle.report.specs.ReportLaws.{page_behind}
use Rattle.report.proofs.answered_page.Goals as goal

pub returns-clause-value : goal.returns-clause-value
returns-clause-value c = page_behind (answer_text c.args.answer) _ c.answer_page-page.ensures.value c.put_plan.ensures.value
