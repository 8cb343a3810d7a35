use Rattle.std.proofs.Common.{ap, sym, ◌∙◌}
use Rattle.report.specs.Text.{appended}
use Rattle.report.specs.TextLaws.{appended_none}
use Rattle.report.specs.ReportLaws.{plan_shown, plan_left_out}
use Rattle.report.proofs.Page.put_plan.Goals as goal

pub returns-in-Finished-clause-value : goal.returns-in-Finished-clause-value
returns-in-Finished-clause-value c =
    c.put_rows.ensures.value ∙ ap (appended c.args.self.now) (sym (plan_shown c.args.outcome _ c.in-Finished.is))

pub returns-in-NothingFits-clause-value : goal.returns-in-NothingFits-clause-value
returns-in-NothingFits-clause-value c =
    sym (ap (appended c.args.self.now) (plan_left_out c.args.outcome _ c.in-NothingFits.is) ∙ appended_none c.args.self.now)
