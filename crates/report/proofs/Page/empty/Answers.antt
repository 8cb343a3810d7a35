use Rattle.std.proofs.Common.{refl}
use Rattle.report.specs.Text.{empty_page}
use Rattle.report.proofs.Page.empty.Goals as goal

pub returns-clause-value : goal.returns-clause-value
unfolding empty_page
returns-clause-value c = refl
