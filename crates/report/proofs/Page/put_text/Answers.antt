use Rattle.std.proofs.Common.{ap, ◌+◌, length, arith, rules, ◌≡◌, ℕ, List}
use Rattle.report.specs.Text.{appended}
use Rattle.report.specs.TextLaws.{put_text}
use Rattle.report.proofs.Page.put_text.Goals as goal

pub returns-clause-value : goal.returns-clause-value
unfolding appended
returns-clause-value c =
    let page = c.args.self.now in
    let text = c.args.text.now in
    let full : length page.bytes ≡ 1024 = search rules in
    rw c.copy_from_slice.ensures.after
    (ap (λ (l : List ℕ). record { bytes = l; len = page.len + length text }) (put_text page.bytes page.len _ text (omega arith) (omega arith)))
