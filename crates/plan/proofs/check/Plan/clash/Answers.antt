use Rattle.std.specs.Prelude.{Bool, ◌&&◌, get_or}
use Rattle.std.proofs.Common.{ap, sym, ◌∙◌}
use Rattle.meeting.specs.Compact.{share_bit}
use Rattle.meeting.specs.Plan.{start_at}
use Rattle.plan.specs.TurnLaws.{clash_is}
use Rattle.plan.proofs.check.Plan.clash.Goals as goal

pub returns-then-too_close : goal.returns-then-too_close
unfolding start_at
returns-then-too_close c =
    let a = c.args in
    let compact = a.self.now.compact.now in
    c.share_bit.ensures
    ∙ sym (ap (λ (close : Bool). close && share_bit (get_or compact.words a.j 0) (get_or compact.words a.k 0)) (sym c.too_close.ensures ∙ c.if-too_close.true))
    ∙ clash_is compact a.j (start_at a.self.now.starts.now a.j) a.k (start_at a.self.now.starts.now a.k)

pub returns-else-too_close : goal.returns-else-too_close
unfolding start_at
returns-else-too_close c =
    let a = c.args in
    let compact = a.self.now.compact.now in
    c.if-too_close.false
    ∙ sym (ap (λ (close : Bool). close && share_bit (get_or compact.words a.j 0) (get_or compact.words a.k 0)) (sym c.too_close.ensures ∙ c.if-too_close.false))
    ∙ clash_is compact a.j (start_at a.self.now.starts.now a.j) a.k (start_at a.self.now.starts.now a.k)
