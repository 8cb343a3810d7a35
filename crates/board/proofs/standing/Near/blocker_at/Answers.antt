use Rattle.std.proofs.Common.{ap, ◌∙◌, refl, ◌+◌, length, rules, tests}
use Rattle.std.proofs.lemmas.Option.{MatchOption-at_some, MatchOption-at_none}
use Rattle.std.proofs.lemmas.Iterator.{IsFirst-from_position, YieldsList-from_slice, YieldsList-from_zip}
use Rattle.board.specs.Board.{blocker_told}
use Rattle.board.proofs.ScanLaws.{InTheWay, Clear, pair_blocks, pairs_clear}
use Rattle.board.proofs.standing.Near.blocker_at.Goals as goal

pub returns : goal.returns
unfolding blocker_told
returns c =
    let near = c.args.self.now in
    let s = c.args.start in
    let first = MatchOption-at_some _ _ _ c.in_ok-number.was
    (IsFirst-from_position c.position.new.self _ _ (InTheWay s (s + near.span)) (Clear s (s + near.span))
    c.position.ensures.ran
    (YieldsList-from_zip (YieldsList-from_slice near.past cc) (YieldsList-from_slice near.starts.now cc))
    (λ x q k. search (rules, tests)) (λ x q k. search (rules, tests))) in
    ap blocker_told (pair_blocks near.past near.starts.now (length near.starts.now) near.span near.blocks s (cc) refl c.in_ok-number.number first)

pub returns-in_err-number : goal.returns-in_err-number
unfolding blocker_told
returns-in_err-number c =
    let near = c.args.self.now in
    let s = c.args.start in
    let none = MatchOption-at_none _ _ c.in_err-number.was
    (IsFirst-from_position c.position.new.self _ _ (InTheWay s (s + near.span)) (Clear s (s + near.span))
    c.position.ensures.ran
    (YieldsList-from_zip (YieldsList-from_slice near.past cc) (YieldsList-from_slice near.starts.now cc))
    (λ x q k. search (rules, tests)) (λ x q k. search (rules, tests))) in
    c.from_residual.ensures
    ∙ ap blocker_told (pairs_clear near.past near.starts.now (length near.starts.now) near.span near.blocks s (cc) refl none)
