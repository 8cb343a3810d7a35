use Rattle.std.proofs.Common.{ℕ, ltb, rules, tests}
use Rattle.std.proofs.lemmas.Iterator.{YieldsList-from_slice}
use Rattle.std.proofs.lemmas.Iterator.Search.{any_from_yields_List}
use Rattle.lent.specs.LentLaws.{rooms_any}
use Rattle.lent.proofs.check_rooms.Goals as goal

pub returns-then-any : goal.returns-then-any
returns-then-any c =
    let need = c.args.need in
    let rooms = c.args.rooms.now in
    let any =
    any_from_yields_List (λ (room : ℕ). ltb room need) _ _ _ c.any.ensures.ran (YieldsList-from_slice rooms cc) (λ x b q k. search (rules, tests)) in
    rw (rooms_any need rooms, ← any, c.if-any.true)

pub returns : goal.returns
returns c =
    let need = c.args.need in
    let tested = c.args.rooms.now in
    let any =
    any_from_yields_List (λ (room : ℕ). ltb room need) _ _ _ c.any.ensures.ran (YieldsList-from_slice tested cc) (λ x b q k. search (rules, tests)) in
    rw (rooms_any need tested, ← any, c.if-any.false)
