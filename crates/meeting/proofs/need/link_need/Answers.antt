use Rattle.std.proofs.Common.{◌≡◌, ◌≤◌, ◌<◌, ◌*◌, Fits, w16, arith, refl, sym, ◌∙◌, length, take, get_or, length-take, get_or-take, rules}
use Rattle.std.proofs.lemmas.Slice.Zip.{zip_turn, zip_end}
use Rattle.std.proofs.lemmas.List.{length_push}
use Rattle.meeting.specs.Compact.{compact_of}
use Rattle.meeting.specs.NeedLaws.{need_none, need_whole, guards_fit}
use Rattle.meeting.specs.CompactLaws.{small_on, small_off, counted}
use Rattle.meeting.proofs.need.link_need.Goals as goal
use Rattle.meeting.proofs.need.link_need.Goals.{After-share_bit}

pub loop-word-init : goal.loop-word-init
loop-word-init c = record { widths_fit = omega arith; users_fit = omega arith; need = λ v is. need_none v c.args.link }

-- all demands are gone through
at_end : (c : goal.After-saturating_sub) → length c.loop-word.yielded ≡ c.args.compact.now.count
at_end c =
    let q = c.args.compact.now in
    let full : length q.words ≡ 200 = search rules in
    let wide : length q.widths ≡ 200 = search rules in
    let end =
    zip_end (take q.count q.words) q.widths c.loop-word.yielded c.into_iter-word-iterator.result c.loop-word.word-iterator c.next.new.self _
    (search rules) (search rules) c.loop-word.yielded_by c.in-None.is c.next.ensures.steps in
    omega (arith, end, length-take q.count q.words, c.requires.0)

-- the guards of the link fit
guards : (c : goal.After-saturating_sub) → c.from.result * c.saturating_sub.result ≤ 51000
guards c = guards_fit c.from.result c.saturating_sub.result (search rules) (omega (arith, at_end c))

-- the word and the width of a turn are those of one demand
at_turn : (c : After-share_bit) →
    (length c.loop-word.yielded < c.args.compact.now.count)
    × (c.in-Some.word.now ≡ get_or c.args.compact.now.words (length c.loop-word.yielded) 0)
    × (c.in-Some.width.now ≡ get_or c.args.compact.now.widths (length c.loop-word.yielded) 0)
    × (c.in-Some.width.now < 65536)
at_turn c =
    let q = c.args.compact.now in
    let n = length c.loop-word.yielded in
    let turn =
    zip_turn (take q.count q.words) q.widths c.loop-word.yielded c.into_iter-word-iterator.result c.loop-word.word-iterator c.next.new.self _
    (search rules) (search rules) c.loop-word.yielded_by _ c.in-Some.is c.next.ensures.steps in
    let low : n < q.count = omega (arith, turn.0, length-take q.count q.words) in
    (low, turn.2 0 ∙ get_or-take q.count q.words n 0 low, turn.3 0, omega (arith, turn.3 0, let w : Fits w16 (get_or q.widths n 0) = search rules in w))

pub overflow_add-widths : goal.overflow_add-widths
overflow_add-widths c =
    let turn = at_turn c.before.before.before in
    omega (arith, turn.0, turn.3)

pub overflow_add-users : goal.overflow_add-users
overflow_add-users c = omega (arith, (at_turn c.before.before.before).0)

pub loop-word-preserved-then-share_bit : goal.loop-word-preserved-then-share_bit
loop-word-preserved-then-share_bit c =
    let q = c.args.compact.now in
    let at = c.loop-word in
    let turn = at_turn c.before.before.before in
    let more = length_push at.yielded (c.in-Some.word, c.in-Some.width) in
    record {
      widths_fit = omega (arith, turn.3, more);
      users_fit = omega (arith, more);
      need =
          λ v is.
          rw more (small_on v q is c.args.link _ at.widths at.users c.requires.1 turn.0 (at.invariant.need v is) _ _
          (rw (turn.1, c.link_bit-bit.ensures) at (sym c.share_bit.ensures ∙ c.if-share_bit.true)) (omega (arith, turn.2, turn.3)) (omega (arith, turn.2)) refl);
    }

pub loop-word-preserved : goal.loop-word-preserved
loop-word-preserved c =
    let q = c.args.compact.now in
    let at = c.loop-word in
    let turn = at_turn c.before in
    let more = length_push at.yielded (c.in-Some.word, c.in-Some.width) in
    record {
      widths_fit = omega (arith, more);
      users_fit = omega (arith, more);
      need =
          λ v is.
          rw more (small_off v q is c.args.link _ at.widths at.users c.requires.1 turn.0 (at.invariant.need v is) _ _
          (rw (turn.1, c.link_bit-bit.ensures) at (sym c.share_bit.ensures ∙ c.if-share_bit.false)) refl refl);
    }

pub overflow_mul-result : goal.overflow_mul-result
overflow_mul-result c = omega (arith, guards c)

pub overflow_add-result : goal.overflow_add-result
overflow_add-result c = omega (arith, guards c, at_end c)

pub returns : goal.returns
unfolding compact_of
returns c v is =
    let at = c.loop-word in
    rw (c.saturating_sub.ensures, c.from.ensures, is.is)
    (need_whole v c.args.link _ at.widths at.users (omega (arith, at_end c, counted v c.args.compact.now is)) (at.invariant.need v is))
