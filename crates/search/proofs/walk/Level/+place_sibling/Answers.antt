-- `place` and `sibling` meet their contracts. `sibling` calls `place` with the same demands unplaced, and itself with one sibling fewer
-- left; `place` calls `sibling` with one demand fewer unplaced.
use Rattle.std.proofs.Common.{◌≡◌, ℕ, ◌+◌, ◌-◌, ◌*◌, ◌<◌, ◌≤◌, max, List, get_or, set, sym, subst, ap, ◌∙◌, arith, le_refl, le_of_lt}
use Rattle.theory.specs.Orders.{factorial}
use Rattle.theory.specs.Problem.{place, top}
use Rattle.search.specs.declared.setting.Setting.{Setting}
use Rattle.search.specs.declared.tally.Tally.{Tally}
use Rattle.search.specs.declared.walk.Level.{Level}
use Rattle.search.specs.DownLaws.{brought_mendable, brought_small, down_ready, down_rows, gone_tried}
use Rattle.search.specs.StepLaws.{counting_tried, counting_here, counting_one, counting_more, counting_below, counting_gone, small_start, step_end, ends_spent, ends_last, ends_left, ends_into, ends_ended}
use Rattle.search.specs.TriesLaws.{tried_none}
use Rattle.search.specs.inner.Arrays.{rows_of}
use Rattle.search.specs.inner.Kept.{Brought, Mended}
use Rattle.search.specs.inner.Level.{posed, rows_at, ReadyAt, tried_at}
use Rattle.search.specs.inner.Tally.{tally_of, Counting}
use Rattle.search.proofs.walk.Level.+place_sibling.Goals as goal

-- one demand fewer is unplaced
level_falls : (K n t : ℕ) → K ≤ 20 → n + 1 < K → (K - n) * 64 ≡ t → (K - (n + 1)) * 64 + (K - (n + 1)) + 1 < t
level_falls K n t few more is = omega arith

-- a demand is left
some_left : (K n : ℕ) → n < K → (K - (n + 1) ≡ 0 → ⊥) → n + 1 < K
some_left K n h d = omega (arith, d)

-- an end below the mark lies within the band
below_mark : (e mark : ℕ) → e < mark → mark ≤ 385 → e ≤ 384
below_mark e mark h k = omega arith

-- the demand at a place is tried on a level on which the walk may go on
module _ (s : Setting) (l : Level) (at : ℕ) (ready : ReadyAt s l) (h : l.placed ≤ at) (k : at < s.count) where
  -- its numbers are small
  small : (get_or l.low (get_or l.order at 0) 0 ≤ 392) × (get_or s.widths (get_or l.order at 0) 0 ≤ 384) × (get_or l.order at 0 < 20)
  small = small_start s.table s.widths s.guard s.count l.order l.low l.past l.placed at l.top ready.ready h k ready.top_is

  -- what the code takes as the largest end is that with the demand put down
  end_is : max l.top (get_or l.low (get_or l.order at 0) 0 + get_or s.widths (get_or l.order at 0) 0) ≡
      top (posed s) (place (posed s) (rows_at l) (get_or l.order at 0))
  end_is = step_end s.table s.widths s.guard s.count l.order l.low l.past l.placed at l.top ready.ready h k ready.top_is

  -- it is put down, at an end within the band
  module _ (down : List ℕ) (end : ℕ) (brought : Brought l.order l.placed at down)
      (bounded : (end ≤ 384) × (end ≡ top (posed s) (place (posed s) (rows_at l) (get_or l.order at 0)))) where
    -- its numbers are small, now that it stands at place `placed`
    down_small : (get_or l.low (get_or down l.placed 0) 0 ≤ 392) × (get_or s.widths (get_or down l.placed 0) 0 ≤ 384) × (s.guard ≤ 8)
    down_small =
        let b = brought_small s.table s.widths s.guard s.count l.order l.low l.past l.placed at down ready.ready h k brought in
        (b.0, b.1, ready.ready.sized.guarded)

    -- the largest end lies within the band
    below : top (posed s) (place (posed s) (rows_at l) (get_or l.order at 0)) ≤ 384
    below = subst (λ (m : ℕ). m ≤ 384) bounded.1 bounded.0

    -- once the starts are mended
    module _ (low : List ℕ) (mended : Mended s.table s.widths s.guard s.count down l.low l.placed s.count low) where
      -- the rows are those that the theory places
      rows_down : rows_of low down (l.placed + 1) ≡ place (posed s) (rows_at l) (get_or l.order at 0)
      rows_down =
          down_rows s.table s.widths s.guard s.count l.order l.low l.past l.placed at down low ready.ready h k brought below mended

      -- the walk may go on
      ready_down : ReadyAt s
          (record {
            order = down;
            low = low;
            past = set l.past (get_or down l.placed 0) (get_or l.low (get_or down l.placed 0) 0 + get_or s.widths (get_or down l.placed 0) 0 + s.guard);
            placed = l.placed + 1;
            top = end;
          })
      ready_down =
          record {
            ready =
                down_ready s.table s.widths s.guard s.count l.order l.low l.past l.placed at down low ready.ready h k brought below
                mended;
            top_is = bounded.1 ∙ ap (top (posed s)) (sym rows_down);
          }

pub place-overflow_add-down : goal.place-overflow_add-down
place-overflow_add-down t c =
    let a = c.args in
    let r = c.requires in
    let b =
    down_small a.setting.now a.self.now a.at r.ready r.placed_le_at.0 r.placed_le_at.1 c.bring.new.order a.end c.bring.ensures r.end_bound in
    omega arith

pub place-overflow_add-down-2 : goal.place-overflow_add-down-2
place-overflow_add-down-2 t c =
    let a = c.args in
    let r = c.requires in
    let b =
    down_small a.setting.now a.self.now a.at r.ready r.placed_le_at.0 r.placed_le_at.1 c.bring.new.order a.end c.bring.ensures r.end_bound in
    omega arith

pub place-mend-requires : goal.place-mend-requires
place-mend-requires t c =
    let s = c.args.setting.now in
    let l = c.args.self.now in
    let r = c.requires in
    brought_mendable s.table s.widths s.guard s.count l.order l.low l.past l.placed c.args.at c.bring.new.order r.ready.ready
    r.placed_le_at.0 r.placed_le_at.1 c.bring.ensures
    (below s l c.args.at r.ready r.placed_le_at.0 r.placed_le_at.1 c.bring.new.order c.args.end c.bring.ensures r.end_bound)

-- one level down the walk may go on
pub place-sibling-requires : goal.place-sibling-requires
place-sibling-requires t c =
    let s = c.args.setting.now in
    let l = c.args.self.now in
    let low = c.mend.new.self.low in
    let r = c.requires in (
      level_falls s.count l.placed t r.ready.ready.sized.few r.placed_le_at.2 c.decreases,
      (
        subst
            (λ (m : Level). ReadyAt s (record { order = m.order; low = low; past = m.past; placed = l.placed + 1; top = c.args.end }))
            (sym c.mend.ensures.rest)
            (ready_down s l c.args.at r.ready r.placed_le_at.0 r.placed_le_at.1 c.bring.new.order c.args.end c.bring.ensures r.end_bound low
            c.mend.ensures.mended),
        (
          (le_refl (l.placed + 1), le_of_lt r.placed_le_at.2, r.placed_le_at.2),
          counting_below c.args.tally.now s.count (l.placed + 1) r.placed_le_at.2 r.counting,
        ),
      ),
    )

pub place-returns : goal.place-returns
place-returns t c =
    let s = c.args.setting.now in
    let l = c.args.self.now in
    let low = c.mend.new.self.low in
    let r = c.requires in
    c.sibling.ensures
    ∙ ap
    (λ (m : Level).
    tried_at s (record { order = m.order; low = low; past = m.past; placed = l.placed + 1; top = c.args.end }) (l.placed + 1)
    (tally_of s.count c.args.tally.now))
    c.mend.ensures.rest
    ∙ sym
    (gone_tried (posed s) s.limit s.bound s.count l.order l.low l.placed c.args.at c.bring.new.order low r.placed_le_at.0
    r.placed_le_at.1 c.bring.ensures r.placed_le_at.2 (tally_of s.count c.args.tally.now)
    (rows_down s l c.args.at r.ready r.placed_le_at.0 r.placed_le_at.1 c.bring.new.order c.args.end c.bring.ensures r.end_bound low
    c.mend.ensures.mended))

pub sibling-returns-then-at-setting : goal.sibling-returns-then-at-setting
sibling-returns-then-at-setting t c =
    let s = c.args.setting.now in
    let l = c.args.self.now in
    sym
    (tried_none (posed s) s.limit s.bound s.count l.order l.low l.placed c.args.at (tally_of s.count c.args.tally.now)
    c.if-at-setting.true)

pub sibling-returns-then-setting-tally : goal.sibling-returns-then-setting-tally
sibling-returns-then-setting-tally t c =
    let s = c.args.setting.now in
    let l = c.args.self.now in
    let r = c.requires in
    ends_spent (posed s) s.limit s.bound s.count l.order l.low l.placed c.args.at c.args.tally.now r.placed_le_at.0 (omega arith)
    c.if-setting-tally.true

-- the numbers of the demand tried are small
pub sibling-overflow_add-self : goal.sibling-overflow_add-self
sibling-overflow_add-self t c =
    let r = c.requires in
    let b = small c.args.setting.now c.args.self.now c.args.at r.ready r.placed_le_at.0 (omega arith) in omega arith

pub sibling-complete-requires : goal.sibling-complete-requires
sibling-complete-requires t c =
    let s = c.args.setting.now in
    let l = c.args.self.now in
    let r = c.requires in
    counting_one (record c.args.tally.now { steps = c.args.tally.now.steps + 1 }) (s.count - (l.placed + 1))
    ((s.count - (c.args.at + 1)) * factorial (s.count - (l.placed + 1)))
    (counting_tried c.args.tally.now s.count l.placed c.args.at (omega arith) r.counting)

pub sibling-returns-then-left-eq0 : goal.sibling-returns-then-left-eq0
sibling-returns-then-left-eq0 t c =
    let s = c.args.setting.now in
    let l = c.args.self.now in
    let r = c.requires in
    ends_last s.table s.widths s.guard s.count l.order l.low l.past l.placed c.args.at l.top r.ready.ready r.placed_le_at.0 (omega arith)
    r.ready.top_is s.limit s.bound c.max-end.result c.args.tally.now c.complete.new.self c.if-left-eq0.true c.if-setting-tally.false
    c.max-end.ensures (c.complete.ensures s.count)

-- what is counted, after a step, leaves room for the orders below the demand tried and for those below the rest
counted : (s : Setting) (l : Level) (at : ℕ) (t : Tally) → at < s.count → Counting t ((s.count - at) * factorial (s.count - (l.placed + 1))) →
    (f : ℕ) → f ≡ factorial (s.count - (l.placed + 1)) →
    Counting (record t { steps = t.steps + 1 }) (f + (s.count - (at + 1)) * factorial (s.count - (l.placed + 1)))
counted s l at t there counting f is =
    subst (λ (m : ℕ). Counting (record t { steps = t.steps + 1 }) (m + (s.count - (at + 1)) * factorial (s.count - (l.placed + 1))))
    (sym is) (counting_tried t s.count l.placed at there counting)

pub sibling-overflow_add-tally-then-tally-end : goal.sibling-overflow_add-tally-then-tally-end
sibling-overflow_add-tally-then-tally-end t c =
    let s = c.args.setting.now in
    let l = c.args.self.now in
    let r = c.requires in
    record {
      fits =
          counting_more (record c.args.tally.now { steps = c.args.tally.now.steps + 1 }) c.factorial.result
          ((s.count - (c.args.at + 1)) * factorial (s.count - (l.placed + 1)))
          (counted s l c.args.at c.args.tally.now (omega arith) r.counting c.factorial.result c.factorial.ensures);
    }

pub sibling-returns-then-tally-end : goal.sibling-returns-then-tally-end
sibling-returns-then-tally-end t c =
    let s = c.args.setting.now in
    let l = c.args.self.now in
    let r = c.requires in
    c.sibling.ensures
    ∙ ends_left (posed s) s.limit s.bound s.count l.order l.low l.placed c.args.at c.args.tally.now r.placed_le_at.0 (omega arith)
    c.factorial.result c.factorial.ensures (some_left s.count l.placed r.placed_le_at.2 c.if-left-eq0.false)
    r.counting.on c.if-setting-tally.false
    (subst (λ (m : ℕ). c.args.tally.now.mark ≤ m) (c.max-end.ensures ∙ end_is s l c.args.at r.ready r.placed_le_at.0 (omega arith))
    c.if-tally-end.true)

pub sibling-place-requires : goal.sibling-place-requires
sibling-place-requires t c =
    let s = c.args.setting.now in
    let l = c.args.self.now in
    let r = c.requires in (
      omega (arith, c.decreases),
      (
        r.ready,
        (
          (r.placed_le_at.0, omega arith, some_left s.count l.placed r.placed_le_at.2 c.if-left-eq0.false),
          (
            (
              below_mark c.max-end.result c.args.tally.now.mark c.if-tally-end.false r.counting.low_mark,
              c.max-end.ensures ∙ end_is s l c.args.at r.ready r.placed_le_at.0 (omega arith),
            ),
            counting_here (record c.args.tally.now { steps = c.args.tally.now.steps + 1 }) (factorial (s.count - (l.placed + 1)))
                ((s.count - (c.args.at + 1)) * factorial (s.count - (l.placed + 1)))
                (counting_tried c.args.tally.now s.count l.placed c.args.at (omega arith) r.counting),
          ),
        ),
      ),
    )

pub sibling-sibling-requires-in-Going : goal.sibling-sibling-requires-in-Going
sibling-sibling-requires-in-Going t c =
    let s = c.args.setting.now in
    let l = c.args.self.now in
    let r = c.requires in (
      omega (arith, c.decreases),
      (
        r.ready,
        (
          (omega arith, omega arith, r.placed_le_at.2),
          counting_gone (posed s) s.limit s.bound s.count l.order l.low l.placed c.args.at
              (record c.args.tally.now { steps = c.args.tally.now.steps + 1 }) r.placed_le_at.0 (omega arith) c.place.new.tally
              ((s.count - (c.args.at + 1)) * factorial (s.count - (l.placed + 1))) c.in-Going.is
              (counting_tried c.args.tally.now s.count l.placed c.args.at (omega arith) r.counting) c.place.ensures,
        ),
      ),
    )

pub sibling-returns-in-Going : goal.sibling-returns-in-Going
sibling-returns-in-Going t c =
    let s = c.args.setting.now in
    let l = c.args.self.now in
    let r = c.requires in
    c.sibling-in-Going.ensures
    ∙ ends_into (posed s) s.limit s.bound s.count l.order l.low l.placed c.args.at c.args.tally.now r.placed_le_at.0 (omega arith)
    c.place.new.tally (some_left s.count l.placed r.placed_le_at.2 c.if-left-eq0.false)
    c.if-setting-tally.false
    (subst (λ (m : ℕ). m < c.args.tally.now.mark) (c.max-end.ensures ∙ end_is s l c.args.at r.ready r.placed_le_at.0 (omega arith))
    c.if-tally-end.false)
    c.in-Going.is c.place.ensures

pub sibling-returns-in_default : goal.sibling-returns-in_default
sibling-returns-in_default t c =
    let s = c.args.setting.now in
    let l = c.args.self.now in
    let r = c.requires in
    ends_ended (posed s) s.limit s.bound s.count l.order l.low l.placed c.args.at c.args.tally.now r.placed_le_at.0 (omega arith)
    c.place.new.tally (some_left s.count l.placed r.placed_le_at.2 c.if-left-eq0.false) c.if-setting-tally.false
    (subst (λ (m : ℕ). m < c.args.tally.now.mark) (c.max-end.ensures ∙ end_is s l c.args.at r.ready r.placed_le_at.0 (omega arith))
    c.if-tally-end.false)
    c.in_default.not-Going c.place.ensures
