-- `mended` meets its contract: apart from the demand just put down the start stays, else the scan finds the next one.
use Prim.Native.Nat.{ℕ, ◌+◌, ◌≤◌, ◌<◌}
use native.Mathlib.Omega.{arith}
use lib.ListN.{get_or}
use Rattle.search.specs.declared.setting.Setting.{Setting}
use Rattle.search.specs.declared.walk.Level.{Level}
use Rattle.search.specs.inner.Level.{MendableAt}
use Rattle.search.specs.KeptLaws.{kept_bounded, passed_bounded, rows_top_of, stays_unjoined, stays_after, stays_before, mended_moves}
use Rattle.search.proofs.walk.Level.mended.Goals as goal

-- the numbers that the code adds are small
small : (s : Setting) (l : Level) (at : ℕ) → MendableAt s l at → at < s.count →
    (get_or s.widths (get_or l.order at 0) 0 + s.guard ≤ 392) × (get_or l.low (get_or l.order at 0) 0 ≤ 392)
    × ((k : ℕ) → k < s.count → get_or l.past k 0 ≤ 392)
small s l at m h = (
  omega (arith, m.sized.narrow (get_or l.order at 0) (m.listed.inside at h), m.sized.guarded),
  kept_bounded s.table s.widths s.guard s.count l.order l.low l.past l.placed m.sized
      (rows_top_of s.table s.widths s.guard s.count l.order l.low l.past l.placed at m) at m.kept at (omega arith) h,
  passed_bounded s.table s.widths s.guard s.count l.order l.low l.past (l.placed + 1) m.sized m.listed m.passed m.below,
)

pub returns-then-not-setting-i : goal.returns-then-not-setting-i
returns-then-not-setting-i c =
    let s = c.args.setting.now in
    let l = c.args.self.now in
    stays_unjoined s.table s.widths s.guard s.count l.order l.low l.past l.placed c.args.at c.requires.mendable c.args.at
    (omega arith) c.requires.placed_lt_at.1 c.if-not-setting-i.true

pub returns-then-self-i : goal.returns-then-self-i
returns-then-self-i c =
    let s = c.args.setting.now in
    let l = c.args.self.now in
    stays_after s.table s.widths s.guard s.count l.order l.low l.past l.placed c.args.at c.requires.mendable c.args.at
    (omega arith) c.requires.placed_lt_at.1 c.if-self-i.true

pub overflow_add-start : goal.overflow_add-start
overflow_add-start c =
    let h = small c.args.setting.now c.args.self.now c.args.at c.requires.mendable c.requires.placed_lt_at.1 in omega arith

pub returns-then-start-span : goal.returns-then-start-span
returns-then-start-span c =
    let s = c.args.setting.now in
    let l = c.args.self.now in
    stays_before s.table s.widths s.guard s.count l.order l.low l.past l.placed c.args.at c.requires.mendable c.args.at
    (omega arith) c.requires.placed_lt_at.1 c.if-start-span.true

pub scan-requires-clause-by_index : goal.scan-requires-clause-by_index
scan-requires-clause-by_index c =
    (small c.args.setting.now c.args.self.now c.args.at c.requires.mendable c.requires.placed_lt_at.1).2

pub scan-requires-clause-from_bound : goal.scan-requires-clause-from_bound
scan-requires-clause-from_bound c =
    let l = c.args.self.now in
    let h = small c.args.setting.now l c.args.at c.requires.mendable c.requires.placed_lt_at.1 in
    (h.2 (get_or l.order l.placed 0) (c.requires.mendable.listed.inside l.placed (omega arith)), h.0)

pub returns : goal.returns
returns c =
    let s = c.args.setting.now in
    let l = c.args.self.now in
    mended_moves s.table s.widths s.guard s.count l.order l.low l.past l.placed c.args.at c.requires.mendable c.args.at
    (omega arith) c.requires.placed_lt_at.1 c.if-not-setting-i.false c.if-self-i.false c.if-start-span.false c.scan.result
    c.scan.ensures
