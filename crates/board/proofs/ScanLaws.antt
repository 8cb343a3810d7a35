-- A look at a start beside blocks, what the scan finds, and the first block that is in the way.
use Prim.Native.Nat.{ℕ, zero, suc, ◌+◌, ◌-◌, ◌≤◌, ◌<◌, max, min}
use Rattle.std.specs.Prelude.{Bool, true, false, ◌≡◌, ltb, leb}
use Rattle.std.proofs.Math.Bool.{cond}
use mathlib.Core.List.{List, ◌∷◌, Memᴰ}
use Rattle.std.proofs.Common.{⊎_elim, sym, ◌∙◌, arith, add-one}
use Rattle.std.proofs.Math.Path.{refl, ap}
use Rattle.std.proofs.Math.ListN.{get_or}
use borrow.Author.Tests.{ltb-true, ltb-false, lt-ltb, le-ltb, leb-true, leb-false}
use Rattle.theory.specs.Problem.{Problem, Row, end_of, apart, fits, lowest}
use Rattle.theory.specs.Blocker.{nobody, blocked_by, blocker_at, blocker_below}
use Rattle.theory.proofs.TestLaws.{by_test, not_both}
use Rattle.theory.proofs.ApartLaws.{unjoined_apart, before_apart, after_apart, clash_from}
use Rattle.theory.proofs.ProblemLaws.{end_is}
use Rattle.theory.proofs.BlockerLaws.{named_blocker}
use Rattle.theory.specs.inner.Clashes.{ClashAt, Named}
use Rattle.theory.specs.inner.Scan.{next_start, rows_ahead}
use Rattle.theory.proofs.ScanLaws.{next_nil, next_apart, next_clash, next_from, next_fits, next_same, next_lowest, scan_found, ahead_falls}
use Rattle.std.specs.Prelude.{length}
use Rattle.std.specs.List.{zip, AllWithin, HoldsAt}
use Rattle.std.proofs.Common.{◌⊎◌}
use Rattle.std.proofs.lemmas.Slice.Zip.{length-zip, get_or-zip}
use Rattle.board.specs.Board.{number_rows}
use Rattle.board.specs.inner.Near.{near_problem, Blocks, ClearTo}

-- where a block ends and starts says that it is in the way of a demand from s up to a reach
abbrev pub InTheWay : ℕ → ℕ → ℕ × ℕ → Type 0
InTheWay s reach p = (s < p.0) × (p.1 < reach)

-- and that it is not
abbrev pub Clear : ℕ → ℕ → ℕ × ℕ → Type 0
Clear s reach p = (p.0 ≤ s) ⊎ (reach ≤ p.1)

-- the row of a number that is there
pub row_there : (starts : List ℕ) (n j : ℕ) → j < n → Memᴰ (record { who = j; at = get_or starts j 0 }) (number_rows n starts)
unfolding number_rows
row_there starts zero j h = absurd (omega arith)
row_there starts (suc n) j h =
    by_test (leb n j)
    (λ t.
    let same : j ≡ n = omega (arith, leb-true n j t) in
    mathlib.Core.List.Memᴰ.head (ap (λ (k : ℕ). record { who = k; at = get_or starts k 0 }) same))
    (λ f. mathlib.Core.List.Memᴰ.tail (row_there starts n j (leb-false n j f)))

-- a row is that of its number, which is there
pub row_is : (starts : List ℕ) (n : ℕ) (r : Row) → Memᴰ r (number_rows n starts) → (r.who < n) × (r.at ≡ get_or starts r.who 0)
unfolding number_rows
row_is starts zero r m = absurd (mathlib.Core.List.Memᴰ.not-nil m)
row_is starts (suc n) r m =
    ⊎_elim
    (λ (e : r ≡ record { who = n; at = get_or starts n 0 }).
    let number : r.who ≡ n = ap (λ (q : Row). q.who) e in
    (omega arith, ap (λ (q : Row). q.at) e ∙ ap (λ (k : ℕ). get_or starts k 0) (sym number)))
    (λ (k : Memᴰ r (number_rows n starts)). let (h, e) = row_is starts n r k in (omega arith, e))
    (mathlib.Core.List.Memᴰ.cases_cons m)

-- who clashes with number 200 beside the rows of numbers is one of these, at its start
pub clash_number : (P : Problem) (starts : List ℕ) (n s b : ℕ) → ClashAt P (number_rows n starts) 200 s b →
    (b < n) × (apart P b (get_or starts b 0) 200 s ≡ false)
clash_number P starts n s b c =
    let (there, at) = row_is starts n c.row c.stands in (
      omega (arith, c.number),
      ap (λ (k : ℕ). apart P k (get_or starts k 0) 200 s) (sym c.number) ∙ ap (λ (t : ℕ). apart P c.row.who t 200 s) (sym at) ∙ c.clash,
    )

module _ (past starts : List ℕ) (n span : ℕ) (blocks : Blocks past starts n) where
  -- number 200 ends, its guard included, after its span
  pub own_end : (s : ℕ) → end_of (near_problem past starts span) 200 s ≡ s + span
  unfolding near_problem
  own_end s =
      end_is (near_problem past starts span) 200 s
      ∙ ap (λ (b : Bool). s + cond b (get_or past 200 0 - get_or starts 200 0) span) (le-ltb 200 200 (omega arith))

  -- a block in the way ends, its guard included, at its past end
  pub block_end : (j : ℕ) → j < n → 0 < get_or past j 0 → end_of (near_problem past starts span) j (get_or starts j 0) ≡ get_or past j 0
  unfolding near_problem
  block_end j h k =
      end_is (near_problem past starts span) j (get_or starts j 0)
      ∙ ap (λ (b : Bool). get_or starts j 0 + cond b (get_or past j 0 - get_or starts j 0) span) (lt-ltb j 200 (omega (arith, blocks.few)))
      ∙ omega (arith, blocks.ends_after j h k)

  -- a block that starts before the reach, and ends above the start, clashes
  pub block_clashes : (j s : ℕ) → j < n → s < get_or past j 0 → get_or starts j 0 < s + span →
      apart (near_problem past starts span) j (get_or starts j 0) 200 s ≡ false
  unfolding near_problem
  block_clashes j s h ahead begun =
      clash_from (near_problem past starts span) j (get_or starts j 0) 200 s
      (lt-ltb 0 (get_or past j 0) (omega arith))
      (omega (arith, block_end j h (omega arith)))
      (omega (arith, own_end s))

  -- a block that ends by the start is apart
  pub block_over : (j s : ℕ) → j < n → get_or past j 0 ≤ s → apart (near_problem past starts span) j (get_or starts j 0) 200 s ≡ true
  unfolding near_problem
  block_over j s h over =
      by_test (ltb 0 (get_or past j 0))
      (λ t.
      before_apart (near_problem past starts span) j (get_or starts j 0) 200 s
      (omega (arith, block_end j h (ltb-true 0 (get_or past j 0) t))))
      (unjoined_apart (near_problem past starts span) j (get_or starts j 0) 200 s)

  -- a block that starts at the reach or later is apart
  pub block_later : (j s : ℕ) → j < n → s + span ≤ get_or starts j 0 → apart (near_problem past starts span) j (get_or starts j 0) 200 s ≡ true
  unfolding near_problem
  block_later j s h later = after_apart (near_problem past starts span) j (get_or starts j 0) 200 s (omega (arith, own_end s))

  -- with one more block looked at: its past end counts where it starts before the reach
  next_row : (j s : ℕ) → j < n →
      next_start (near_problem past starts span) (record { who = j; at = get_or starts j 0 } ∷ number_rows j starts) 200 s
      ≡ max (next_start (near_problem past starts span) (number_rows j starts) 200 s) (cond (ltb (get_or starts j 0) (s + span)) (get_or past j 0) 0)
  unfolding near_problem
  next_row j s h =
      let Q : Problem = near_problem past starts span in
      let r : Row = record { who = j; at = get_or starts j 0 } in
      let rows : List Row = number_rows j starts in
      let rises : s ≤ next_start Q rows 200 s = next_from Q rows 200 s in
      by_test (ltb (get_or starts j 0) (s + span))
      (λ begun.
      by_test (ltb s (get_or past j 0))
      (λ ahead.
      let above : s < get_or past j 0 = ltb-true s (get_or past j 0) ahead in
      rw (next_clash Q r rows 200 s (block_clashes j s h above (ltb-true (get_or starts j 0) (s + span) begun)), begun)
      (omega (arith, block_end j h (omega arith))))
      (λ over.
      rw (next_apart Q r rows 200 s (block_over j s h (ltb-false s (get_or past j 0) over)), begun)
      (omega (arith, ltb-false s (get_or past j 0) over))))
      (λ later.
      rw (next_apart Q r rows 200 s (block_later j s h (ltb-false (get_or starts j 0) (s + span) later)), later)
      (omega arith))

  -- one turn of a look
  pub next_block : (j s next end : ℕ) → j < n → next ≡ next_start (near_problem past starts span) (number_rows j starts) 200 s →
      end ≡ cond (ltb (get_or starts j 0) (s + span)) (get_or past j 0) 0 →
      max next end ≡ next_start (near_problem past starts span) (number_rows (j + 1) starts) 200 s
  unfolding number_rows
  next_block j s next end h e k = rw (add-one j, e, k) (sym (next_row j s h))

  module _ (j s next : ℕ) (h : j < n) (looked : next ≡ next_start (near_problem past starts span) (number_rows j starts) 200 s) where
    -- one turn of a look: the end of a block that starts before the reach counts
    pub next_begun : get_or starts j 0 < s + span →
        max next (get_or past j 0) ≡ next_start (near_problem past starts span) (number_rows (j + 1) starts) 200 s
    unfolding near_problem number_rows
    next_begun begun =
        let Q : Problem = near_problem past starts span in
        let r : Row = record { who = j; at = get_or starts j 0 } in
        let rows : List Row = number_rows j starts in
        let rises : s ≤ next_start Q rows 200 s = next_from Q rows 200 s in
        by_test (ltb s (get_or past j 0))
        (λ ahead.
        let above : s < get_or past j 0 = ltb-true s (get_or past j 0) ahead in
        rw (add-one j, next_clash Q r rows 200 s (block_clashes j s h above begun))
        (omega (arith, looked, block_end j h (omega arith))))
        (λ over.
        let below : get_or past j 0 ≤ s = ltb-false s (get_or past j 0) over in
        rw (add-one j, next_apart Q r rows 200 s (block_over j s h below))
        (omega (arith, looked, rises)))

    -- that of one that starts there or later does not
    pub next_later : s + span ≤ get_or starts j 0 → next ≡ next_start (near_problem past starts span) (number_rows (j + 1) starts) 200 s
    unfolding number_rows
    next_later later =
        rw
        (add-one j, next_apart (near_problem past starts span) (record { who = j; at = get_or starts j 0 }) (number_rows j starts) 200 s (block_later j s h later))
        looked

  -- the first block in the way is the blocker
  pub first_blocks : (s j : ℕ) → j < n → ClearTo past starts span s j → apart (near_problem past starts span) j (get_or starts j 0) 200 s ≡ false →
      blocked_by j ≡ blocker_at (near_problem past starts span) (number_rows n starts) 200 s
  unfolding ClearTo Named
  first_blocks s j h clear f =
      named_blocker (near_problem past starts span) (number_rows n starts) 200 s (blocked_by j) (
        record { row = record { who = j; at = get_or starts j 0 }; stands = row_there starts n j h; number = refl; clash = f },
        λ b c.
            let (there, clash) = clash_number (near_problem past starts span) starts n s b c in
            by_test (leb j b)
            (leb-true j b)
            (λ l. not_both (apart (near_problem past starts span) b (get_or starts b 0) 200 s) (clear b (leb-false j b l)) clash),
      )

  -- where no block is in the way nobody is
  pub none_blocks : (s : ℕ) → ClearTo past starts span s n → nobody ≡ blocker_at (near_problem past starts span) (number_rows n starts) 200 s
  unfolding ClearTo Named
  none_blocks s clear =
      named_blocker (near_problem past starts span) (number_rows n starts) 200 s nobody
      (λ b c.
      let (there, clash) = clash_number (near_problem past starts span) starts n s b c in
      not_both (apart (near_problem past starts span) b (get_or starts b 0) 200 s) (clear b there) clash)

  module _ (s : ℕ) (long : length past ≡ 200) (whole : length starts ≡ n) where
    -- as many ends and starts as blocks
    pub pairs : length (zip past starts) ≡ n
    pairs = omega (arith, length-zip past starts, blocks.few, long, whole)

    -- a block's end and start are the pair of its number
    pair_is : (j : ℕ) → j < n → get_or (zip past starts) j (0, 0) ≡ (get_or past j 0, get_or starts j 0)
    pair_is j h = get_or-zip past starts j (0, 0) (omega (arith, blocks.few)) (omega arith)

    -- where no pair before j is in the way no block is
    clear_pairs : (j : ℕ) → j ≤ n → AllWithin (Clear s (s + span)) (zip past starts) 0 j → ClearTo past starts span s j
    unfolding ClearTo
    clear_pairs j most clear =
        λ k h.
        let there : k < n = omega arith in
        ⊎_elim (block_over k s there) (block_later k s there) (rw (pair_is k there) at (clear k (0, 0) (omega arith) h))

    -- so the first pair in the way is the blocker's
    pub pair_blocks : (j : ℕ) → (j < length (zip past starts)) × HoldsAt (InTheWay s (s + span)) (zip past starts) j × AllWithin (Clear s (s + span)) (zip past starts) 0 j →
        blocked_by j ≡ blocker_at (near_problem past starts span) (number_rows n starts) 200 s
    pair_blocks j (within, here, clear) =
        let h : j < n = omega (arith, pairs) in
        let (ahead, begun) = rw (pair_is j h) at (here (0, 0)) in
        first_blocks s j h (clear_pairs j (omega arith) clear) (block_clashes j s h ahead begun)

    -- and where no pair is in the way nobody is
    pub pairs_clear : AllWithin (Clear s (s + span)) (zip past starts) 0 (length (zip past starts)) →
        nobody ≡ blocker_at (near_problem past starts span) (number_rows n starts) 200 s
    pairs_clear clear = none_blocks s (clear_pairs n (omega arith) (rw pairs at clear))

module _ (P : Problem) (rows : List Row) (i : ℕ) where
  -- nobody keeps a demand from starting below 0
  pub below_zero : (s : ℕ) → s ≡ 0 → nobody ≡ blocker_below P rows i s
  unfolding blocker_below
  below_zero zero e = refl
  below_zero (suc s) e = absurd (omega arith)

  -- who keeps it from starting below another start is who clashes one lower
  pub below_higher : (s below : ℕ) → s ≡ below + 1 → blocker_at P rows i below ≡ blocker_below P rows i s
  unfolding blocker_below
  below_higher zero below h = absurd (omega arith)
  below_higher (suc s) below h = ap (blocker_at P rows i) (omega arith)

module _ (past starts : List ℕ) (span s : ℕ) where
  -- no block is before the first
  pub clear_none : ClearTo past starts span s 0
  unfolding ClearTo
  clear_none = λ k h. absurd (omega arith)

  -- one block more that is not in the way
  pub clear_more : (j : ℕ) → ClearTo past starts span s j → apart (near_problem past starts span) j (get_or starts j 0) 200 s ≡ true →
      ClearTo past starts span s (j + 1)
  unfolding ClearTo
  clear_more j clear here =
      λ k h.
      by_test (leb j k)
      (λ t. let same : k ≡ j = omega (arith, leb-true j k t) in rw same here)
      (λ f. clear k (leb-false j k f))

-- before a look nothing is looked at
pub next_start_lem : (past starts : List ℕ) (span s : ℕ) → s ≡ next_start (near_problem past starts span) (number_rows 0 starts) 200 s
unfolding number_rows
next_start_lem past starts span s = sym (next_nil (near_problem past starts span) 200 s)

-- when all blocks are looked at the look is done
pub next_whole : (past starts : List ℕ) (n span j s next : ℕ) → j ≡ n → next ≡ next_start (near_problem past starts span) (number_rows j starts) 200 s →
    next ≡ next_start (near_problem past starts span) (number_rows n starts) 200 s
next_whole past starts n span j s next done looked =
    looked ∙ ap (λ (k : ℕ). next_start (near_problem past starts span) (number_rows k starts) 200 s) done

module _ (P : Problem) (rows : List Row) (i s : ℕ) (not-passed : s ≤ lowest P rows i) where
  -- a scan that has come to the limit ends there
  pub scan_above : (above : ℕ) → above ≤ s → above ≡ min (lowest P rows i) above
  scan_above above h = omega arith

  module _ (next : ℕ) (looked : next ≡ next_start P rows i s) where
    -- a scan that stays has found the lowest start
    pub scan_at : (above : ℕ) → s < above → next ≡ s → s ≡ min (lowest P rows i) above
    scan_at above h stays = omega (arith, scan_found P rows i s not-passed (next_same P rows i s (sym looked ∙ stays)))

    -- a scan that goes on has not passed the lowest start
    pub scan_below : next ≤ lowest P rows i
    scan_below = rw looked (next_lowest P rows i s not-passed)

    -- and fewer rows are ahead
    pub scan_fewer : (next ≡ s → ⊥) → rows_ahead P rows i next < rows_ahead P rows i s
    scan_fewer moves =
        by_test (fits P rows i s)
        (λ f. absurd (moves (looked ∙ next_fits P rows i s f)))
        (λ f. ahead_falls P rows i s next f (omega arith))
