-- The answer for one demand: what it is by cases, that it rests on the clashes alone, and that the scan over blocks gives it.
use Prim.Native.Nat.{ℕ, zero, suc, ◌+◌, ◌-◌, ◌≤◌, ◌<◌, min}
use Rattle.std.specs.Prelude.{Bool, List, ◌≡◌, refl, leb, ltb, length, take, Option, Some, None}
use Rattle.std.proofs.Math.Path.{sym, ap}
use Rattle.std.proofs.Common.{◌∙◌, leb-true, leb-false, le-leb, ltb-true, ltb-false, lt-ltb, le-ltb}
use native.Mathlib.Omega.{arith}
use Rattle.std.proofs.lemmas.Bool.{lt-leb}
use Rattle.std.proofs.lemmas.List.{length-take-le, get_or-take}
use Rattle.theory.specs.Problem.{Problem, Row, end_of, lowest}
use Rattle.theory.specs.Blocker as theory
use Rattle.theory.proofs.TestLaws.{by_test}
use Rattle.theory.proofs.ProblemLaws.{end_is}
use Rattle.theory.proofs.BlockerLaws.{lowest_same, blocker_same, below_same}
use Rattle.theory.specs.inner.Clashes.{SameClashes}
use Rattle.board.specs.inner.Near.{near_problem, PastEnds, spot_below}
use Rattle.board.proofs.StandingLaws.{near_clashes}
use Rattle.board.specs.declared.Placement.{Placement}
use Rattle.board.specs.Board.{board_problem, number_rows, blocker_told, entry_of, last_blocker, placed_beside, placed_one}

module _ (P : Problem) (rows : List Row) (i slots : ℕ) where
  -- a demand whose lowest start ends within the slots is placed there
  pub beside_at : end_of P i (lowest P rows i) ≤ slots →
      placed_beside P rows i slots
      ≡ record { spot = Some (lowest P rows i); blocker = blocker_told (theory.blocker_below P rows i (lowest P rows i)) }
  unfolding placed_beside
  beside_at h = rw (le-leb (end_of P i (lowest P rows i)) slots h)

  -- any other is placed nowhere
  pub beside_nowhere : slots < end_of P i (lowest P rows i) →
      placed_beside P rows i slots ≡ record { spot = None; blocker = blocker_told (last_blocker P rows i slots) }
  unfolding placed_beside
  beside_nowhere h = rw (lt-leb (end_of P i (lowest P rows i)) slots h)

  -- who is in the way at the last start of a demand that is no wider than the slots
  pub last_is : P.width i ≤ slots → last_blocker P rows i slots ≡ theory.blocker_at P rows i (slots - P.width i)
  unfolding last_blocker
  last_is h = rw (le-leb (P.width i) slots h)

  -- a wider one has no last start
  pub last_none : slots < P.width i → last_blocker P rows i slots ≡ theory.nobody
  unfolding last_blocker
  last_none h = rw (lt-leb (P.width i) slots h)

  -- who is in the way at the last start keeps the demand from starting below the first start that ends above the slots
  pub last_below : (s : ℕ) → s ≡ (slots + 1) - P.width i → theory.blocker_below P rows i s ≡ last_blocker P rows i slots
  unfolding theory.blocker_below
  last_below zero e = sym (last_none (omega arith))
  last_below (suc s) e =
      ap (theory.blocker_at P rows i) (let same : s ≡ slots - P.width i = omega arith in same) ∙ sym (last_is (omega arith))

module _ (P : Problem) (rows : List Row) (i slots : ℕ) (p : Placement) (is : p ≡ placed_beside P rows i slots) where
  -- a start that was found is the lowest, ends within the slots, and has the blocker below it
  pub spot_found : (s : ℕ) → p.spot ≡ Some s →
      (s ≡ lowest P rows i) × (end_of P i (lowest P rows i) ≤ slots) × (p.blocker ≡ blocker_told (theory.blocker_below P rows i (lowest P rows i)))
  spot_found s e =
      by_test (leb (end_of P i (lowest P rows i)) slots)
      (λ t.
      let h : end_of P i (lowest P rows i) ≤ slots = leb-true (end_of P i (lowest P rows i)) slots t in
      let whole = is ∙ beside_at P rows i slots h in
      let spot : Some s ≡ Some (lowest P rows i) = sym e ∙ ap (λ (q : Placement). q.spot) whole in
      (cc, h, ap (λ (q : Placement). q.blocker) whole))
      (λ f.
      let whole = is ∙ beside_nowhere P rows i slots (leb-false (end_of P i (lowest P rows i)) slots f) in
      let spot : Some s ≡ None = sym e ∙ ap (λ (q : Placement). q.spot) whole in
      absurd (let z : ◌≡◌ {A = ℕ} 0 1 = cc in omega arith))

  -- where there is none the lowest start ends above the slots, and the blocker is the one at the last start
  pub spot_none : p.spot ≡ None → P.width i ≤ slots →
      (slots < end_of P i (lowest P rows i)) × (p.blocker ≡ blocker_told (theory.blocker_at P rows i (slots - P.width i)))
  spot_none e narrow =
      by_test (leb (end_of P i (lowest P rows i)) slots)
      (λ t.
      let whole = is ∙ beside_at P rows i slots (leb-true (end_of P i (lowest P rows i)) slots t) in
      let spot : None ≡ Some (lowest P rows i) = sym e ∙ ap (λ (q : Placement). q.spot) whole in
      absurd (let z : ◌≡◌ {A = ℕ} 0 1 = cc in omega arith))
      (λ f.
      let h : slots < end_of P i (lowest P rows i) = leb-false (end_of P i (lowest P rows i)) slots f in
      let whole = is ∙ beside_nowhere P rows i slots h in
      (h, ap (λ (q : Placement). q.blocker) whole ∙ ap blocker_told (last_is P rows i slots narrow)))

module _ (P : Problem) (rows : List Row) (i : ℕ) (Q : Problem) (others : List Row) (j : ℕ) (clashes : SameClashes P rows i Q others j) (slots : ℕ) where
  -- with the same clashes and the same width the blocker at the last start is the same
  last_same : P.width i ≡ Q.width j → last_blocker P rows i slots ≡ last_blocker Q others j slots
  unfolding last_blocker
  last_same wide = rw (wide, blocker_same P rows i Q others j clashes (slots - Q.width j))

  -- and so is the answer
  beside_same : P.width i ≡ Q.width j → placed_beside P rows i slots ≡ placed_beside Q others j slots
  beside_same wide =
      let low = lowest_same P rows i Q others j clashes in
      let end = end_is P i (lowest P rows i) in
      let end' = end_is Q j (lowest Q others j) in
      by_test (leb (end_of P i (lowest P rows i)) slots)
      (λ t.
      let h : end_of P i (lowest P rows i) ≤ slots = leb-true (end_of P i (lowest P rows i)) slots t in
      rw (
        beside_at P rows i slots h,
        beside_at Q others j slots (omega (arith, low, end, end', wide)),
        below_same P rows i Q others j clashes (lowest P rows i),
        low,
      ))
      (λ f.
      let h : slots < end_of P i (lowest P rows i) = leb-false (end_of P i (lowest P rows i)) slots f in
      rw (
        beside_nowhere P rows i slots h,
        beside_nowhere Q others j slots (omega (arith, low, end, end', wide)),
        last_same wide,
      ))

  module _ (s : ℕ) (b : Option ℕ) (found : s ≡ min (lowest P rows i) ((slots + 1) - Q.width j)) (told : b ≡ blocker_told (theory.blocker_below P rows i s)) where
    -- a scan that ends below the first start that ends above the slots gives the answer
    pub beside_found : s < (slots + 1) - Q.width j → record { spot = Some s; blocker = b } ≡ placed_beside Q others j slots
    beside_found h =
        let low = lowest_same P rows i Q others j clashes in
        let same : s ≡ lowest Q others j = omega (arith, low, found) in
        rw (beside_at Q others j slots (omega (arith, same, end_is Q j (lowest Q others j))), told, below_same P rows i Q others j clashes s, same)

    -- so does one that ends there
    pub beside_missed : (slots + 1) - Q.width j ≤ s → record { spot = None; blocker = b } ≡ placed_beside Q others j slots
    beside_missed h =
        let low = lowest_same P rows i Q others j clashes in
        rw (
          beside_nowhere Q others j slots (omega (arith, low, found, end_is Q j (lowest Q others j))),
          told,
          below_same P rows i Q others j clashes s,
          last_below Q others j slots s (omega arith),
        )

-- a scan that ends below its limit has found a start
pub below_at : (start above : ℕ) → start < above → spot_below start above ≡ Some start
unfolding spot_below
below_at start above h = rw (lt-ltb start above h)

-- one that ends at its limit has found none
pub below_nowhere : (start above : ℕ) → above ≤ start → spot_below start above ≡ None
unfolding spot_below
below_nowhere start above h = rw (le-ltb start above h)

module _ (meets : List Bool) (starts ends : List ℕ) (count width guard slots numbers : ℕ) (past : List ℕ) (span above start : ℕ) (blocker : Option ℕ)
    (many : numbers ≡ min count 200) (known : PastEnds meets starts ends guard numbers past) (wide : span ≡ width + guard)
    (limit : above ≡ (slots + 1) - width)
    (found : start ≡ min (lowest (near_problem past starts span) (number_rows numbers starts) 200) above)
    (told : blocker ≡ blocker_told (theory.blocker_below (near_problem past starts span) (number_rows numbers starts) 200 start)) where
  -- the blocks clash as the numbers do
  numbers_clash : SameClashes (near_problem past starts span) (number_rows numbers starts) 200 (board_problem meets starts ends width guard) (number_rows numbers starts) 200
  numbers_clash = near_clashes meets starts ends guard numbers past known starts (λ j h. refl) (omega arith) width span wide

  -- the scan over blocks ends below the limit: the demand is placed there
  one_found : start < above → record { spot = Some start; blocker = blocker } ≡ placed_one meets starts ends count width guard slots
  unfolding placed_one board_problem
  one_found h =
      beside_found (near_problem past starts span) (number_rows numbers starts) 200
      (board_problem meets starts ends width guard) (number_rows numbers starts) 200 numbers_clash slots start blocker
      (omega (arith, found, limit)) told (omega (arith, limit))
      ∙ ap (λ (n : ℕ). placed_beside (board_problem meets starts ends width guard) (number_rows n starts) 200 slots) many

  -- it ends at the limit: the demand is placed nowhere
  one_missed : above ≤ start → record { spot = None; blocker = blocker } ≡ placed_one meets starts ends count width guard slots
  unfolding placed_one board_problem
  one_missed h =
      beside_missed (near_problem past starts span) (number_rows numbers starts) 200
      (board_problem meets starts ends width guard) (number_rows numbers starts) 200 numbers_clash slots start blocker
      (omega (arith, found, limit)) told (omega (arith, limit))
      ∙ ap (λ (n : ℕ). placed_beside (board_problem meets starts ends width guard) (number_rows n starts) 200 slots) many

  -- so the answer is what the scan has found, with the blocker below it
  pub one_placed : record { spot = spot_below start above; blocker = blocker } ≡ placed_one meets starts ends count width guard slots
  one_placed =
      by_test (ltb start above)
      (λ t.
      let h : start < above = ltb-true start above t in
      rw (below_at start above h) (one_found h))
      (λ f.
      let h : above ≤ start = ltb-false start above f in
      rw (below_nowhere start above h) (one_missed h))

module _ (meets : List Bool) (starts ends : List ℕ) (count width guard slots numbers : ℕ) (past : List ℕ) (span above start : ℕ)
    (many : numbers ≡ min count 200) (known : PastEnds meets starts ends guard numbers past) (wide : span ≡ width + guard)
    (limit : above ≡ (slots + 1) - width)
    (found : start ≡ min (lowest (near_problem past starts span) (number_rows numbers starts) 200) above) where
  -- where the demand starts is known without the blocker
  pub spot_placed : spot_below start above ≡ (placed_one meets starts ends count width guard slots).spot
  spot_placed =
      ap (λ (p : Placement). p.spot)
      (one_placed meets starts ends count width guard slots numbers past span above start
      (blocker_told (theory.blocker_below (near_problem past starts span) (number_rows numbers starts) 200 start))
      many known wide limit found refl)

-- the same of a scan over the front of the starts alone
module _ (meets : List Bool) (starts ends : List ℕ) (count width guard slots : ℕ) (past front : List ℕ) (span above start : ℕ) (long : length starts ≡ 200)
    (known : PastEnds meets starts ends guard (min count 200) past) (cut : front ≡ take (min count 200) starts) (wide : span ≡ width + guard)
    (limit : above ≡ (slots + 1) - width)
    (found : start ≡ min (lowest (near_problem past front span) (number_rows (length front) front) 200) above) where
  -- as many blocks as numbers
  many : length front ≡ min count 200
  many = rw cut (length-take-le (min count 200) starts (omega (arith, long)))

  -- the blocks clash as the numbers do
  clashes : SameClashes (near_problem past front span) (number_rows (length front) front) 200
      (board_problem meets starts ends width guard) (number_rows (min count 200) starts) 200
  clashes =
      rw many
      (near_clashes meets starts ends guard (min count 200) past known front
      (λ j h. rw cut (get_or-take (min count 200) starts j 0 h)) (omega arith) width span wide)

  module _ (blocker : Option ℕ) (told : blocker ≡ blocker_told (theory.blocker_below (near_problem past front span) (number_rows (length front) front) 200 start)) where
    -- the answer is what the scan has found, with the blocker below it: the demand is placed where the scan ends below the limit
    pub front_placed : record { spot = spot_below start above; blocker = blocker } ≡ placed_one meets starts ends count width guard slots
    unfolding placed_one board_problem
    front_placed =
        by_test (ltb start above)
        (λ t.
        let h : start < above = ltb-true start above t in
        rw (below_at start above h)
        (beside_found (near_problem past front span) (number_rows (length front) front) 200
        (board_problem meets starts ends width guard) (number_rows (min count 200) starts) 200 clashes slots start blocker
        (omega (arith, found, limit)) told (omega (arith, limit))))
        (λ f.
        let h : above ≤ start = ltb-false start above f in
        rw (below_nowhere start above h)
        (beside_missed (near_problem past front span) (number_rows (length front) front) 200
        (board_problem meets starts ends width guard) (number_rows (min count 200) starts) 200 clashes slots start blocker
        (omega (arith, found, limit)) told (omega (arith, limit))))

  -- where the demand starts is known without the blocker
  pub front_spot : spot_below start above ≡ (placed_one meets starts ends count width guard slots).spot
  front_spot =
      ap (λ (p : Placement). p.spot)
      (front_placed (blocker_told (theory.blocker_below (near_problem past front span) (number_rows (length front) front) 200 start)) refl)

-- a caller with a problem of his own, in which the same numbers clash, gets his own answer
pub place_one_same : (P : Problem) (rows : List Row) (i : ℕ) (meets : List Bool) (starts ends : List ℕ) (count width guard slots : ℕ) →
    P.width i ≡ width →
    SameClashes P rows i (board_problem meets starts ends width guard) (number_rows (min count 200) starts) 200 →
    placed_one meets starts ends count width guard slots ≡ placed_beside P rows i slots
unfolding placed_one board_problem
place_one_same P rows i meets starts ends count width guard slots wide clashes =
    sym (beside_same P rows i (board_problem meets starts ends width guard) (number_rows (min count 200) starts) 200 clashes slots wide)

-- two results of the call that places one demand are equal
pub same_place_one : (meets : List Bool) (starts ends : List ℕ) (count width guard slots : ℕ) (a b : Placement) →
    a ≡ placed_one meets starts ends count width guard slots → b ≡ placed_one meets starts ends count width guard slots → a ≡ b
same_place_one meets starts ends count width guard slots a b ha hb = ha ∙ sym hb

-- two results of the call for its spot alone are equal
pub same_lowest_spot : (meets : List Bool) (starts ends : List ℕ) (count width guard slots : ℕ) (a b : Option ℕ) →
    a ≡ (placed_one meets starts ends count width guard slots).spot → b ≡ (placed_one meets starts ends count width guard slots).spot → a ≡ b
same_lowest_spot meets starts ends count width guard slots a b ha hb = ha ∙ sym hb

-- two results of the call for a blocker's entry are equal
pub same_entry : (blocker : Option ℕ) (a b : ℕ) → a ≡ entry_of blocker → b ≡ entry_of blocker → a ≡ b
same_entry blocker a b ha hb = ha ∙ sym hb
