-- The table of the worked set: each call, and what it says.
use Rattle.std.specs.Prelude.{ℕ, List, [], ◌∷◌, pos, negsuc}
use Rattle.worked.specs.Requests.{band_of, R, booked, T, around, two_on_one_link, file_r, file_booked, file_ring}
use Rattle.worked.specs.Calls.{Call, first_fit, bound, search, check_starts, to_frequency, from_frequency, read_request, Said, says, says±, reads}

-- a call and its answer
pub record Case : Type 0 where
  pub call : Call
  pub said : Said

-- a line of the table
abbrev pub ◌gives◌ : Call → Said → Case
call gives said = record { call = call; said = said }

infix 20 ◌gives◌
-- a line of values alone
abbrev pub ◌answers◌ : Call → List ℕ → Case
call answers values = call gives says (0, values) []

infix 20 ◌answers◌
-- a line of a refusal: its number and its place
abbrev pub ◌refuses◌at◌ : Call → ℕ → ℕ → Case
call refuses number at place = call gives says (number, place ∷ []) []

infix 20 ◌refuses◌at◌
-- no blocker
abbrev none : ℕ
none = 65535

-- all lines, c1 to c12, behind c4 a 13 with its blocker, behind c12 R booked by rate, and last routes that meet a node twice. Of a search the values are the outcome's number (1 finished, 2 nothing fits, 3 unfinished), the end, the bound, the
-- steps, the orders reached and ruled out; of a block's frequency n, m and MHz; of a block its start and its width.
abbrev pub table : List Case
table =
    -- c1: R in listing order
    (first_fit (R 384 0) (0 ∷ 1 ∷ 2 ∷ []) gives says (0, 6 ∷ []) ((0 ∷ 2 ∷ 3 ∷ 7 ∷ []) ∷ (none ∷ 0 ∷ 1 ∷ 7 ∷ []) ∷ []))
    ∷ (bound (R 384 0) answers (4 ∷ []))
    -- c2: R searched, limit 5
    ∷ (search (R 384 0) 5 gives says (0, 1 ∷ 4 ∷ 4 ∷ 5 ∷ 2 ∷ 0 ∷ []) ((0 ∷ 3 ∷ 0 ∷ 7 ∷ []) ∷ (0 ∷ 2 ∷ 1 ∷ 7 ∷ []) ∷ (none ∷ 2 ∷ none ∷ 7 ∷ []) ∷ []))
    -- c3: one step less
    ∷ (search (R 384 0) 4 gives says (0, 3 ∷ 6 ∷ 4 ∷ 4 ∷ 1 ∷ 0 ∷ []) ((0 ∷ 2 ∷ 3 ∷ 7 ∷ []) ∷ (0 ∷ 1 ∷ 2 ∷ 7 ∷ []) ∷ (none ∷ 0 ∷ 1 ∷ 7 ∷ []) ∷ []))
    -- c4: R in a band of 3 slots
    ∷ (search (R 3 0) 1000000 gives says (0, 2 ∷ 0 ∷ 4 ∷ 0 ∷ 0 ∷ 6 ∷ []) ((7 ∷ 7 ∷ 7 ∷ 7 ∷ []) ∷ (7 ∷ 7 ∷ 7 ∷ 7 ∷ []) ∷ (7 ∷ 7 ∷ 7 ∷ 7 ∷ []) ∷ []))
    -- R in a band of 3 slots by first fit: demand 2 is as wide as the band, and demand 1 stands in its way at slot 0
    ∷ (first_fit (R 3 0) (0 ∷ 1 ∷ 2 ∷ []) gives says (13, 2 ∷ 1 ∷ []) ((7 ∷ 7 ∷ 7 ∷ 7 ∷ []) ∷ (7 ∷ 7 ∷ 7 ∷ 7 ∷ []) ∷ []))
    -- c5: R with guard 1
    ∷ (bound (R 384 1) answers (5 ∷ []))
    ∷ (first_fit (R 384 1) (0 ∷ 1 ∷ 2 ∷ []) gives says (0, 8 ∷ []) ((0 ∷ 3 ∷ 5 ∷ 7 ∷ []) ∷ (none ∷ 0 ∷ 1 ∷ 7 ∷ []) ∷ []))
    ∷ (search (R 384 1) 1000000 gives says (0, 1 ∷ 5 ∷ 5 ∷ 5 ∷ 2 ∷ 0 ∷ []) ((0 ∷ 4 ∷ 0 ∷ 7 ∷ []) ∷ (0 ∷ 2 ∷ 1 ∷ 7 ∷ []) ∷ (none ∷ 2 ∷ none ∷ 7 ∷ []) ∷ []))
    -- c6: T, whose bound cannot be reached
    ∷ (bound (T 384) answers (2 ∷ []))
    ∷ (search (T 384) 15 gives says (0, 1 ∷ 3 ∷ 2 ∷ 15 ∷ 6 ∷ 0 ∷ []) ((0 ∷ 1 ∷ 2 ∷ 7 ∷ []) ∷ (0 ∷ 1 ∷ 2 ∷ 7 ∷ []) ∷ (none ∷ 0 ∷ 1 ∷ 7 ∷ []) ∷ []))
    ∷ (search (T 384) 14 gives says (0, 3 ∷ 3 ∷ 2 ∷ 14 ∷ 5 ∷ 0 ∷ []) ((0 ∷ 1 ∷ 2 ∷ 7 ∷ []) ∷ (0 ∷ 1 ∷ 2 ∷ 7 ∷ []) ∷ (none ∷ 0 ∷ 1 ∷ 7 ∷ []) ∷ []))
    -- c7: T in a band of 2 slots
    ∷ (search (T 2) 1000000 gives says (0, 2 ∷ 0 ∷ 2 ∷ 15 ∷ 6 ∷ 0 ∷ []) ((7 ∷ 7 ∷ 7 ∷ 7 ∷ []) ∷ (7 ∷ 7 ∷ 7 ∷ 7 ∷ []) ∷ (7 ∷ 7 ∷ 7 ∷ 7 ∷ []) ∷ []))
    -- c8: R's last demand put on its second
    ∷ (check_starts (R 384 0) (0 ∷ 2 ∷ 2 ∷ []) refuses 18 at 2)
    -- c9: guard 1, width 2 at slot 0: start 2 clashes, start 3 does not
    ∷ (check_starts two_on_one_link (0 ∷ 2 ∷ []) refuses 18 at 1)
    ∷ (check_starts two_on_one_link (0 ∷ 3 ∷ []) answers (7 ∷ []))
    -- c10: blocks and their grid numbers
    ∷ (to_frequency (band_of 384 0) 0 2 gives says± (0, negsuc 281 ∷ pos 2 ∷ pos 191337500 ∷ []))
    ∷ (to_frequency (band_of 384 0) 141 2 gives says± (0, pos 0 ∷ pos 2 ∷ pos 193100000 ∷ []))
    ∷ (to_frequency (band_of 384 0) 383 1 gives says± (0, pos 483 ∷ pos 1 ∷ pos 196118750 ∷ []))
    -- c11: and back
    ∷ (from_frequency (band_of 384 0) (negsuc 281) 2 answers (0 ∷ 2 ∷ []))
    ∷ (from_frequency (band_of 384 0) (negsuc 282) 2 refuses 19 at 0)
    ∷ (from_frequency (band_of 384 0) (negsuc 280) 2 refuses 19 at 0)
    -- c12: the empty file; and R's own file, read and written again
    ∷ (read_request [] refuses 2 at 0)
    ∷ (read_request file_r gives reads (R 384 0) file_r)
    -- R booked by rate: the same plan, another file; and a rate that is not in the table
    ∷ (search (booked 100) 5 gives says (0, 1 ∷ 4 ∷ 4 ∷ 5 ∷ 2 ∷ 0 ∷ []) ((0 ∷ 3 ∷ 0 ∷ 7 ∷ []) ∷ (0 ∷ 2 ∷ 1 ∷ 7 ∷ []) ∷ (none ∷ 2 ∷ none ∷ 7 ∷ []) ∷ []))
    ∷ (read_request file_booked gives reads (booked 100) file_booked)
    ∷ (bound (booked 0) refuses 21 at 0)
    -- a route from node 0 over 1 to 2; on to 0, where it began; from 1 straight back; and on from 0 to 3. The ring once more, in a file
    ∷ (bound (around 2 (0 ∷ 1 ∷ [])) answers (2 ∷ []))
    ∷ (bound (around 3 (0 ∷ 1 ∷ 2 ∷ [])) refuses 7 at 1)
    ∷ (bound (around 2 (0 ∷ 3 ∷ [])) refuses 7 at 1)
    ∷ (bound (around 4 (0 ∷ 1 ∷ 2 ∷ 4 ∷ [])) refuses 7 at 1)
    ∷ (read_request file_ring refuses 7 at 31)
    ∷ []
