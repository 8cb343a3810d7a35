-- A line is put on a page part by part.
use Rattle.std.specs.Prelude.{ℕ, suc, ◌+◌, ◌^◌, ◌≤◌, ◌<◌, List, ◌≡◌, ℤ, length}
use Rattle.std.proofs.Common.{append_assoc, ap, arith, length-append}
use Rattle.std.specs.Int.Signed.{mag}
use Rattle.report.specs.declared.Page.{Page}
use Rattle.report.specs.Text.{decimal, decimal_signed, empty_page, appended, page_of}
use Rattle.report.specs.TextLaws.{decimal_digits, appended_length, appended_twice}
use Rattle.report.specs.SignedLaws.{signed_digits}
use Rattle.report.specs.Lines.{named, named_signed, end_name, bound_name, steps_name, reached_name, ruled_name, space, newline, refused_word, answer_line, row_line, refused_line}

-- the first line of an answer
pub answer_put : {none p0 p1 p2 p3 p4 p5 r : Page} (word : List ℕ) (end bound steps reached ruled : ℕ) →
    none ≡ empty_page → p0 ≡ appended none word →
    p1 ≡ appended p0 (named end_name end) → p2 ≡ appended p1 (named bound_name bound) → p3 ≡ appended p2 (named steps_name steps) →
    p4 ≡ appended p3 (named reached_name reached) → p5 ≡ appended p4 (named ruled_name ruled) → r ≡ appended p5 newline →
    r ≡ page_of (answer_line word end bound steps reached ruled)
unfolding page_of answer_line
answer_put word end bound steps reached ruled h0 h1 h2 h3 h4 h5 h6 h7 =
    rw (h7, h6, h5, h4, h3, h2, h1, h0) (simp (appended_twice, append_assoc))

-- the line of a refusal
pub refused_put : {none p0 p1 p2 r : Page} (number place : ℕ) →
    none ≡ empty_page → p0 ≡ appended none refused_word →
    p1 ≡ appended p0 (named space number) → p2 ≡ appended p1 (named space place) → r ≡ appended p2 newline →
    r ≡ page_of (refused_line number place)
unfolding page_of refused_line
refused_put number place h0 h1 h2 h3 h4 = rw (h4, h3, h2, h1, h0) (simp (appended_twice, append_assoc))

-- a page with a number more is longer by its digits at most
pub number_room : {p : Page} (page : Page) (more n : ℕ) → n < 10 ^ suc more → p ≡ appended page (decimal n) → p.len ≤ page.len + suc more
number_room page more n h e =
    omega (arith, ap (λ (p : Page). p.len) e, appended_length page (decimal n), decimal_digits more n h)

-- a page with a space and a number more
pub field_room : {p : Page} (page : Page) (more n : ℕ) → n < 10 ^ suc more → p ≡ appended page (named space n) → p.len ≤ page.len + (suc more + 1)
unfolding named space
field_room page more n h e =
    omega (arith, ap (λ (p : Page). p.len) e, appended_length page (named space n), decimal_digits more n h)

-- a page with a space and a signed number more
pub signed_room : {p : Page} (page : Page) (more : ℕ) (z : ℤ) → mag z + 1 < 10 ^ suc more → p ≡ appended page (named_signed space z) → p.len ≤ page.len + (suc more + 2)
unfolding named_signed space
signed_room page more z h e =
    omega (arith, ap (λ (p : Page). p.len) e, appended_length page (named_signed space z), signed_digits more z h)

-- the row of a demand
pub row_put : {p0 p1 p2 p3 p4 r : Page} (page : Page) (ident start end : ℕ) (n mhz : ℤ) →
    p0 ≡ appended page (decimal ident) → p1 ≡ appended p0 (named space start) → p2 ≡ appended p1 (named space end) →
    p3 ≡ appended p2 (named_signed space n) → p4 ≡ appended p3 (named_signed space mhz) → r ≡ appended p4 newline →
    r ≡ appended page (row_line ident start end n mhz)
unfolding row_line
row_put page ident start end n mhz h0 h1 h2 h3 h4 h5 = rw (h5, h4, h3, h2, h1, h0) (simp (appended_twice, append_assoc))

-- how long a row is
row_parts : (ident start end : ℕ) (n mhz : ℤ) → length (row_line ident start end n mhz)
    ≡ length (decimal ident) + length (decimal start) + length (decimal end) + length (decimal_signed n) + length (decimal_signed mhz) + 5
unfolding row_line named named_signed space newline
row_parts ident start end n mhz = simp length-append (omega arith)

-- it is at most 39 bytes long
pub row_length : (ident start end : ℕ) (n mhz : ℤ) → ident < 100000 → start < 100000 → end < 1000000 → mag n < 999999 → mag mhz < 9999999999 →
    length (row_line ident start end n mhz) ≤ 39
row_length ident start end n mhz hi hs he hn hm =
    omega (arith, row_parts ident start end n mhz, decimal_digits 4 ident hi, decimal_digits 4 start hs, decimal_digits 5 end he, signed_digits 5 n (omega arith), signed_digits 9 mhz (omega arith))
