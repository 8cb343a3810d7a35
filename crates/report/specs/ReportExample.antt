-- The request R of 43 bytes, and the four lines that are printed for it.
use Rattle.std.specs.Prelude.{ℕ, List, [], ◌∷◌, ◌++◌, ◌≡◌, refl}
use Rattle.theory.specs.Search as theory
use Rattle.theory.specs.Orders.{listing}
use Rattle.theory.specs.Problem as problem
use Rattle.grid.specs.Grid.{frequency_reply}
use Rattle.request.specs.View.{view, asked_width, width_of}
use Rattle.reading.specs.Reading.{read_file}
use Rattle.reading.specs.FilePacking.{pack_reading}
use Rattle.request.specs.Sharing.{problem_of}
use Rattle.meeting.specs.Bound.{bound_of}
use Rattle.search.specs.Reply.{outcome_end, search_reply, buffers_after}
use Rattle.report.specs.Text.{decimal, decimal_signed}
use Rattle.report.specs.Lines.{finished_word, end_name, bound_name, steps_name, reached_name, ruled_name, space, newline, named, named_signed, answer_line, row_line}
use Rattle.report.specs.Rows.{centred_row, demand_row, rows}
use Rattle.report.specs.Report.{word_of, answer_text, plan_text, reply_text, twenty_zeros, request_text, read_text, report_text}

-- the file of R
abbrev R : List ℕ
R =
    1 ∷ 0 ∷ 5 ∷ 254 ∷ 228 ∷ 1 ∷ 128 ∷ 0 ∷ 2 ∷ 0 ∷ 2 ∷ 0 ∷ 1 ∷ 2 ∷ 0 ∷ 2 ∷ 1 ∷ 2 ∷ 3 ∷ 0 ∷ 5 ∷ 0 ∷ 10 ∷ 0 ∷
    2 ∷ 0 ∷ 3 ∷ 0 ∷ 6 ∷ 0 ∷ 20 ∷ 0 ∷ 1 ∷ 0 ∷ 1 ∷ 3 ∷ 0 ∷ 5 ∷ 0 ∷ 30 ∷ 0 ∷ 3 ∷ 1 ∷ []

-- finished end 4 bound 4 steps 5 reached 2 ruled 0
abbrev first : List ℕ
first =
    102 ∷ 105 ∷ 110 ∷ 105 ∷ 115 ∷ 104 ∷ 101 ∷ 100 ∷ 32 ∷ 101 ∷ 110 ∷ 100 ∷ 32 ∷ 52 ∷ 32 ∷ 98 ∷ 111 ∷ 117 ∷ 110 ∷ 100 ∷ 32 ∷ 52 ∷ 32 ∷ 115 ∷
    116 ∷ 101 ∷ 112 ∷ 115 ∷ 32 ∷ 53 ∷ 32 ∷ 114 ∷ 101 ∷ 97 ∷ 99 ∷ 104 ∷ 101 ∷ 100 ∷ 32 ∷ 50 ∷ 32 ∷ 114 ∷ 117 ∷ 108 ∷ 101 ∷ 100 ∷ 32 ∷ 48 ∷
    10 ∷ []

-- 10 0 2 -282 191337500
abbrev second : List ℕ
second = 49 ∷ 48 ∷ 32 ∷ 48 ∷ 32 ∷ 50 ∷ 32 ∷ 45 ∷ 50 ∷ 56 ∷ 50 ∷ 32 ∷ 49 ∷ 57 ∷ 49 ∷ 51 ∷ 51 ∷ 55 ∷ 53 ∷ 48 ∷ 48 ∷ 10 ∷ []

-- 20 3 4 -277 191368750
abbrev third : List ℕ
third = 50 ∷ 48 ∷ 32 ∷ 51 ∷ 32 ∷ 52 ∷ 32 ∷ 45 ∷ 50 ∷ 55 ∷ 55 ∷ 32 ∷ 49 ∷ 57 ∷ 49 ∷ 51 ∷ 54 ∷ 56 ∷ 55 ∷ 53 ∷ 48 ∷ 10 ∷ []

-- 30 0 3 -281 191343750
abbrev fourth : List ℕ
fourth = 51 ∷ 48 ∷ 32 ∷ 48 ∷ 32 ∷ 51 ∷ 32 ∷ 45 ∷ 50 ∷ 56 ∷ 49 ∷ 32 ∷ 49 ∷ 57 ∷ 49 ∷ 51 ∷ 52 ∷ 51 ∷ 55 ∷ 53 ∷ 48 ∷ 10 ∷ []

-- what is printed for R, to the byte
pub r_printed : report_text R ≡ first ++ (second ++ (third ++ fourth))
unfolding report_text read_text width_of asked_width request_text reply_text twenty_zeros answer_text word_of outcome_end plan_text rows demand_row centred_row answer_line row_line named named_signed decimal decimal_signed finished_word end_name bound_name steps_name reached_name ruled_name space newline read_file pack_reading view search_reply buffers_after frequency_reply theory.search bound_of listing problem.top problem.place problem.lowest problem.past problem_of problem.fits problem.start_in
r_printed = refl
