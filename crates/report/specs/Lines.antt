-- The printed lines: words and numbers parted by one space, each line ended by a newline.
use Rattle.std.specs.Prelude.{ℕ, List, [], ◌∷◌, ◌++◌, ℤ}
use Rattle.report.specs.Text.{decimal, decimal_signed}

-- ---- the words, each with its letters in the line above

-- "finished"
unfoldable pub finished_word : List ℕ
finished_word = 102 ∷ 105 ∷ 110 ∷ 105 ∷ 115 ∷ 104 ∷ 101 ∷ 100 ∷ []

-- "nofit"
unfoldable pub nofit_word : List ℕ
nofit_word = 110 ∷ 111 ∷ 102 ∷ 105 ∷ 116 ∷ []

-- "unfinished"
unfoldable pub unfinished_word : List ℕ
unfinished_word = 117 ∷ 110 ∷ 102 ∷ 105 ∷ 110 ∷ 105 ∷ 115 ∷ 104 ∷ 101 ∷ 100 ∷ []

-- "refused"
unfoldable pub refused_word : List ℕ
refused_word = 114 ∷ 101 ∷ 102 ∷ 117 ∷ 115 ∷ 101 ∷ 100 ∷ []

-- " end "
unfoldable pub end_name : List ℕ
end_name = 32 ∷ 101 ∷ 110 ∷ 100 ∷ 32 ∷ []

-- " bound "
unfoldable pub bound_name : List ℕ
bound_name = 32 ∷ 98 ∷ 111 ∷ 117 ∷ 110 ∷ 100 ∷ 32 ∷ []

-- " steps "
unfoldable pub steps_name : List ℕ
steps_name = 32 ∷ 115 ∷ 116 ∷ 101 ∷ 112 ∷ 115 ∷ 32 ∷ []

-- " reached "
unfoldable pub reached_name : List ℕ
reached_name = 32 ∷ 114 ∷ 101 ∷ 97 ∷ 99 ∷ 104 ∷ 101 ∷ 100 ∷ 32 ∷ []

-- " ruled "
unfoldable pub ruled_name : List ℕ
ruled_name = 32 ∷ 114 ∷ 117 ∷ 108 ∷ 101 ∷ 100 ∷ 32 ∷ []

-- " "
unfoldable pub space : List ℕ
space = 32 ∷ []

-- the end of a line
unfoldable pub newline : List ℕ
newline = 10 ∷ []

-- ---- the lines

-- a name and its number
unfoldable pub named : List ℕ → ℕ → List ℕ
named name n = name ++ decimal n

-- a name and its signed number
unfoldable pub named_signed : List ℕ → ℤ → List ℕ
named_signed name z = name ++ decimal_signed z

-- the first line of an answer: its word, and its five numbers, each named
unfoldable pub answer_line : List ℕ → ℕ → ℕ → ℕ → ℕ → ℕ → List ℕ
answer_line word end bound steps reached ruled =
    word ++ (named end_name end ++ (named bound_name bound ++ (named steps_name steps
    ++ (named reached_name reached ++ (named ruled_name ruled ++ newline)))))

-- the row of a demand: its ident, its start, its end, its central number and its central frequency in MHz
unfoldable pub row_line : ℕ → ℕ → ℕ → ℤ → ℤ → List ℕ
row_line ident start end n mhz =
    decimal ident ++ (named space start ++ (named space end ++ (named_signed space n ++ (named_signed space mhz ++ newline))))

-- the line of a refusal: its number and its place
unfoldable pub refused_line : ℕ → ℕ → List ℕ
refused_line number place = refused_word ++ (named space number ++ (named space place ++ newline))
