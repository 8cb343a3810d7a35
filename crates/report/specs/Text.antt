-- Text as bytes: numbers in decimal, and a page of text.
use Rattle.std.specs.Prelude.{ℕ, zero, suc, ◌+◌, ◌/◌, ◌%◌, cond, List, [], ◌∷◌, ◌++◌, length, replicate, ℤ, pos, negsuc, ltb}
use Rattle.std.proofs.lemmas.List.Edits.{sets}
use Rattle.report.specs.declared.Page.{Page}

-- the digits of a number, in at most so many divisions by ten
unfoldable pub digits : ℕ → ℕ → List ℕ
digits zero n = (48 + n % 10) ∷ []
digits (suc more) n =
    let front : List ℕ = digits more (n / 10) in
    cond (ltb n 10) ((48 + n % 10) ∷ []) (front ++ ((48 + n % 10) ∷ []))

-- a number in decimal, with no leading zero; it takes fewer divisions than the number is large
unfoldable pub decimal : ℕ → List ℕ
unfolding digits
decimal n = digits n n

-- a signed number in decimal: a minus sign where it is negative
unfoldable pub decimal_signed : ℤ → List ℕ
unfolding decimal
decimal_signed (pos n) = decimal n
decimal_signed (negsuc n) = 45 ∷ decimal (n + 1)

-- the empty page
unfoldable pub empty_page : Page
empty_page = record { bytes = replicate 1024 0; len = 0 }

-- a page with more text behind what it holds
unfoldable pub appended : Page → List ℕ → Page
appended page text = record { bytes = sets page.bytes page.len text; len = page.len + length text }

-- the page that holds a text
unfoldable pub page_of : List ℕ → Page
page_of text = appended empty_page text
