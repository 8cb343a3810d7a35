-- What is printed, case by case.
use Rattle.std.specs.Prelude.{◌⊎◌, ℕ, ◌≤◌, List, [], ◌∷◌, ◌++◌, ◌≡◌, refl, Result, Ok, Err}
use Rattle.std.proofs.Common.{⊎_elim, append-nil, ap, sym, ◌∙◌, arith}
use Rattle.theory.specs.Search as theory
use Rattle.refusal.specs.declared.Refusal.{Refusal}
use Rattle.request.specs.declared.Request.{Request}
use Rattle.request.specs.View.{View, view}
use Rattle.reading.specs.Reading.{read_file}
use Rattle.reading.specs.FilePacking.{pack_reading}
use Rattle.search.specs.declared.Outcome.{Outcome}
use Rattle.search.specs.declared.Outcome.TheVariants.{Finished, NothingFits, Unfinished, UnfinishedEmpty}
use Rattle.search.specs.declared.Answer.{Answer}
use Rattle.search.specs.Reply.{outcome_end, check_search, reply_to, searched, search_reply, buffers_after}
use Rattle.search.specs.ReplyLaws.{passed_searchable}
use Rattle.report.specs.declared.Page.{Page}
use Rattle.report.specs.Text.{appended, page_of}
use Rattle.report.specs.TextLaws.{appended_twice}
use Rattle.report.specs.Lines.{answer_line}
use Rattle.report.specs.Rows.{rows}
use Rattle.report.specs.Report.{refusal_text, word_of, answer_text, plan_text, reply_text, twenty_zeros, request_text, read_text, report_text}

-- ---- the parts

-- an answer of an outcome has its line
pub answer_told_lem : (a : Answer) (outcome : Outcome) → a.outcome ≡ outcome →
    answer_text a ≡ answer_line (word_of outcome) (outcome_end outcome) a.bound a.steps a.reached a.ruled
unfolding answer_text
answer_told_lem a outcome h = ap (λ (o : Outcome). answer_line (word_of o) (outcome_end o) a.bound a.steps a.reached a.ruled) h

-- an outcome with a plan has its rows
pub plan_shown : (outcome : Outcome) (plan : List ℕ) → ((e : ℕ) × (outcome ≡ Finished e)) ⊎ ((e : ℕ) × (outcome ≡ Unfinished e)) →
    plan_text outcome plan ≡ plan
unfolding plan_text
plan_shown outcome plan h =
    ⊎_elim
    (λ (w : (e : ℕ) × (outcome ≡ Finished e)). ap (λ (o : Outcome). plan_text o plan) w.1)
    (λ (w : (e : ℕ) × (outcome ≡ Unfinished e)). ap (λ (o : Outcome). plan_text o plan) w.1)
    h

-- one without a plan has none
pub plan_left_out : (outcome : Outcome) (plan : List ℕ) → (outcome ≡ NothingFits) ⊎ (outcome ≡ UnfinishedEmpty) → plan_text outcome plan ≡ []
unfolding plan_text
plan_left_out outcome plan h =
    ⊎_elim
    (λ (e : outcome ≡ NothingFits). ap (λ (o : Outcome). plan_text o plan) e)
    (λ (e : outcome ≡ UnfinishedEmpty). ap (λ (o : Outcome). plan_text o plan) e)
    h

-- a text behind the text of a page
pub page_behind : {page r : Page} (text more : List ℕ) → page ≡ page_of text → r ≡ appended page more → r ≡ page_of (text ++ more)
unfolding page_of
page_behind text more h e = e ∙ ap (λ (p : Page). appended p more) h ∙ appended_twice _ text more

-- nothing behind the text of a page
pub page_alone : {page : Page} (text : List ℕ) → page ≡ page_of text → page ≡ page_of (text ++ [])
page_alone text h = h ∙ ap page_of (sym (append-nil text))

-- ---- the reply

-- only what passes all checks is answered
answered_sound : (c : Result Unit Refusal) (found : theory.Answer) (a : Answer) → reply_to c found ≡ Ok a → c ≡ Ok tt
unfolding reply_to
answered_sound (Ok _) found a h = refl
answered_sound (Err why) found a h = absurd (let no : ◌≡◌ {A = ℕ} 0 1 = cc in omega arith)

-- an answer is of at most 20 demands
pub answered_few : (v : View) (limit : ℕ) (rooms : List ℕ) (a : Answer) → search_reply v limit rooms ≡ Ok a → v.demand_count ≤ 20
unfolding search_reply
answered_few v limit rooms a h = (passed_searchable v rooms (answered_sound (check_search v rooms) (searched v limit) a h)).few

-- a request that is answered
pub request_answered : {r : Page} (q : Request) (starts : List ℕ) (a : Answer) →
    search_reply (view q) 1000000 (20 ∷ 20 ∷ 20 ∷ []) ≡ Ok a → starts ≡ (buffers_after (view q) 1000000 twenty_zeros).starts →
    r ≡ page_of (answer_text a ++ plan_text a.outcome (rows q.band (view q).demands starts)) → r ≡ page_of (request_text (view q))
unfolding request_text reply_text view
request_answered q starts a answered kept h =
    h ∙ ap (λ (s : List ℕ). page_of (reply_text (view q) s (Ok a))) kept
    ∙ ap (λ (told : Result Answer Refusal). page_of (reply_text (view q) (buffers_after (view q) 1000000 twenty_zeros).starts told)) (sym answered)

-- a request that is refused
pub request_refused_lem : {r : Page} (q : Request) (why : Refusal) →
    search_reply (view q) 1000000 (20 ∷ 20 ∷ 20 ∷ []) ≡ Err why → r ≡ page_of (refusal_text why) → r ≡ page_of (request_text (view q))
unfolding request_text reply_text
request_refused_lem q why refused h =
    h ∙ ap (λ (told : Result Answer Refusal). page_of (reply_text (view q) (buffers_after (view q) 1000000 twenty_zeros).starts told)) (sym refused)

-- ---- the file

-- a file that holds a request
pub file_read : {r : Page} (file : List ℕ) (reading : Result Request Refusal) (request : Request) → reading ≡ pack_reading (read_file file) →
    reading ≡ Ok request → r ≡ page_of (request_text (view request)) → r ≡ page_of (report_text file)
unfolding report_text read_text
file_read file reading request read sound h = h ∙ ap (λ (x : Result Request Refusal). page_of (read_text x)) (sym sound ∙ read)

-- a file that is refused
pub file_refused : {r : Page} (file : List ℕ) (reading : Result Request Refusal) (why : Refusal) → reading ≡ pack_reading (read_file file) → reading ≡ Err why →
    r ≡ page_of (refusal_text why) → r ≡ page_of (report_text file)
unfolding report_text read_text
file_refused file reading why read refused h = h ∙ ap (λ (x : Result Request Refusal). page_of (read_text x)) (sym refused ∙ read)

-- two pages that meet the contract of `report_on` are equal
pub same_report : (file : List ℕ) (p q : Page) → p ≡ page_of (report_text file) → q ≡ page_of (report_text file) → p ≡ q
same_report file p q h k = h ∙ sym k
