-- What is printed for a request file.
use Rattle.std.specs.Prelude.{ℕ, List, [], ◌∷◌, ◌++◌, replicate, Result, Ok, Err}
use Rattle.refusal.specs.declared.Refusal.{Refusal}
use Rattle.request.specs.declared.Request.{Request}
use Rattle.refusal.specs.Refusal.{number_of, place_of}
use Rattle.request.specs.View.{View, view}
use Rattle.reading.specs.Reading.{read_file}
use Rattle.reading.specs.FilePacking.{pack_reading}
use Rattle.search.specs.declared.Outcome.{Outcome}
use Rattle.search.specs.declared.Outcome.TheVariants.{Finished, NothingFits, Unfinished, UnfinishedEmpty}
use Rattle.search.specs.declared.Answer.{Answer}
use Rattle.search.specs.Reply.{Buffers, buffers_of, outcome_end, search_reply, buffers_after}
use Rattle.report.specs.Lines.{finished_word, nofit_word, unfinished_word, answer_line, refused_line}
use Rattle.report.specs.Rows.{rows}

-- a refusal: its number and its place
unfoldable pub refusal_text : Refusal → List ℕ
refusal_text why = refused_line (number_of why) (place_of why)

-- the first word of an answer
unfoldable pub word_of : Outcome → List ℕ
word_of (Finished e) = finished_word
word_of NothingFits = nofit_word
word_of (Unfinished e) = unfinished_word
word_of UnfinishedEmpty = unfinished_word

-- the first line of an answer
unfoldable pub answer_text : Answer → List ℕ
answer_text a =
    answer_line (word_of a.outcome) (outcome_end a.outcome) a.bound a.steps a.reached a.ruled

-- the rows of an outcome: none without a plan
unfoldable pub plan_text : Outcome → List ℕ → List ℕ
plan_text (Finished e) plan = plan
plan_text NothingFits plan = []
plan_text (Unfinished e) plan = plan
plan_text UnfinishedEmpty plan = []

-- a reply: the refusal, or the answer's line and the rows of its plan
unfoldable pub reply_text : View → List ℕ → Result Answer Refusal → List ℕ
reply_text v starts (Err why) = refusal_text why
reply_text v starts (Ok a) = answer_text a ++ plan_text a.outcome (rows v.band v.demands starts)

-- the buffers that the program lends to the search: twenty zeros each
unfoldable pub twenty_zeros : Buffers
twenty_zeros = buffers_of (replicate 20 0) (replicate 20 0) (replicate 20 0)

-- a request: the reply to its search with a limit of 1,000,000 steps
unfoldable pub request_text : View → List ℕ
request_text v = reply_text v (buffers_after v 1000000 twenty_zeros).starts (search_reply v 1000000 (20 ∷ 20 ∷ 20 ∷ []))

-- what was read: the refusal, or the request's text
unfoldable pub read_text : Result Request Refusal → List ℕ
read_text (Err why) = refusal_text why
read_text (Ok request) = request_text (view request)

-- a file: it is read, and the request is searched
unfoldable pub report_text : List ℕ → List ℕ
report_text file = read_text (pack_reading (read_file file))
