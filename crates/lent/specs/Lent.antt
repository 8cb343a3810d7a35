-- What a lent buffer holds after a call.
use Rattle.refusal.specs.declared.Refusal.{Refusal}
use Rattle.std.specs.Prelude.{ℕ, List, [], ◌∷◌, ◌++◌, length, drop, leb, Result, Ok, Err}
use Rattle.refusal.specs.declared.Refusal.TheVariants.{BufferShort}
use Rattle.request.specs.Check.{then, must}

-- 10 at the need: a buffer has less room than is needed
unfoldable pub check_room : ℕ → ℕ → Result Unit Refusal
unfolding must
check_room need room = must (leb need room) (BufferShort need)

-- 10 for the first of several buffers that has less room than each of them needs
unfoldable pub check_rooms : ℕ → List ℕ → Result Unit Refusal
unfolding then check_room
check_rooms need [] = Ok tt
check_rooms need (room ∷ rooms) = then (check_room need room) (check_rooms need rooms)

-- a buffer whose first entries are these, the rest as it was
unfoldable pub over : List ℕ → List ℕ → List ℕ
over entries buffer = entries ++ drop (length entries) buffer

-- a buffer, or several, after a call: a refusal leaves all as it was
unfoldable pub unless_refused : {A : Type 0} → Result Unit Refusal → A → A → A
unless_refused (Err why) before after = before
unless_refused (Ok _) before after = after

-- the answer of a writer whose tests end so: why it wrote nothing, or how many bytes it wrote
unfoldable pub write_answer : Result Unit Refusal → ℕ → Result ℕ Refusal
write_answer (Err why) bytes = Err why
write_answer (Ok _) bytes = Ok bytes

-- the answer after the other tests: 10 where the file needs more than the room there is; else its length
unfoldable pub write_reply : Result Unit Refusal → ℕ → ℕ → Result ℕ Refusal
unfolding then check_room write_answer
write_reply tested needed room = write_answer (then tested (check_room needed room)) needed

-- a buffer with a file at its front where that was written, and as it was where not
unfoldable pub filled : Result ℕ Refusal → List ℕ → List ℕ → List ℕ
filled (Ok bytes) file out = file ++ drop bytes out
filled (Err why) file out = out
