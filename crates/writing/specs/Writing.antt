-- Writing a request as a file: the answer, and what the buffer holds afterwards.
use Rattle.refusal.specs.declared.Refusal.{Refusal}
use Rattle.std.specs.Prelude.{ℕ, List, length, Result}
use Rattle.request.specs.View.{View}
use Rattle.request.specs.Check.{check}
use Rattle.request.specs.Encoding.{encode}
use Rattle.lent.specs.Lent.{write_reply, filled}

-- the answer for a request and a buffer
unfoldable pub written : View → List ℕ → Result ℕ Refusal
unfolding check encode write_reply
written v out = write_reply (check v) (length (encode v)) (length out)

-- the buffer afterwards
unfoldable pub out_after : View → List ℕ → List ℕ
unfolding encode written filled
out_after v out = filled (written v out) (encode v) out
