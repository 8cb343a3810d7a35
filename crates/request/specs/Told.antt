-- What the answers about a request say, by the numbers of the rules.
use Rattle.refusal.specs.declared.Refusal.{Refusal}
use Rattle.std.specs.Prelude.{ℕ, [], ◌∷◌, Result, Ok, Err}
use Rattle.refusal.specs.Told.{Told, refusal_told}

-- a test that is passed: nothing but 0
unfoldable pub checked_told : Result Unit Refusal → Told ℕ
checked_told (Ok _) = (0, [])
checked_told (Err why) = refusal_told why

-- a file that is written: how many bytes it has
unfoldable pub written_told : Result ℕ Refusal → Told ℕ
written_told (Ok bytes) = (0, bytes ∷ [])
written_told (Err why) = refusal_told why
