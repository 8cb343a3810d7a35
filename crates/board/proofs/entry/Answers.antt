use Rattle.std.specs.Prelude.{◌≡◌, ℕ, Option, Some, None, unwrap_or}
use Rattle.std.proofs.Common.{refl, ◌∙◌}
use Rattle.board.specs.Board.{entry_of}
use Rattle.board.proofs.entry.Goals as goal

told : (blocker : Option ℕ) → unwrap_or blocker 65535 ≡ entry_of blocker
unfolding entry_of
told None = refl
told (Some number) = refl

pub returns : goal.returns
returns c = c.unwrap_or.ensures ∙ told c.args.blocker
