-- A file that grows in a lent buffer.
use Rattle.std.specs.Prelude.{ℕ, ◌+◌, List, ◌≡◌, length}
use Rattle.std.proofs.lemmas.List.Edits.{sets}
use Rattle.writing.specs.declared.File.{File}

-- the same buffer with some bytes more, behind those that were written before
pub record Puts (before after : File) (bytes : List ℕ) : Type 0 where
  pub buffer : after.out.ghost_name ≡ before.out.ghost_name
  pub grown : after.at ≡ before.at + length bytes
  pub kept : length after.out.now ≡ length before.out.now
  pub stored : after.out.now ≡ sets before.out.now before.at bytes
