-- Bytes put behind those that a buffer already holds.
use Rattle.std.specs.Prelude.{ℕ, refl, List, [], ◌++◌}
use Rattle.std.proofs.Common.{ap, ◌∙◌, arith, length-append}
use Rattle.std.proofs.lemmas.List.Edits.{sets}
use Rattle.lent.specs.LentLaws.{sets_then}
use Rattle.writing.specs.declared.File.{File}
use Rattle.writing.specs.inner.Puts.{Puts}

-- nothing is put
pub puts_none : (file : File) → Puts file file []
puts_none file = record { buffer = refl; grown = omega arith; kept = refl; stored = refl }

-- what is put behind something else
pub puts_then : (one two three : File) (xs ys : List ℕ) → Puts one two xs → Puts two three ys → Puts one three (xs ++ ys)
puts_then one two three xs ys p q =
    record {
      buffer = q.buffer ∙ p.buffer;
      grown = omega (arith, p.grown, q.grown, length-append xs ys);
      kept = q.kept ∙ p.kept;
      stored = q.stored ∙ ap (λ (o : List ℕ). sets o two.at ys) p.stored ∙ sets_then one.out.now one.at xs ys two.at p.grown;
    }
