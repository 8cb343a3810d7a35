-- The walk from a place in the search's arrays.
use Rattle.std.specs.Prelude.{ℕ, ◌+◌, ◌-◌, List, [], ◌∷◌, ◌++◌, get_or}
use Rattle.theory.specs.Problem.{Problem, place}
use Rattle.theory.specs.Walk.{Tally, siblings, walk}
use Rattle.search.specs.inner.Arrays.{entries, rows_of}

module _ (P : Problem) (limit bound K : ℕ) (order low : List ℕ) (n : ℕ) where
  -- with the first n of the order placed, those from place p on are tried in turn
  unfoldable pub tried_from : ℕ → Tally → Tally
  unfolding entries rows_of
  tried_from p t =
      siblings P limit bound (walk P limit bound (K - (n + 1))) (K - (n + 1))
      (rows_of low order n) (entries order 0 n) (entries order n (p - n)) (entries order p (K - p)) t

  -- with the first n of the order placed, the one at place p is put down, and the walk goes on below it
  unfoldable pub gone_into : ℕ → Tally → Tally
  unfolding entries rows_of
  gone_into p t =
      walk P limit bound (K - (n + 1))
      (place P (rows_of low order n) (get_or order p 0)) (entries order 0 n ++ (get_or order p 0 ∷ []))
      (entries order n (p - n) ++ entries order (p + 1) (K - (p + 1))) t
