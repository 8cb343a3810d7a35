-- The orders of a list, in listing order, and how many there are.
use Rattle.std.specs.Prelude.{ℕ, zero, suc, ◌*◌, List, [], ◌∷◌, ◌++◌, map, length}

-- n! by falling number
unfoldable pub factorial : ℕ → ℕ
factorial zero = 1
factorial (suc n) = suc n * factorial n

-- each element of the second list in turn goes first, followed by each order of all the others
unfoldable pub spread : (List ℕ → List (List ℕ)) → List ℕ → List ℕ → List (List ℕ)
spread others before [] = []
spread others before (i ∷ after) =
    map (λ (o : List ℕ). i ∷ o) (others (before ++ after)) ++ spread others (before ++ (i ∷ [])) after

-- all orders of a list of n
unfoldable pub orders_of : ℕ → List ℕ → List (List ℕ)
unfolding spread
orders_of zero todo = [] ∷ []
orders_of (suc n) todo = spread (orders_of n) [] todo

-- all orders of a list, the one with the earlier element at the first difference first
unfoldable pub orders : List ℕ → List (List ℕ)
unfolding orders_of
orders todo = orders_of (length todo) todo

-- n numbers counted up from k
unfoldable pub count_up : ℕ → ℕ → List ℕ
count_up zero k = []
count_up (suc n) k = k ∷ count_up n (suc k)

-- the listing positions of K demands: 0, 1, .. in listing order
unfoldable pub listing : ℕ → List ℕ
unfolding count_up
listing K = count_up K 0
