-- The walk over group orders: trying those below a path, one group after the other, and leaving a branch.
use Prim.Native.Nat.{ℕ, zero, suc, ◌+◌, ◌-◌, ◌≤◌, ◌<◌}
use Rattle.std.specs.Prelude.{Bool, ◌≡◌, length, get_or, set, replicate}
use Rattle.std.proofs.Math.Bool.{true, false, cond}
use mathlib.Core.List.{List, [], ◌∷◌, ◌++◌, map, append_assoc, append-nil, map-append}
use Rattle.std.proofs.Math.Path.{refl, sym, ap, ap₂}
use Rattle.std.proofs.Common.{◌∙◌, get_or-set_same, get_or-set_other}
use native.Mathlib.Omega.{arith}
use Rattle.theory.specs.Problem.{Problem, fill, top}
use Rattle.theory.proofs.ProblemLaws.{fill_append, top_fill}
use Rattle.theory.proofs.TestLaws.{by_test}
use Rattle.theory.specs.Orders.{count_up, listing, spread, orders_of}
use Rattle.theory.specs.Groups.{group, members}
use Rattle.theory.proofs.GroupsLaws.{members_append, members_one}
use Rattle.theory.specs.inner.Grouped.{reach, below, unmarked}
use Rattle.theory.specs.inner.Tried.{Lead, ends_at, lead_by, try}
use Rattle.theory.proofs.TriedLaws.{try_append, try_better, try_equalled}

module _ (P : Problem) (K M : ℕ) where
  -- a path and one group more reaches the rows of the path, with the group's members placed over them
  pub reach_more : (path : List ℕ) (g : ℕ) → reach P K M (path ++ (g ∷ [])) ≡ fill P (reach P K M path) (group K M g)
  reach_more path g =
      ap (fill P []) (members_append K M path (g ∷ []))
      ∙ fill_append P [] (members K M path) (members K M (g ∷ []))
      ∙ ap (fill P (reach P K M path)) (members_one K M g)

  -- no order below a path ends lower than the path
  path_ends : (path o : List ℕ) → top P (reach P K M path) ≤ ends_at P (reach P K M) (path ++ o)
  unfolding ends_at
  path_ends path o =
      omega (
        arith,
        top_fill P (reach P K M path) (members K M o),
        ap (top P) (ap (fill P []) (members_append K M path o) ∙ fill_append P [] (members K M path) (members K M o)),
      )

  -- so where the path has come up to the mark, nothing below it takes the lead
  pub branch_left : (path : List ℕ) (os : List (List ℕ)) (l : Lead) → l.mark ≤ top P (reach P K M path) →
      try P (reach P K M) [] (below path os) l ≡ l
  unfolding try
  branch_left path [] l high = refl
  branch_left path (o ∷ os) l high =
      try_equalled P (reach P K M) [] (path ++ o) (below path os) l (omega (arith, path_ends path o)) ∙ branch_left path os l high

  -- a whole order below the mark takes the lead
  pub whole_leads : (path left : List ℕ) (l : Lead) → top P (reach P K M path) < l.mark →
      try P (reach P K M) [] (below path (orders_of 0 left)) l ≡ lead_by P (reach P K M) [] path
  unfolding try orders_of ends_at
  whole_leads path left l low =
      ap (λ (o : List ℕ). try P (reach P K M) [] (o ∷ []) l) (append-nil path) ∙ try_better P (reach P K M) [] path [] l low

-- what stands below a path and then below one group more
below_more : (path : List ℕ) (g : ℕ) (os : List (List ℕ)) → below path (map (λ (o : List ℕ). g ∷ o) os) ≡ below (path ++ (g ∷ [])) os
below_more path g [] = refl
below_more path g (o ∷ os) = ap₂ (λ (x : List ℕ) (xs : List (List ℕ)). x ∷ xs) (sym (append_assoc path (g ∷ []) o)) (below_more path g os)

module _ (P : Problem) (K M : ℕ) where
  -- the siblings from a group on: those below it, then the others
  pub siblings_more : (others : List ℕ → List (List ℕ)) (path before : List ℕ) (g : ℕ) (after : List ℕ) (l : Lead) →
      try P (reach P K M) [] (below path (spread others before (g ∷ after))) l
      ≡ try P (reach P K M) [] (below path (spread others (before ++ (g ∷ [])) after))
      (try P (reach P K M) [] (below (path ++ (g ∷ [])) (others (before ++ after))) l)
  unfolding spread
  siblings_more others path before g after l =
      ap (λ (os : List (List ℕ)). try P (reach P K M) [] os l)
      (map-append (λ (o : List ℕ). path ++ o) (map (λ (o : List ℕ). g ∷ o) own) later
      ∙ ap (λ (os : List (List ℕ)). os ++ below path later) (below_more path g own))
      ∙ try_append P (reach P K M) [] (below (path ++ (g ∷ [])) own) (below path later) l
    where
      own : List (List ℕ)
      own = others (before ++ after)

      later : List (List ℕ)
      later = spread others (before ++ (g ∷ [])) after

  -- behind the last sibling nothing is tried
  pub siblings_none : (others : List ℕ → List (List ℕ)) (path before : List ℕ) (l : Lead) →
      try P (reach P K M) [] (below path (spread others before [])) l ≡ l
  unfolding spread try
  siblings_none others path before l = refl

-- with something to try first, all orders are those of the siblings
pub orders_spread : (n : ℕ) (todo : List ℕ) → orders_of (suc n) todo ≡ spread (orders_of n) [] todo
unfolding orders_of
orders_spread n todo = refl

module _ (marks : List Bool) where
  -- a marked number is passed over
  pub unmarked_passed : (k n : ℕ) → get_or marks k false ≡ true → unmarked marks k (suc n) ≡ unmarked marks (suc k) n
  unfolding unmarked
  unmarked_passed k n e = rw e

  -- one that is not stands first
  pub unmarked_first : (k n : ℕ) → get_or marks k false ≡ false → unmarked marks k (suc n) ≡ k ∷ unmarked marks (suc k) n
  unfolding unmarked
  unmarked_first k n e = rw e

  -- unmarked numbers in two parts
  unmarked_split : (k n m : ℕ) → unmarked marks k n ++ unmarked marks (k + n) m ≡ unmarked marks k (n + m)
  unfolding unmarked
  unmarked_split k zero m = ap₂ (unmarked marks) (let e : k + 0 ≡ k = omega arith in e) (let e : m ≡ 0 + m = omega arith in e)
  unmarked_split k (suc n) m =
      let on : ℕ = k + suc n in
      let rest : unmarked marks (suc k) n ++ unmarked marks on m ≡ unmarked marks (suc k) (n + m)
      = ap (λ (j : ℕ). unmarked marks (suc k) n ++ unmarked marks j m) (let e : on ≡ suc k + n = omega arith in e)
      ∙ unmarked_split (suc k) n m in
      by_test (get_or marks k false)
      (λ t.
      ap (λ (l : List ℕ). l ++ unmarked marks on m) (unmarked_passed k n t)
      ∙ rest
      ∙ sym (unmarked_passed k (n + m) t)
      ∙ ap (unmarked marks k) (let e : suc (n + m) ≡ suc n + m = omega arith in e))
      (λ f.
      ap (λ (l : List ℕ). l ++ unmarked marks on m) (unmarked_first k n f)
      ∙ ap (λ (l : List ℕ). k ∷ l) rest
      ∙ sym (unmarked_first k (n + m) f)
      ∙ ap (unmarked marks k) (let e : suc (n + m) ≡ suc n + m = omega arith in e))

  -- the unmarked numbers below g + 1: those below g, and g unless it is marked
  pub unmarked_up_to : (g : ℕ) → get_or marks g false ≡ true → unmarked marks 0 (g + 1) ≡ unmarked marks 0 g
  unfolding unmarked
  unmarked_up_to g t =
      sym (unmarked_split 0 g 1)
      ∙ ap (λ (j : ℕ). unmarked marks 0 g ++ unmarked marks j 1) (let e : 0 + g ≡ g = omega arith in e)
      ∙ ap (λ (l : List ℕ). unmarked marks 0 g ++ l) (unmarked_passed g 0 t)
      ∙ append-nil (unmarked marks 0 g)

  pub unmarked_with : (g : ℕ) → get_or marks g false ≡ false → unmarked marks 0 (g + 1) ≡ unmarked marks 0 g ++ (g ∷ [])
  unfolding unmarked
  unmarked_with g f =
      sym (unmarked_split 0 g 1)
      ∙ ap (λ (j : ℕ). unmarked marks 0 g ++ unmarked marks j 1) (let e : 0 + g ≡ g = omega arith in e)
      ∙ ap (λ (l : List ℕ). unmarked marks 0 g ++ l) (unmarked_first g 0 f)

module _ (marks : List Bool) (g : ℕ) (room : g < length marks) where
  -- marking a number does not touch those below it, nor those above
  unmarked_lower : (k n : ℕ) → k + n ≤ g → unmarked (set marks g true) k n ≡ unmarked marks k n
  unfolding unmarked
  unmarked_lower k zero h = refl
  unmarked_lower k (suc n) h =
      ap₂ (λ (b : Bool) (l : List ℕ). cond b l (k ∷ l))
      (get_or-set_other marks g k true false (λ e. omega arith))
      (unmarked_lower (suc k) n (omega arith))

  unmarked_higher : (k n : ℕ) → g < k → unmarked (set marks g true) k n ≡ unmarked marks k n
  unfolding unmarked
  unmarked_higher k zero h = refl
  unmarked_higher k (suc n) h =
      ap₂ (λ (b : Bool) (l : List ℕ). cond b l (k ∷ l))
      (get_or-set_other marks g k true false (λ e. omega arith))
      (unmarked_higher (suc k) n (omega arith))

  -- with g marked, what is left below M is what stood before it and what stood after it
  pub unmarked_without : (M : ℕ) → g < M → unmarked (set marks g true) 0 M ≡ unmarked marks 0 g ++ unmarked marks (g + 1) (M - (g + 1))
  unmarked_without M h =
      let n : ℕ = M - (g + 1) in
      let marked : List Bool = set marks g true in
      ap (unmarked marked 0) (let e : M ≡ g + suc n = omega arith in e)
      ∙ sym (unmarked_split marked 0 g (suc n))
      ∙ ap₂ (λ (a b : List ℕ). a ++ b)
      (unmarked_lower 0 g (omega arith))
      (ap (λ (j : ℕ). unmarked marked j (suc n)) (let e : 0 + g ≡ g = omega arith in e)
      ∙ unmarked_passed marked g n (get_or-set_same marks g true false room)
      ∙ unmarked_higher (suc g) n (omega arith)
      ∙ ap (λ (j : ℕ). unmarked marks j n) (let e : suc g ≡ g + 1 = omega arith in e))

-- a list without any mark says no of every number
pub none_marked : (size k : ℕ) → get_or (replicate size false) k false ≡ false
none_marked zero k = refl
none_marked (suc size) zero = refl
none_marked (suc size) (suc k) = none_marked size k

-- where none is marked all are left
unmarked_none : (size k n : ℕ) → unmarked (replicate size false) k n ≡ count_up n k
unfolding unmarked count_up
unmarked_none size k zero = refl
unmarked_none size k (suc n) = ap₂ (λ (b : Bool) (l : List ℕ). cond b l (k ∷ l)) (none_marked size k) (unmarked_none size (suc k) n)

pub unmarked_listing : (size M : ℕ) → unmarked (replicate size false) 0 M ≡ listing M
unfolding listing
unmarked_listing size M = unmarked_none size 0 M
