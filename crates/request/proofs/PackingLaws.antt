-- Laws of lists in arrays.
use Prim.Native.Nat.{ℕ, suc, ◌+◌, ◌-◌, ◌≤◌, ◌<◌}
use Rattle.std.specs.Prelude.{◌≡◌, List, [], ◌∷◌, ◌++◌, get_or, take, drop}
use Rattle.std.proofs.Math.Path.{sym, ap}
use Rattle.std.proofs.Common.{◌∙◌, append_assoc, arith, add-one, length-append, length-drop, length-take-le, take-suc, get_or-drop}
use Rattle.std.proofs.Math.ListN.{length, set, replicate, length-replicate}
use Rattle.std.proofs.Math.Seq.{take-append_seam, set-append_seam}
use Rattle.request.specs.declared.Demand.{Demand}
use Rattle.request.specs.declared.Request.{Request}
use Rattle.request.specs.View.{DemandView, view_demand}
use Rattle.request.specs.Packing.{padded, empty_demand, empty_request, pack_demand}

module _ {A : Type 0} (size : ℕ) (empty : A) where
  -- an array is as long as it is
  pub length_padded : (xs : List A) → length xs ≤ size → length (padded size empty xs) ≡ size
  unfolding padded
  length_padded xs few =
      rw (length-append xs (replicate (size - length xs) empty), length-replicate (size - length xs) empty) (omega arith)

  -- the list is its front
  pub take_padded : (xs : List A) → take (length xs) (padded size empty xs) ≡ xs
  unfolding padded
  take_padded xs = take-append_seam xs (replicate (size - length xs) empty)

  -- storing behind the list makes the list longer by one
  pub set_padded : (xs : List A) (x : A) → length xs < size → set (padded size empty xs) (length xs) x ≡ padded size empty (xs ++ (x ∷ []))
  unfolding padded
  set_padded xs x room =
      let one : size - length xs ≡ suc (size - length (xs ++ (x ∷ []))) = rw (length-append xs (x ∷ [])) (omega arith) in
      ap (λ (n : ℕ). set (xs ++ replicate n empty) (length xs) x) one ∙
      set-append_seam xs empty (replicate (size - length (xs ++ (x ∷ []))) empty) x ∙
      sym (append_assoc xs (x ∷ []) (replicate (size - length (xs ++ (x ∷ []))) empty))

-- a demand packed is seen as it was, where its route is as long as it says
pub view_packed : (d : DemandView) → length d.route ≡ d.hops → view_demand (pack_demand d) ≡ d
unfolding view_demand pack_demand
view_packed d counted =
    ap (λ (route : List ℕ). record { ident = d.ident; asked = d.asked; hops = d.hops; route = route })
    (ap (λ (n : ℕ). take n (padded 32 0 d.route)) (sym counted) ∙ take_padded 32 0 d.route)

-- one byte more of a route
pub route_step : (s : List ℕ) (from i : ℕ) → from + i < length s → i < 32 →
    set (padded 32 0 (take i (drop from s))) i (get_or s (from + i) 0) ≡ padded 32 0 (take (i + 1) (drop from s))
route_step s from i within room =
    let longer : i < length (drop from s) = rw (length-drop from s) (omega arith) in
    let taken : length (take i (drop from s)) ≡ i = length-take-le i (drop from s) (omega arith) in
    ap (λ (n : ℕ). set (padded 32 0 (take i (drop from s))) n (get_or s (from + i) 0)) (sym taken) ∙
    set_padded 32 0 (take i (drop from s)) (get_or s (from + i) 0) (rw taken room) ∙
    ap (padded 32 0)
    (ap (λ (b : ℕ). take i (drop from s) ++ (b ∷ [])) (sym (get_or-drop from s i 0)) ∙
    sym (rw (add-one i) (take-suc (drop from s) i 0 longer)))

-- two empty demands are equal
pub same_empty_demand : (a b : Demand) → a ≡ empty_demand → b ≡ empty_demand → a ≡ b
same_empty_demand a b ha hb = ha ∙ sym hb

-- two empty requests are equal
pub same_empty : (a b : Request) → a ≡ empty_request → b ≡ empty_request → a ≡ b
same_empty a b ha hb = ha ∙ sym hb
