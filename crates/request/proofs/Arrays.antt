-- Owning a request tells that its arrays have their lengths and its idents 16 bits; owning bytes, that each is below 256.
use Prim.Native.Nat.{ℕ, zero, suc, ◌<◌}
use mathlib.Core.List.{List, [], ◌∷◌}
use mathlib.Core.Path.{◌≡◌}
use native.Mathlib.Omega.{arith}
use lib.ListN.{length, get_or}
use mir.Syntax.{w8}
use mir.Val.{Val}
use denote.Laws.{Is}
use denote.Shadow.{shadow}
use denote.Plain.{UInt}
use denote.Array.{each}
use borrow.Author.Rules.{rules, elem_Fits}
use Rattle.request.specs.declared.Demand.{Demand}
use Rattle.request.specs.declared.Request.{Request}
use Rattle.request.specs.Whole.{Whole}
use Rattle.request.specs.View.{view_demand, view, no_entry}
use Rattle.request.proofs.ViewLaws.{mapped_length, demand_shown, demands_shown}
use Rattle.request.specs.RoundTrip.{Bytes, Idents16}
use Rattle.request.specs.contracts.Demand as demand
use Rattle.request.specs.contracts.Request as request

-- each demand of an array has room for 32 links
each_room : (ds : List Demand) (us : List Val) →
    shadow (each (demand.the_row).Denot (demand.the_row).own_val ds us) →
    (k : ℕ) → k < length ds → length (get_or ds k no_entry).links ≡ 32
each_room [] us good k h = absurd (omega arith)
each_room (d ∷ ds) [] good k h = absurd good
each_room (d ∷ ds) (u ∷ us) good zero h = let here = good.0 in search rules
each_room (d ∷ ds) (u ∷ us) good (suc k) h = each_room ds us good.1 k (omega arith)

-- a request that is owned is whole
pub whole : (r : Request) (vs : List Val) → Is request.the_row r vs → Whole r
whole r vs good =
    let demands = good.1.1.1.1.1.1.0 in
    let all : ◌≡◌ {A = ℕ} (length r.demands) 200 = search (mapped_length, rules) in
    record {
      all_links = search (mapped_length, rules);
      all_demands = all;
      all_hops = λ (k : ℕ) (h : k < 200). each_room r.demands demands.0 demands.1.1 k (omega arith);
    }

-- each demand of an array has an ident of 16 bits
each_ident : (ds : List Demand) (us : List Val) →
    shadow (each (demand.the_row).Denot (demand.the_row).own_val ds us) →
    (k : ℕ) → (get_or ds k no_entry).ident < 65536
each_ident [] us good k = omega arith
each_ident (d ∷ ds) [] good k = absurd good
each_ident (d ∷ ds) (u ∷ us) good zero = let here = good.0 in search rules
each_ident (d ∷ ds) (u ∷ us) good (suc k) = each_ident ds us good.1 k

-- a request that is owned has idents of 16 bits
pub idents16 : (r : Request) (vs : List Val) → Is request.the_row r vs → Idents16 (view r)
unfolding view_demand
idents16 r vs good =
    let demands = good.1.1.1.1.1.1.0 in
    record {
      each = λ (k : ℕ) (h : k < length (view r).demands).
          rw (demand_shown r k (omega (arith, demands_shown r))) (each_ident r.demands demands.0 demands.1.1 k);
    }

-- a list that is owned as bytes is of bytes
pub bytes : (s : List ℕ) (us : List Val) → shadow (each ℕ (UInt w8).own_val s us) → Bytes s
bytes s us good = record { each = λ (at : ℕ). (elem_Fits w8 w8 s us at good tt).fits }
