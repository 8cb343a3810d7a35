-- A route told position by position.
use Rattle.std.specs.Prelude.{ℕ, ◌+◌, ◌-◌, ◌≤◌, ◌<◌, List, ◌≢◌, ◌≡◌, length, get_or}
use Rattle.request.specs.declared.Link.{Link}
use Rattle.request.specs.View.{link_at}
use Rattle.request.specs.Check.{nodes_of}

-- what holds of the first n entries of a route: each is one of the listed links, no two are the same, each sets out where the one before
-- it leads to, and no two of the n + 1 nodes are the same
pub record RouteHolds (count : ℕ) (link : ℕ → Link) (route : List ℕ) (n : ℕ) : Type 0 where
  pub each_listed : (p : ℕ) → p < n → get_or route p 0 < count
  pub none_twice : (p q : ℕ) → p < q → q < n → get_or route p 0 ≢ get_or route q 0
  pub no_gap : (p : ℕ) → p + 1 < n → (link (get_or route p 0)).to ≡ (link (get_or route (p + 1) 0)).from
  pub nodes_differ : (p q : ℕ) → p < q → q < n + 1 → get_or (nodes_of link route) p 0 ≢ get_or (nodes_of link route) q 0

-- a walk along a route: its first n entries hold, the last of them has led to a node, and where each of them begins is kept
pub record RouteCome (links : List Link) (route kept : List ℕ) (node n : ℕ) : Type 0 where
  pub within : n ≤ length route
  pub room : length kept ≡ 32
  pub holds : RouteHolds (length links) (link_at links) route n
  pub at_node : 0 < n → node ≡ (link_at links (get_or route (n - 1) 0)).to
  pub keeps : (i : ℕ) → i < n → get_or kept i 0 ≡ (link_at links (get_or route i 0)).from
