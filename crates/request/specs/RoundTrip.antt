-- Requests and files, there and back: what the promises speak of.
use Rattle.std.specs.Prelude.{ℕ, ◌<◌, List, ◌≡◌, length, get_or, Ok}
use Rattle.request.specs.View.{View, demand_at}
use Rattle.request.specs.Check.{check}
use Rattle.request.specs.Whole.{Counted}
use Rattle.request.specs.Encoding.{encode}

-- a file is of bytes: every file is
pub record Bytes (s : List ℕ) : Type 0 where
  pub each : (at : ℕ) → get_or s at 0 < 256

-- each ident has 16 bits: every request's has. Of all other numbers in a sound request's file the rules say that they fit.
pub record Idents16 (v : View) : Type 0 where
  pub each : (k : ℕ) → k < length v.demands → (demand_at v.demands k).ident < 65536

-- what an accepted file is: the encoding of a sound request whose lists are as long as it says
pub record Accepted (s : List ℕ) (v : View) : Type 0 where
  pub encoded : s ≡ encode v
  pub sound : check v ≡ Ok tt
  pub counted : Counted v
  pub idents : Idents16 v
