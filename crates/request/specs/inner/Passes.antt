-- What a demand must have to pass its test, after the demands before it.
use Rattle.std.specs.Prelude.{ℕ, true, false, List, ◌≡◌}
use Rattle.grid.specs.Grid.{allowed_width}
use Rattle.request.specs.declared.Link.{Link}
use Rattle.request.specs.View.{DemandView, width_of}
use Rattle.request.specs.Check.{has, allowed_hops, sound_route, known_asked}

-- a new ident, a rate in the table if it asks for one, an allowed width, an allowed route length, a sound route
pub record Passes (S : ℕ) (links : List Link) (earlier : List ℕ) (d : DemandView) : Type 0 where
  pub ident_new : has d.ident earlier ≡ false
  pub asked_known : known_asked d.asked ≡ true
  pub width_allowed : allowed_width S (width_of d) ≡ true
  pub hops_allowed : allowed_hops d.hops ≡ true
  pub route_sound : sound_route links d.route ≡ true
