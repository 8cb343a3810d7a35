-- What sound fields say, and what it is for a field to stand in a file.
use Rattle.std.specs.Prelude.{ℕ, ◌+◌, ◌≤◌, ◌<◌, true, false, List, ◌≡◌, length, drop}
use Rattle.grid.specs.declared.Band.{Band}
use Rattle.grid.specs.Grid.{allowed_width}
use Rattle.request.specs.declared.Link.{Link}
use Rattle.request.specs.View.{DemandView, width_of}
use Rattle.request.specs.Check.{has, sound_route, known_asked}
use Rattle.reading.specs.Reading.{band_in, link_in, demand_tag, demand_in}
use Rattle.fields.specs.inner.Holds.{FieldHolds}

-- what a sound link's field says: it is a whole field of 2 bytes, there is room for the link, and it has two nodes
pub record LinkHolds (s : List ℕ) (at count : ℕ) : Type 0 where
  pub field : FieldHolds s at 2 2 2
  pub room : count < 64
  pub two_nodes : (link_in s at).from ≡ (link_in s at).to → ⊥

-- what a sound new demand says
pub record NewDemandHolds (S : ℕ) (links : List Link) (earlier : List ℕ) (d : DemandView) : Type 0 where
  pub room : length earlier < 200
  pub ident_new : has d.ident earlier ≡ false
  pub asked_known : known_asked d.asked ≡ true
  pub width_allowed : allowed_width S (width_of d) ≡ true
  pub route_sound : sound_route links d.route ≡ true

-- the band's field at the front of a file
pub record BandThere (s : List ℕ) (b : Band) (rest : List ℕ) : Type 0 where
  pub sound_field : FieldHolds s 0 1 5 5
  pub same : band_in s ≡ b
  pub behind : drop 8 s ≡ rest

-- a link's field that stands at an offset: it is sound as a field, the link is read from it, and what follows is behind it
pub record LinkThere (s : List ℕ) (at : ℕ) (l : Link) (rest : List ℕ) : Type 0 where
  pub sound_field : FieldHolds s at 2 2 2
  pub same : link_in s at ≡ l
  pub behind : drop (at + 5) s ≡ rest

-- a demand's field that stands at an offset
pub record DemandThere (s : List ℕ) (at : ℕ) (d : DemandView) (rest : List ℕ) : Type 0 where
  pub sound_field : FieldHolds s at (demand_tag s at) 5 36
  pub same : demand_in s at ≡ d
  pub end_within : at + 7 + d.hops ≤ length s
  pub behind : drop (at + 7 + d.hops) s ≡ rest
