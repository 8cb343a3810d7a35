-- The requests of the worked set.
use Rattle.std.specs.Prelude.{ℕ, List, [], ◌∷◌, negsuc}
use Rattle.grid.specs.declared.Band.{Band}
use Rattle.request.specs.declared.Link.{Link}
use Rattle.request.specs.declared.Asked.TheVariants.{Width, Rate}
use Rattle.request.specs.View.{View}

-- a band with the lower edge -284
abbrev pub band_of : ℕ → ℕ → Band
band_of S G = record { n0 = negsuc 283; slots = S; guard = G }

-- a link from one node to another
abbrev pub link : ℕ → ℕ → Link
link a b = record { from = a; to = b }

-- R: two links in a row, a demand on each and one on both, in a band of S slots with guard G
abbrev pub R : ℕ → ℕ → View
R S G =
    record {
      band = band_of S G;
      link_count = 2;
      links = link 0 1 ∷ link 1 2 ∷ [];
      demand_count = 3;
      demands =
          record { ident = 10; asked = Width 2; hops = 1; route = 0 ∷ [] }
          ∷ record { ident = 20; asked = Width 1; hops = 2; route = 0 ∷ 1 ∷ [] }
          ∷ record { ident = 30; asked = Width 3; hops = 1; route = 1 ∷ [] }
          ∷ [];
    }

-- R with its first demand booked at a rate and its second at 10 Gbit/s; at 100 they take 2 slots and 1, as in R
abbrev pub booked : ℕ → View
booked rate =
    record {
      band = band_of 384 0;
      link_count = 2;
      links = link 0 1 ∷ link 1 2 ∷ [];
      demand_count = 3;
      demands =
          record { ident = 10; asked = Rate rate; hops = 1; route = 0 ∷ [] }
          ∷ record { ident = 20; asked = Rate 10; hops = 2; route = 0 ∷ 1 ∷ [] }
          ∷ record { ident = 30; asked = Width 3; hops = 1; route = 1 ∷ [] }
          ∷ [];
    }

-- T: three links round a triangle, and three demands of width 1, each on two of them
abbrev pub T : ℕ → View
T S =
    record {
      band = band_of S 0;
      link_count = 3;
      links = link 0 1 ∷ link 1 2 ∷ link 2 0 ∷ [];
      demand_count = 3;
      demands =
          record { ident = 1; asked = Width 1; hops = 2; route = 0 ∷ 1 ∷ [] }
          ∷ record { ident = 2; asked = Width 1; hops = 2; route = 1 ∷ 2 ∷ [] }
          ∷ record { ident = 3; asked = Width 1; hops = 2; route = 2 ∷ 0 ∷ [] }
          ∷ [];
    }

-- two demands over links of which three lead round from node 0, one leads back to it and one on from it; the second has this route
abbrev pub around : ℕ → List ℕ → View
around hops route =
    record {
      band = band_of 384 0;
      link_count = 5;
      links = link 0 1 ∷ link 1 2 ∷ link 2 0 ∷ link 1 0 ∷ link 0 3 ∷ [];
      demand_count = 2;
      demands =
          record { ident = 1; asked = Width 1; hops = 1; route = 0 ∷ [] }
          ∷ record { ident = 2; asked = Width 1; hops = hops; route = route }
          ∷ [];
    }

-- two demands with different routes that share link 0, the first of width 2, and guard 1
abbrev pub two_on_one_link : View
two_on_one_link =
    record {
      band = band_of 384 1;
      link_count = 2;
      links = link 0 1 ∷ link 1 2 ∷ [];
      demand_count = 2;
      demands =
          record { ident = 1; asked = Width 2; hops = 1; route = 0 ∷ [] }
          ∷ record { ident = 2; asked = Width 4; hops = 2; route = 0 ∷ 1 ∷ [] }
          ∷ [];
    }

-- R as a file: 43 bytes
abbrev pub file_r : List ℕ
file_r =
    1 ∷ 0 ∷ 5 ∷ 0xFE ∷ 0xE4 ∷ 1 ∷ 0x80 ∷ 0
    ∷ 2 ∷ 0 ∷ 2 ∷ 0 ∷ 1
    ∷ 2 ∷ 0 ∷ 2 ∷ 1 ∷ 2
    ∷ 3 ∷ 0 ∷ 5 ∷ 0 ∷ 10 ∷ 0 ∷ 2 ∷ 0
    ∷ 3 ∷ 0 ∷ 6 ∷ 0 ∷ 20 ∷ 0 ∷ 1 ∷ 0 ∷ 1
    ∷ 3 ∷ 0 ∷ 5 ∷ 0 ∷ 30 ∷ 0 ∷ 3 ∷ 1
    ∷ []

-- and booked by rate, as many bytes
abbrev pub file_booked : List ℕ
file_booked =
    1 ∷ 0 ∷ 5 ∷ 0xFE ∷ 0xE4 ∷ 1 ∷ 0x80 ∷ 0
    ∷ 2 ∷ 0 ∷ 2 ∷ 0 ∷ 1
    ∷ 2 ∷ 0 ∷ 2 ∷ 1 ∷ 2
    ∷ 5 ∷ 0 ∷ 5 ∷ 0 ∷ 10 ∷ 0 ∷ 100 ∷ 0
    ∷ 5 ∷ 0 ∷ 6 ∷ 0 ∷ 20 ∷ 0 ∷ 10 ∷ 0 ∷ 1
    ∷ 3 ∷ 0 ∷ 5 ∷ 0 ∷ 30 ∷ 0 ∷ 3 ∷ 1
    ∷ []

-- three links round a triangle, a demand on the first of them, and behind it, at byte 31, one all the way round
abbrev pub file_ring : List ℕ
file_ring =
    1 ∷ 0 ∷ 5 ∷ 0xFE ∷ 0xE4 ∷ 1 ∷ 0x80 ∷ 0
    ∷ 2 ∷ 0 ∷ 2 ∷ 0 ∷ 1
    ∷ 2 ∷ 0 ∷ 2 ∷ 1 ∷ 2
    ∷ 2 ∷ 0 ∷ 2 ∷ 2 ∷ 0
    ∷ 3 ∷ 0 ∷ 5 ∷ 0 ∷ 1 ∷ 0 ∷ 1 ∷ 0
    ∷ 3 ∷ 0 ∷ 7 ∷ 0 ∷ 2 ∷ 0 ∷ 1 ∷ 0 ∷ 1 ∷ 2
    ∷ []
