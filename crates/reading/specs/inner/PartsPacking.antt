-- What reading one part of a file gives, as values of arrays.
use Rattle.refusal.specs.declared.Refusal.{Refusal}
use Rattle.std.specs.Prelude.{map, length, Result, Ok, Err}
use Rattle.grid.specs.declared.Band.{Band}
use Rattle.request.specs.View.{no_link}
use Rattle.request.specs.Packing.{padded, empty_demand, pack_demand}
use Rattle.reading.specs.declared.LinksFound.{LinksFound}
use Rattle.reading.specs.declared.DemandsFound.{DemandsFound}
use Rattle.reading.specs.Reading.{LinksRead, links_refused, links_read, DemandsRead, demands_refused, demands_read}

-- of the links alone: a refusal, or how many, where the field behind them stands, and an array of them
unfoldable pub pack_links : LinksRead → Result LinksFound Refusal
unfolding padded no_link
pack_links (links_refused why) = Err why
pack_links (links_read links at) = Ok (record { count = length links; end = at; links = padded 64 no_link links })

-- and of the demands alone
unfoldable pub pack_demands : DemandsRead → Result DemandsFound Refusal
unfolding padded empty_demand pack_demand
pack_demands (demands_refused why) = Err why
pack_demands (demands_read demands) = Ok (record { count = length demands; demands = padded 200 empty_demand (map pack_demand demands) })

-- the band alone: the refusal of its field, or the band
unfoldable pub band_read : Result Unit Refusal → Band → Result Band Refusal
band_read (Ok _) band = Ok band
band_read (Err why) band = Err why
