-- All that a program in C is told of a request file by the two calls that read: both answers, and what they leave at the front of the
-- six buffers.
use Rattle.std.specs.Prelude.{ℕ, ◌*◌, List, length, take, Ok}
use Rattle.request.specs.View.{View, idents}
use Rattle.reading.specs.Reading.{FileReading}
use Rattle.meeting.specs.Bound.{bound_of}
use Rattle.columns.specs.Columns.{widths, rates, hop_counts, route_links, link_ends, DemandBuffers, demand_rooms}
use Rattle.told.specs.declared.LightplanRequest.{LightplanRequest}
use Rattle.told.specs.declared.LightplanRoutes.{LightplanRoutes}
use Rattle.told.specs.RequestTold.{request_told, request_entry, demands_read, routes_told, routes_entry, ends_read, hops_read, routes_read}

-- the buffers that are lent to the two calls, with what they hold: those for the demands, and those for the links and the routes
pub record Buffers : Type 0 where
  pub demands : DemandBuffers
  pub ends : List ℕ
  pub hops : List ℕ
  pub routes : List ℕ

-- what is told: the two answers, and of each buffer as many entries as they say
pub record FileTold : Type 0 where
  pub request : LightplanRequest
  pub lists : LightplanRoutes
  pub idents : List ℕ
  pub widths : List ℕ
  pub rates : List ℕ
  pub ends : List ℕ
  pub hops : List ℕ
  pub routes : List ℕ

-- the answer of `lightplan_read` with these buffers
unfoldable pub request_of : FileReading → Buffers → LightplanRequest
request_of read lent = request_entry read (demand_rooms lent.demands)

-- the answer of `lightplan_read_routes` with these buffers
unfoldable pub lists_of : FileReading → Buffers → LightplanRoutes
lists_of read lent = routes_entry read (length lent.ends) (length lent.hops) (length lent.routes)

-- what a file is told as, by how it reads
unfoldable pub told_of : FileReading → Buffers → FileTold
unfolding request_of lists_of
told_of read lent =
    record {
      request = request_of read lent;
      lists = lists_of read lent;
      idents = take (request_of read lent).demands (demands_read read lent.demands).idents;
      widths = take (request_of read lent).demands (demands_read read lent.demands).widths;
      rates = take (request_of read lent).demands (demands_read read lent.demands).rates;
      ends = take (2 * (lists_of read lent).links) (ends_read read lent.ends lent.hops lent.routes);
      hops = take (lists_of read lent).demands (hops_read read lent.ends lent.hops lent.routes);
      routes = take (lists_of read lent).hops (routes_read read lent.ends lent.hops lent.routes);
    }

-- all of a request, told: its band, its counts, its bound and its columns
unfoldable pub whole_told : View → FileTold
whole_told v =
    record {
      request = request_told (Ok (bound_of v)) v;
      lists = routes_told (Ok (length (route_links v.demands))) v;
      idents = idents v.demands;
      widths = widths v.demands;
      rates = rates v.demands;
      ends = link_ends v.links;
      hops = hop_counts v.demands;
      routes = route_links v.demands;
    }
