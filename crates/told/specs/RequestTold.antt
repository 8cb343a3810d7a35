-- What C is told of a request file: structs of numbers, from how the file reads; and what the lent buffers hold afterwards.
use Rattle.std.specs.Prelude.{ℕ, List, pos, Result, Ok, Err}
use Rattle.refusal.specs.declared.Refusal.{Refusal}
use Rattle.refusal.specs.Refusal.{number_of, place_of}
use Rattle.request.specs.View.{View}
use Rattle.reading.specs.Reading.{FileReading, refused, accepted}
use Rattle.meeting.specs.Reply.{bound_reply}
use Rattle.columns.specs.Columns.{DemandBuffers, demand_reply, route_reply, demands_after, ends_after, hops_after, routes_after}
use Rattle.told.specs.declared.LightplanRequest.{LightplanRequest}
use Rattle.told.specs.declared.LightplanRoutes.{LightplanRoutes}

-- ---- a request file read

-- a refusal: its number and its place, all else 0
unfoldable pub request_refused : Refusal → LightplanRequest
request_refused why =
    record { refusal = number_of why; place = place_of why; n0 = pos 0; slots = 0; guard = 0; links = 0; demands = 0; bound = 0 }

-- a request and the reply for its bound: 0 at place 0, its band, how many links and demands it has, and the bound; or the refusal
unfoldable pub request_told : Result ℕ Refusal → View → LightplanRequest
unfolding request_refused
request_told (Ok need) v =
    record {
      refusal = 0;
      place = 0;
      n0 = v.band.n0;
      slots = v.band.slots;
      guard = v.band.guard;
      links = v.link_count;
      demands = v.demand_count;
      bound = need;
    }
request_told (Err why) v = request_refused why

-- after the columns of the demands: the request, or why they were not written
unfoldable pub request_after : Result ℕ Refusal → View → LightplanRequest
unfolding request_refused request_told
request_after (Ok count) v = request_told (bound_reply v) v
request_after (Err why) v = request_refused why

-- the answer for a file and buffers of these rooms: the reader's refusal, 10, or the request
unfoldable pub request_entry : FileReading → List ℕ → LightplanRequest
unfolding request_refused request_after
request_entry (refused why) rooms = request_refused why
request_entry (accepted v) rooms = request_after (demand_reply v rooms) v

-- the buffers for the demands afterwards: as the columns leave them, as they were where the file is refused
unfoldable pub demands_read : FileReading → DemandBuffers → DemandBuffers
demands_read (refused why) lent = lent
demands_read (accepted v) lent = demands_after v lent

-- ---- the links and the routes of a request file

-- a refusal: its number and its place, all else 0
unfoldable pub routes_refused : Refusal → LightplanRoutes
routes_refused why = record { refusal = number_of why; place = place_of why; links = 0; demands = 0; hops = 0 }

-- after their columns: 0 at place 0, how many links, demands and links of routes there are; or why they were not written
unfoldable pub routes_told : Result ℕ Refusal → View → LightplanRoutes
unfolding routes_refused
routes_told (Ok total) v = record { refusal = 0; place = 0; links = v.link_count; demands = v.demand_count; hops = total }
routes_told (Err why) v = routes_refused why

-- the answer for a file and buffers of these lengths: the reader's refusal, 10, or the three counts
unfoldable pub routes_entry : FileReading → ℕ → ℕ → ℕ → LightplanRoutes
unfolding routes_refused routes_told
routes_entry (refused why) ends_room hops_room routes_room = routes_refused why
routes_entry (accepted v) ends_room hops_room routes_room = routes_told (route_reply v ends_room hops_room routes_room) v

-- the buffer of the links' nodes afterwards: as the columns leave it, as it was where the file is refused
unfoldable pub ends_read : FileReading → List ℕ → List ℕ → List ℕ → List ℕ
ends_read (refused why) ends hops routes = ends
ends_read (accepted v) ends hops routes = ends_after v ends hops routes

-- the buffer of how many links each route has, alike
unfoldable pub hops_read : FileReading → List ℕ → List ℕ → List ℕ → List ℕ
hops_read (refused why) ends hops routes = hops
hops_read (accepted v) ends hops routes = hops_after v ends hops routes

-- and the buffer of the routes
unfoldable pub routes_read : FileReading → List ℕ → List ℕ → List ℕ → List ℕ
routes_read (refused why) ends hops routes = routes
routes_read (accepted v) ends hops routes = routes_after v ends hops routes
