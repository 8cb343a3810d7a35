-- Reading a request from the bytes of a file: field by field, each with its checks in their order. A place is the offset of the field.
use Rattle.std.specs.Prelude.{ℕ, zero, suc, ◌+◌, ◌-◌, Bool, cond, not, ◌&&◌, ◌||◌, List, [], ◌∷◌, ◌++◌, length, get_or, take, drop, leb, ltb, eqb, Result, Ok, Err}
use Rattle.refusal.specs.declared.Refusal.{Refusal}
use Rattle.refusal.specs.declared.Refusal.TheVariants.{WrongTag, BandOutside, BadLink, TooManyDemands, BadRoute, IdentUsed, BadWidth, FileTooLong, UnknownRate}
use Rattle.grid.specs.declared.Band.{Band}
use Rattle.grid.specs.Grid.{allowed_band, allowed_width}
use Rattle.request.specs.declared.Asked.{Asked}
use Rattle.request.specs.declared.Asked.TheVariants.{Width, Rate}
use Rattle.request.specs.declared.Link.{Link}
use Rattle.request.specs.View.{DemandView, View, idents, width_of}
use Rattle.request.specs.Check.{then, has, sound_route, must, known_asked}
use Rattle.request.specs.Encoding.{signed16}
use Rattle.fields.specs.Field.{number16, check_field, field_end, body_length}

-- how a file reads: it is refused, or it is the file of a request
pub data FileReading : Type 0 where
  refused : Refusal → FileReading
  accepted : View → FileReading

-- the band in the first field
unfoldable pub band_in : List ℕ → Band
unfolding number16 signed16
band_in s = record { n0 = signed16 (number16 s 3); slots = number16 s 5; guard = get_or s 7 0 }

-- the first field is the band's: 2 at the file's length where there is none, then 4
unfoldable pub check_band_field : List ℕ → Result Unit Refusal
unfolding then must check_field band_in
check_band_field s =
    then (must (ltb 0 (length s)) (WrongTag (length s)))
    (then (check_field s 0 1 5 5)
    (must (allowed_band (band_in s)) (BandOutside 0)))

-- the link in the field at an offset
unfoldable pub link_in : List ℕ → ℕ → Link
link_in s at = record { from = get_or s (at + 3) 0; to = get_or s (at + 4) 0 }

-- a link's field after so many links: 2 at the file's length where it has ended, then 5: the count, then the ends
unfoldable pub check_link_field : List ℕ → ℕ → ℕ → Result Unit Refusal
unfolding then must check_field link_in
check_link_field s at count =
    then (must (ltb at (length s)) (WrongTag (length s)))
    (then (check_field s at 2 2 2)
    (then (must (ltb count 64) (BadLink at))
    (must (not (eqb (link_in s at).from (link_in s at).to)) (BadLink at))))

-- the tags with which a demand's field begins: 03 for one by its width, 05 for one by its rate
unfoldable pub demands_begin : ℕ → Bool
demands_begin tag = eqb tag 3 || eqb tag 5

-- the tag that a demand's field must have: 05 where it stands there, else 03
unfoldable pub demand_tag : List ℕ → ℕ → ℕ
demand_tag s at = cond (eqb (get_or s at 0) 5) 5 3

-- what the number in a demand's field asks for: a rate under 05, else a width
unfoldable pub asked_in : ℕ → ℕ → Asked
asked_in tag n = cond (eqb tag 5) (Rate n) (Width n)

-- the demand in the field at an offset
unfoldable pub demand_in : List ℕ → ℕ → DemandView
unfolding number16 body_length asked_in
demand_in s at =
    record {
      ident = number16 s (at + 3);
      asked = asked_in (get_or s at 0) (number16 s (at + 5));
      hops = body_length s at - 4;
      route = take (body_length s at - 4) (drop (at + 7) s);
    }

-- a demand after demands of these idents: 6, 8, 21, 9, 7
unfoldable pub check_new_demand : ℕ → List Link → List ℕ → ℕ → DemandView → Result Unit Refusal
unfolding then must has known_asked sound_route
check_new_demand S links earlier at d =
    then (must (ltb (length earlier) 200) (TooManyDemands at))
    (then (must (not (has d.ident earlier)) (IdentUsed at))
    (then (must (known_asked d.asked) (UnknownRate at))
    (then (must (allowed_width S (width_of d)) (BadWidth at))
    (must (sound_route links d.route) (BadRoute at)))))

-- a demand's field: first what every field is tested for
unfoldable pub check_demand_field : ℕ → List Link → List ℕ → ℕ → List ℕ → Result Unit Refusal
unfolding then check_field demand_tag demand_in check_new_demand
check_demand_field S links s at earlier =
    then (check_field s at (demand_tag s at) 5 36) (check_new_demand S links earlier at (demand_in s at))

-- the links end, after one at least, where the file ends or a demand's tag stands
unfoldable pub links_end : List ℕ → ℕ → ℕ → Bool
unfolding demands_begin
links_end s at count = ltb 0 count && (eqb at (length s) || demands_begin (get_or s at 0))

-- the links of a file and the offset behind them, or a refusal
pub data LinksRead : Type 0 where
  links_refused : Refusal → LinksRead
  links_read : List Link → ℕ → LinksRead

-- a sound field, and then the rest
unfoldable pub next_links : Result Unit Refusal → LinksRead → LinksRead
next_links (Ok _) rest = rest
next_links (Err why) rest = links_refused why

-- the links one by one, after some links; the 65th is refused, so that the first number, 65 and falling, never gets to 0
unfoldable pub read_links : ℕ → List ℕ → ℕ → List Link → LinksRead
unfolding field_end link_in check_link_field links_end next_links
read_links zero s at links = links_refused (BadLink at)
read_links (suc left) s at links =
    let rest = read_links left s (field_end s at) (links ++ (link_in s at ∷ [])) in
    cond (links_end s at (length links)) (links_read links at) (next_links (check_link_field s at (length links)) rest)

-- the demands of a file, or a refusal
pub data DemandsRead : Type 0 where
  demands_refused : Refusal → DemandsRead
  demands_read : List DemandView → DemandsRead

-- a sound field, and then the rest
unfoldable pub next_demands : Result Unit Refusal → DemandsRead → DemandsRead
next_demands (Ok _) rest = rest
next_demands (Err why) rest = demands_refused why

-- the demands one by one, after some demands, up to the end of the file; the 201st is refused, so that the first number, 201 and
-- falling, never gets to 0
unfoldable pub read_demands : ℕ → ℕ → List Link → List ℕ → ℕ → List DemandView → DemandsRead
unfolding field_end demand_in check_demand_field idents next_demands
read_demands zero S links s at demands = demands_refused (TooManyDemands at)
read_demands (suc left) S links s at demands =
    let rest = read_demands left S links s (field_end s at) (demands ++ (demand_in s at ∷ [])) in
    cond (eqb at (length s)) (demands_read demands) (next_demands (check_demand_field S links s at (idents demands)) rest)

-- after the demands: band, links and demands make a request
unfoldable pub with_demands : Band → List Link → DemandsRead → FileReading
with_demands band links (demands_refused why) = refused why
with_demands band links (demands_read demands) =
    accepted (record {
      band = band;
      link_count = length links;
      links = links;
      demand_count = length demands;
      demands = demands;
    })

-- after the links: the demands
unfoldable pub with_links : List ℕ → Band → LinksRead → FileReading
unfolding read_demands with_demands
with_links s band (links_refused why) = refused why
with_links s band (links_read links at) =
    with_demands band links (read_demands 201 band.slots links s at [])

-- after the band: the links
unfoldable pub with_band : List ℕ → Result Unit Refusal → FileReading
unfolding band_in read_links with_links
with_band s (Err why) = refused why
with_band s (Ok _) = with_links s (band_in s) (read_links 65 s 8 [])

-- the whole file: 20, the band, the links, the demands
unfoldable pub read_file : List ℕ → FileReading
unfolding then must check_band_field with_band
read_file s = with_band s (then (must (leb (length s) 8128) (FileTooLong 8128)) (check_band_field s))
