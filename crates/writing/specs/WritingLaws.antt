-- Bytes stored one after the other, up to the fields of a request.
use Rattle.std.specs.Prelude.{ℕ, suc, ◌+◌, ◌*◌, ◌/◌, ◌%◌, ◌≤◌, ◌<◌, ◌≡◌, refl, take, drop, set}
use Rattle.std.proofs.Common.{sym, ◌∙◌, arith, add-one, take-append-drop, take-suc}
use Rattle.std.proofs.Math.Path.{ap}
use mathlib.Core.List.{List, [], ◌∷◌, ◌++◌, map, append-nil, map-append}
use Rattle.std.proofs.Math.ListN.{length, get_or, length-append}
use Rattle.std.proofs.lemmas.List.Edits.{sets}
use Rattle.std.proofs.Math.Seq.{length-take-le}
use Rattle.grid.specs.declared.Band.{Band}
use Rattle.request.specs.declared.Link.{Link}
use Rattle.request.specs.declared.Demand.{Demand}
use Rattle.request.specs.View.{view_demand, no_link}
use Rattle.request.specs.Encoding.{two_bytes, bits16, field, band_field, link_field, tag_of, number_asked, demand_field, link_fields, demand_fields}
use Rattle.request.proofs.EncodingLaws.{demand_bytes, links_bytes, links_follow, demands_follow}
use Rattle.std.proofs.lemmas.List.{take_more}
use Rattle.lent.specs.LentLaws.{sets_then}
use Rattle.writing.specs.inner.Ready.{RouteFits}

-- two bytes
pub number_stored : (out : List ℕ) (at n : ℕ) → set (set out at (n / 256)) (at + 1) (n % 256) ≡ sets out at (two_bytes n)
unfolding two_bytes
number_stored out at n = rw (add-one at)

-- a tag and two bytes
pub header_stored : (out after : List ℕ) (at tag body : ℕ) → after ≡ sets (set out at tag) (at + 1) (two_bytes body) → after ≡ sets out at (tag ∷ two_bytes body)
header_stored out after at tag body e = e ∙ ap (λ (n : ℕ). sets (set out at tag) n (two_bytes body)) (add-one at)

-- the band's field
pub band_stored : (out one two three : List ℕ) (b : Band) → one ≡ sets out 0 (1 ∷ two_bytes 5) → two ≡ sets one 3 (two_bytes (bits16 b.n0)) →
    three ≡ sets two 5 (two_bytes b.slots) → set three 7 b.guard ≡ sets out 0 (band_field b)
unfolding band_field field two_bytes
band_stored out one two three b e f g = rw (g, f, e)

-- a link's field
pub link_stored : (out one : List ℕ) (at : ℕ) (l : Link) → one ≡ sets out at (2 ∷ two_bytes 2) → set (set one (at + 3) l.from) (at + 4) l.to ≡ sets out at (link_field l)
unfolding link_field field two_bytes
link_stored out one at l e =
    let three : at + 3 ≡ suc (suc (suc at)) = omega arith in
    let four : at + 4 ≡ suc (suc (suc (suc at))) = omega arith in
    rw (e, three, four)

-- a demand's field
pub demand_stored : (out one two three four : List ℕ) (at tag number : ℕ) (d : Demand) → d.hops ≤ length d.links →
    tag ≡ tag_of d.asked → number ≡ number_asked d.asked →
    one ≡ sets out at (tag ∷ two_bytes (4 + d.hops)) → two ≡ sets one (at + 3) (two_bytes d.ident) →
    three ≡ sets two (at + 5) (two_bytes number) → four ≡ sets three (at + 7) (take d.hops d.links) →
    four ≡ sets out at (demand_field (view_demand d))
unfolding view_demand demand_field field two_bytes
demand_stored out one two three four at tag number d long same_tag same_number e f g h =
    let hops : length (take d.hops d.links) ≡ d.hops = length-take-le d.hops d.links long in
    let body : suc (suc (suc (suc (length (take d.hops d.links))))) ≡ 4 + d.hops = rw hops (omega arith) in
    let header : List ℕ = tag ∷ two_bytes (4 + d.hops) in
    let header-two : List ℕ = header ++ two_bytes d.ident in
    let header-three : List ℕ = header-two ++ two_bytes number in
    let two_is : two ≡ sets out at header-two = f ∙ ap (λ (o : List ℕ). sets o (at + 3) (two_bytes d.ident)) e ∙ sets_then out at header (two_bytes d.ident) (at + 3) refl in
    let three-is : three ≡ sets out at header-three = g ∙ ap (λ (o : List ℕ). sets o (at + 5) (two_bytes number)) two_is ∙ sets_then out at header-two (two_bytes number) (at + 5) refl in
    let four_is : four ≡ sets out at (header-three ++ take d.hops d.links) = h ∙ ap (λ (o : List ℕ). sets o (at + 7) (take d.hops d.links)) three-is ∙ sets_then out at header-three (take d.hops d.links) (at + 7) refl in
    four_is ∙ rw (same_tag, same_number, body)

-- a route, one byte more
pub route_stored : (out after route : List ℕ) (at i : ℕ) → i < length route → after ≡ sets out at (take i route) →
    set after (at + i) (get_or route i 0) ≡ sets out at (take (i + 1) route)
route_stored out after route at i more e =
    let taken : length (take i route) ≡ i = length-take-le i route (omega arith) in
    let longer : take (i + 1) route ≡ take i route ++ (get_or route i 0 ∷ []) = rw (add-one i) (take-suc route i 0 more) in
    ap (λ (o : List ℕ). set o (at + i) (get_or route i 0)) e ∙
    sets_then out at (take i route) (get_or route i 0 ∷ []) (at + i) (ap (λ (n : ℕ). at + n) (sym taken)) ∙
    ap (sets out at) (sym longer)

-- the field of one more link
pub links_more : (links : List Link) (k : ℕ) (d : Link) → k < length links →
    link_fields (take (k + 1) links) ≡ link_fields (take k links) ++ link_field (get_or links k d)
unfolding link_fields
links_more links k d more =
    let l = get_or links k d in
    ap link_fields (take_more links k d more) ∙ links_follow (take k links) (l ∷ []) ∙
    ap (λ (s : List ℕ). link_fields (take k links) ++ s) (append-nil (link_field l))

-- the links, one more
pub links_stored : (out after next : List ℕ) (links : List Link) (k : ℕ) → k < length links → after ≡ sets out 8 (link_fields (take k links)) →
    next ≡ sets after (8 + 5 * k) (link_field (get_or links k no_link)) → next ≡ sets out 8 (link_fields (take (k + 1) links))
links_stored out after next links k more e f =
    let l = get_or links k no_link in
    let taken : length (take k links) ≡ k = length-take-le k links (omega arith) in
    let bytes : 8 + 5 * k ≡ 8 + length (link_fields (take k links)) = omega (arith, links_bytes (take k links)) in
    f ∙ ap (λ (o : List ℕ). sets o (8 + 5 * k) (link_field l)) e ∙ sets_then out 8 (link_fields (take k links)) (link_field l) (8 + 5 * k) bytes ∙
    ap (sets out 8) (sym (links_more links k no_link more))

module _ (demands : List Demand) (k : ℕ) (d : Demand) (more : k < length demands) where
  -- the field of one more demand
  pub demands_more : demand_fields (map view_demand (take (k + 1) demands)) ≡ demand_fields (map view_demand (take k demands)) ++ demand_field (view_demand (get_or demands k d))
  unfolding demand_fields
  demands_more =
      let front = take k demands in
      let one = get_or demands k d in
      ap (λ (ds : List Demand). demand_fields (map view_demand ds)) (take_more demands k d more) ∙
      ap demand_fields (map-append view_demand front (one ∷ [])) ∙ demands_follow (map view_demand front) (view_demand one ∷ []) ∙
      ap (λ (s : List ℕ). demand_fields (map view_demand front) ++ s) (append-nil (demand_field (view_demand one)))

  -- how long it is: 7 and its route
  pub field_more : length (demand_fields (map view_demand (take (k + 1) demands))) ≡ length (demand_fields (map view_demand (take k demands))) + length (demand_field (view_demand (get_or demands k d)))
  field_more = ap length demands_more ∙ length-append (demand_fields (map view_demand (take k demands))) (demand_field (view_demand (get_or demands k d)))

  pub bytes_more : RouteFits (get_or demands k d) →
      length (demand_fields (map view_demand (take (k + 1) demands))) ≡ length (demand_fields (map view_demand (take k demands))) + 7 + (get_or demands k d).hops
  unfolding view_demand
  bytes_more fits =
      let one = get_or demands k d in
      let route : length (take one.hops one.links) ≡ one.hops = length-take-le one.hops one.links (omega (arith, fits.short, fits.whole)) in
      field_more ∙ (let bytes = demand_bytes (view_demand one) in omega arith)

  -- the demands, one more
  pub demands_stored : (out after next : List ℕ) (start at : ℕ) → at ≡ start + length (demand_fields (map view_demand (take k demands))) →
      after ≡ sets out start (demand_fields (map view_demand (take k demands))) → next ≡ sets after at (demand_field (view_demand (get_or demands k d))) →
      next ≡ sets out start (demand_fields (map view_demand (take (k + 1) demands)))
  demands_stored out after next start at here e f =
      let field = demand_field (view_demand (get_or demands k d)) in
      f ∙ ap (λ (o : List ℕ). sets o at field) e ∙
      sets_then out start (demand_fields (map view_demand (take k demands))) field at here ∙ ap (sets out start) (sym demands_more)

  -- the first fields are no longer than all of them
  pub bytes_within : length (demand_fields (map view_demand (take (k + 1) demands))) ≤ length (demand_fields (map view_demand demands))
  bytes_within =
      let front = take (k + 1) demands in
      let rest = drop (k + 1) demands in
      let fields : demand_fields (map view_demand demands) ≡ demand_fields (map view_demand front) ++ demand_fields (map view_demand rest)
      = ap (λ (ds : List Demand). demand_fields (map view_demand ds)) (sym (take-append-drop (k + 1) demands)) ∙
      ap demand_fields (map-append view_demand front rest) ∙ demands_follow (map view_demand front) (map view_demand rest) in
      omega (arith, ap length fields ∙ length-append (demand_fields (map view_demand front)) (demand_fields (map view_demand rest)))
