-- How long the fields are, and how they follow one another.
use Rattle.std.specs.Prelude.{ℕ, suc, ◌+◌, ◌*◌, ◌≡◌, refl, List, [], ◌∷◌, ◌++◌, length}
use Rattle.std.proofs.Common.{sym, ap, ◌∙◌, append_assoc, arith, length-append}
use Rattle.grid.specs.declared.Band.{Band}
use Rattle.request.specs.declared.Link.{Link}
use Rattle.request.specs.View.{DemandView, View}
use Rattle.request.specs.Encoding.{two_bytes, field, band_field, link_field, demand_field, link_fields, demand_fields, encode}

-- the band's field has 8 bytes
pub band_bytes : (b : Band) → length (band_field b) ≡ 8
unfolding band_field field two_bytes
band_bytes b = refl

-- a link's field has 5
pub link_bytes : (l : Link) → length (link_field l) ≡ 5
unfolding link_field field two_bytes
link_bytes l = refl

-- a demand's field has 7 and its route
pub demand_bytes : (d : DemandView) → length (demand_field d) ≡ 7 + length d.route
unfolding demand_field field two_bytes
demand_bytes d = let n = length d.route in let same : suc (suc (suc (suc (suc (suc (suc n)))))) ≡ 7 + n = omega arith in same

-- the links' fields have 5 for each
pub links_bytes : (links : List Link) → length (link_fields links) ≡ 5 * length links
unfolding link_fields
links_bytes [] = refl
links_bytes (l ∷ links) =
    length-append (link_field l) (link_fields links) ∙
    (let one = link_bytes l in let rest = links_bytes links in omega arith)

-- the fields of more links, and of more demands, follow
pub links_follow : (xs ys : List Link) → link_fields (xs ++ ys) ≡ link_fields xs ++ link_fields ys
unfolding link_fields
links_follow [] ys = refl
links_follow (x ∷ xs) ys =
    ap (λ (s : List ℕ). link_field x ++ s) (links_follow xs ys) ∙ sym (append_assoc (link_field x) (link_fields xs) (link_fields ys))

pub demands_follow : (xs ys : List DemandView) → demand_fields (xs ++ ys) ≡ demand_fields xs ++ demand_fields ys
unfolding demand_fields
demands_follow [] ys = refl
demands_follow (x ∷ xs) ys =
    ap (λ (s : List ℕ). demand_field x ++ s) (demands_follow xs ys) ∙ sym (append_assoc (demand_field x) (demand_fields xs) (demand_fields ys))

-- the whole file is as long as its parts
pub file_bytes : (v : View) → length (encode v) ≡ 8 + 5 * length v.links + length (demand_fields v.demands)
unfolding encode
file_bytes v =
    length-append (band_field v.band) (link_fields v.links ++ demand_fields v.demands) ∙
    (let rest = length-append (link_fields v.links) (demand_fields v.demands) in
    let band = band_bytes v.band in
    let links = links_bytes v.links in
    omega arith)
