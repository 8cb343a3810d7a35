-- A request as a file: fields of a tag in one byte, a length in two and a body; numbers stand with their high byte first.
use Rattle.std.specs.Prelude.{ℕ, ◌-◌, ◌/◌, ◌%◌, cond, List, [], ◌∷◌, ◌++◌, length, ℤ, pos, negsuc, ◌-ℤ◌, ltb}
use Rattle.grid.specs.declared.Band.{Band}
use Rattle.request.specs.declared.Asked.{Asked}
use Rattle.request.specs.declared.Asked.TheVariants.{Width, Rate}
use Rattle.request.specs.declared.Link.{Link}
use Rattle.request.specs.View.{DemandView, View}

-- a number below 65536 as two bytes
unfoldable pub two_bytes : ℕ → List ℕ
two_bytes n = n / 256 ∷ n % 256 ∷ []

-- a signed 16-bit number as the two's complement number of its bits
unfoldable pub bits16 : ℤ → ℕ
bits16 (pos n) = n
bits16 (negsuc n) = 65535 - n

-- and back: the signed number that 16 bits are
unfoldable pub signed16 : ℕ → ℤ
signed16 n = cond (ltb n 32768) (pos n) (pos n -ℤ pos 65536)

-- a field: its tag, the length of its body, its body
unfoldable pub field : ℕ → List ℕ → List ℕ
unfolding two_bytes
field tag body = tag ∷ (two_bytes (length body) ++ body)

-- 01: the band's lower edge, slot count and guard
unfoldable pub band_field : Band → List ℕ
unfolding field two_bytes bits16
band_field b = field 1 (two_bytes (bits16 b.n0) ++ (two_bytes b.slots ++ (b.guard ∷ [])))

-- 02: a link's two nodes
unfoldable pub link_field : Link → List ℕ
unfolding field
link_field l = field 2 (l.from ∷ l.to ∷ [])

-- the tag of a demand's field: 03 for one by its width, 05 for one by its rate
unfoldable pub tag_of : Asked → ℕ
tag_of (Width w) = 3
tag_of (Rate r) = 5

-- the number in it: the width, or the rate
unfoldable pub number_asked : Asked → ℕ
number_asked (Width w) = w
number_asked (Rate r) = r

-- 03 or 05: a demand's ident, width or rate, and link numbers
unfoldable pub demand_field : DemandView → List ℕ
unfolding field two_bytes tag_of number_asked
demand_field d = field (tag_of d.asked) (two_bytes d.ident ++ (two_bytes (number_asked d.asked) ++ d.route))

-- the fields of all links, one after the other
unfoldable pub link_fields : List Link → List ℕ
unfolding link_field
link_fields [] = []
link_fields (l ∷ links) = link_field l ++ link_fields links

-- the fields of all demands, one after the other
unfoldable pub demand_fields : List DemandView → List ℕ
unfolding demand_field
demand_fields [] = []
demand_fields (d ∷ demands) = demand_field d ++ demand_fields demands

-- the file of a request: its band, its links, its demands
unfoldable pub encode : View → List ℕ
unfolding band_field link_fields demand_fields
encode v = band_field v.band ++ (link_fields v.links ++ demand_fields v.demands)
