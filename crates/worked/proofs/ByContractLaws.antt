-- The lines of the table are the answers of the public calls.
use mathlib.Core.List.Memᴰ
use mathlib.Core.List.{List, [], ◌∷◌, map, Memᴰ}
use Rattle.std.proofs.Common.{⊎_elim, sym, ap, subst, ◌∙◌}
use Rattle.std.specs.Prelude.{◌≡◌, refl, get_or, drop, Ok}
use Rattle.request.specs.View.{View, view}
use Rattle.reading.specs.Reading.{FileReading, refused, accepted, read_file}
use Rattle.request.specs.Packing.{pack}
use Rattle.request.specs.Encoding.{encode}
use Rattle.reading.specs.FilePacking.{pack_reading}
use Rattle.writing.specs.RoundTripLaws.{read_seen}
use Rattle.worked.specs.Calls.{Call, Said, reads, say, say_read, say_reading, first_fit, bound, search, check_starts, to_frequency, from_frequency, read_request}
use Rattle.worked.specs.ByContract.{Gives}
use Rattle.worked.specs.Table.{Case, table}
use Rattle.worked.specs.Worked.{worked}

-- what was read says what its reading says
read_told : (read : FileReading) → ((v : View) → read ≡ accepted v → view (pack v) ≡ v) → say_reading (pack_reading read) ≡ say_read read
unfolding say_reading say_read pack_reading encode
read_told (refused why) seen = refl
read_told (accepted v) seen = ap (λ (w : View). reads w (encode w)) (seen v refl)

-- every call gives what it says
gives_says : (call : Call) → Gives call (say call)
unfolding Gives say
gives_says (first_fit v order) = λ q seen r starts blockers hr hs hb. rw (hr, hs, hb, seen)
gives_says (bound v) = λ q seen r hr. rw (hr, seen)
gives_says (search v limit) = λ q seen r after hr ha. rw (hr, ha, seen)
gives_says (check_starts v starts) = λ q seen r hr. rw (hr, seen)
gives_says (to_frequency band start width) = λ r hr. rw hr
gives_says (from_frequency band n m) = λ r hr. rw hr
gives_says (read_request file) =
    λ bytes r hr.
    ap say_reading hr ∙ read_told (read_file file) (λ v e. read_seen file v bytes e)

-- lists of the same answers have the same answer for each member
each_same : (f g : Case → Said) (cases : List Case) → map f cases ≡ map g cases → (c : Case) → Memᴰ c cases → f c ≡ g c
each_same f g [] same c m = absurd (Memᴰ.not-nil m)
each_same f g (first ∷ cases) same c m =
    ⊎_elim
    (λ (e : c ≡ first). ap f e ∙ ap (λ (l : List Said). get_or l 0 (f first)) same ∙ ap g (sym e))
    (each_same f g cases (ap (drop 1) same) c)
    (Memᴰ.cases_cons m)

-- each line of the table is what its public call gives
pub called : (c : Case) → Memᴰ c table → Gives c.call c.said
called c m =
    subst (Gives c.call) (each_same (λ (x : Case). say x.call) (λ (x : Case). x.said) table worked c m) (gives_says c.call)
