-- The links of a file, one by one.
use Rattle.std.specs.Prelude.{ℕ, suc, ◌+◌, ◌-◌, ◌≤◌, ◌<◌, ◌≡◌, refl, true, false, not, length, get_or, set, replicate, ltb, eqb, Ok, Err}
use Rattle.std.proofs.Math.Path.{sym}
use Rattle.std.proofs.Common.{ap, ◌∙◌, arith, length-append}
use mathlib.Core.List.{List, [], ◌∷◌, ◌++◌}
use borrow.Author.Tests.{ltb-true, eqb-false, lt-ltb, le-ltb, eq-eqb, ne_eqb, not-true}
use Rattle.refusal.specs.declared.Refusal.{Refusal}
use Rattle.refusal.specs.declared.Refusal.TheVariants.{WrongTag, BadLink}
use Rattle.request.specs.declared.Link.{Link}
use Rattle.request.specs.View.{no_link}
use Rattle.request.specs.Check.{then, must}
use Rattle.fields.specs.Field.{number16, body_length, field_end, check_field}
use Rattle.reading.specs.Reading.{link_in, check_link_field, links_end, links_refused, links_read, next_links, read_links}
use Rattle.request.specs.Packing.{padded}
use Rattle.reading.specs.inner.PartsPacking.{pack_links}
use Rattle.request.proofs.CheckLaws.{first_sound, next_sound, test_held}
use Rattle.fields.specs.FieldLaws.{field_holds}
use Rattle.request.proofs.PackingLaws.{set_padded}
use Rattle.fields.specs.inner.Holds.{FieldHolds}
use Rattle.reading.specs.inner.Fields.{LinkHolds}
use Rattle.reading.specs.inner.SoFar.{LinksSoFar}

-- 2 at the file's length: where a link must stand and the file has ended
pub link_missing : (s : List ℕ) (at count : ℕ) → at ≡ length s → Err (WrongTag (length s)) ≡ check_link_field s at count
unfolding check_link_field then must
link_missing s at count done = rw (le-ltb at (length s) (omega arith))

module _ (s : List ℕ) (at count : ℕ) (some : at < length s) where
  -- the faults that every field may have
  pub link_fault : {why : Refusal} → Err why ≡ check_field s at 2 2 2 → Err why ≡ check_link_field s at count
  unfolding check_link_field then must
  link_fault fault = rw (lt-ltb at (length s) some, ← fault)

  -- 5: the 65th link
  pub link_too_many : Ok tt ≡ check_field s at 2 2 2 → 64 ≤ count → Err (BadLink at) ≡ check_link_field s at count
  unfolding check_link_field then must
  link_too_many sound many = rw (lt-ltb at (length s) some, ← sound, le-ltb count 64 many)

  -- 5: a link from a node to itself
  pub link_loop : Ok tt ≡ check_field s at 2 2 2 → count < 64 → get_or s (at + 3) 0 ≡ get_or s (at + 4) 0 → Err (BadLink at) ≡ check_link_field s at count
  unfolding check_link_field then must link_in
  link_loop sound few same =
      rw (lt-ltb at (length s) some, ← sound, lt-ltb count 64 few, eq-eqb (get_or s (at + 3) 0) (get_or s (at + 4) 0) same)

  -- a link between two nodes
  pub link_sound : Ok tt ≡ check_field s at 2 2 2 → count < 64 → (get_or s (at + 3) 0 ≡ get_or s (at + 4) 0 → ⊥) → Ok tt ≡ check_link_field s at count
  unfolding check_link_field then must link_in
  link_sound sound few differ =
      rw (lt-ltb at (length s) some, ← sound, lt-ltb count 64 few, ne_eqb (get_or s (at + 3) 0) (get_or s (at + 4) 0) differ)

-- a link's field that is sound says so
pub link_holds : (s : List ℕ) (at count : ℕ) → check_link_field s at count ≡ Ok tt → LinkHolds s at count
unfolding check_link_field
link_holds s at count sound =
    let one = next_sound (must (ltb at (length s)) (WrongTag (length s))) _ sound in
    let two = next_sound (check_field s at 2 2 2) _ one in
    let three : must (not (eqb (link_in s at).from (link_in s at).to)) (BadLink at) ≡ Ok tt
    = next_sound (must (ltb count 64) (BadLink at)) _ two in
    record {
      field = field_holds s at 2 2 2 (first_sound (check_field s at 2 2 2) _ one);
      room = ltb-true count 64 (test_held (ltb count 64) (BadLink at) (first_sound (must (ltb count 64) (BadLink at)) _ two));
      two_nodes =
          eqb-false (link_in s at).from (link_in s at).to
          (not-true (eqb (link_in s at).from (link_in s at).to) (test_held (not (eqb (link_in s at).from (link_in s at).to)) (BadLink at) three));
    }

-- a link's field is 5 bytes long
pub link_end : (s : List ℕ) (at : ℕ) → FieldHolds s at 2 2 2 → field_end s at ≡ at + 5
unfolding field_end body_length
link_end s at h = let two : number16 s (at + 1) ≡ 2 = omega arith in rw two (omega arith)

module _ (left : ℕ) (s : List ℕ) (at : ℕ) (links : List Link) where
  -- where the links end, they are read
  pub links_done : links_end s at (length links) ≡ true → read_links (suc left) s at links ≡ links_read links at
  unfolding read_links
  links_done done = rw done

  -- a fault ends the reading
  pub links_fault : {why : Refusal} → links_end s at (length links) ≡ false → Err why ≡ check_link_field s at (length links) → read_links (suc left) s at links ≡ links_refused why
  unfolding read_links next_links
  links_fault more fault = rw (more, ← fault)

  -- a sound field is one link more
  pub links_more : links_end s at (length links) ≡ false → Ok tt ≡ check_link_field s at (length links) →
      read_links (suc left) s at links ≡ read_links left s (field_end s at) (links ++ (link_in s at ∷ []))
  unfolding read_links next_links
  links_more more sound = rw (more, ← sound)

-- before the first
pub links_begin : (s : List ℕ) → 8 ≤ length s → LinksSoFar s 8 0 (replicate 64 no_link)
unfolding padded
links_begin s some =
    record { links = []; counted = refl; few = omega arith; within = some; stored = refl; goes_on = refl }

module _ (s : List ℕ) (at count : ℕ) (array : List Link) (so_far : LinksSoFar s at count array) where
  -- how the reading goes on from here
  links_here : read_links (suc (64 - count)) s at so_far.links ≡ read_links 65 s 8 []
  links_here =
      let few : count ≤ 64 = so_far.few in
      let one : suc (64 - count) ≡ 65 - count = omega arith in
      rw one so_far.goes_on

  -- the end
  pub links_finish : links_end s at count ≡ true →
      Ok (record { count = count; end = at; links = array }) ≡ pack_links (read_links 65 s 8 [])
  unfolding pack_links padded
  links_finish done =
      let all : read_links 65 s 8 [] ≡ links_read so_far.links at
      = sym links_here ∙ links_done (64 - count) s at so_far.links (rw so_far.counted done) in
      rw (all, so_far.stored, so_far.counted)

  -- a fault
  pub links_fail : {why : Refusal} → links_end s at count ≡ false → Err why ≡ check_link_field s at count →
      Err why ≡ pack_links (read_links 65 s 8 [])
  unfolding pack_links
  links_fail more fault =
      ap pack_links (sym (links_fault (64 - count) s at so_far.links (rw so_far.counted more) (rw so_far.counted fault)) ∙ links_here)

  -- one link more
  pub links_step : links_end s at count ≡ false → Ok tt ≡ check_link_field s at count →
      LinksSoFar s (at + 5) (count + 1) (set array count (link_in s at))
  links_step more sound =
      let h : LinkHolds s at count = link_holds s at count (sym sound) in
      let end : field_end s at ≡ at + 5 = link_end s at h.field in
      let left : 64 - count ≡ 65 - (count + 1) = omega arith in
      record {
        links = so_far.links ++ (link_in s at ∷ []);
        counted = length-append so_far.links (link_in s at ∷ []) ∙ ap (λ (n : ℕ). n + 1) so_far.counted;
        few = let room : count < 64 = h.room in omega arith;
        within = let f : FieldHolds s at 2 2 2 = h.field in omega arith;
        stored =
            rw (so_far.stored, ← so_far.counted)
            (set_padded 64 no_link so_far.links (link_in s at) (rw so_far.counted h.room));
        goes_on =
            ap (λ (n : ℕ). read_links n s (at + 5) (so_far.links ++ (link_in s at ∷ []))) (sym left) ∙
            ap (λ (n : ℕ). read_links (64 - count) s n (so_far.links ++ (link_in s at ∷ []))) (sym end) ∙
            sym (links_more (64 - count) s at so_far.links (rw so_far.counted more) (rw so_far.counted sound)) ∙ links_here;
      }
