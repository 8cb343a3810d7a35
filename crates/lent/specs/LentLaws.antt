-- Buffers that are written at their front.
use Rattle.std.specs.Prelude.{ℕ, suc, ◌+◌, ◌≤◌, ◌<◌, ◌≡◌, refl, cond, min, leb, ltb, length, take, drop, set, get_or, Result, Ok, Err}
use mathlib.Core.List.Memᴰ
use Rattle.theory.proofs.TestLaws.{by_test}
use mathlib.Core.List.{List, [], ◌∷◌, ◌++◌, Memᴰ, append_assoc}
use Rattle.std.proofs.Common.{⊎_elim, sym, ◌∙◌, arith, add-one, leb-true, le-leb, ltb-true, ltb-false, length-take, drop_of_length-le, drop-cons, take-suc, take_all, take_at, drop_at, length-take-le}
use Rattle.std.proofs.Math.Path.{ap}
use Rattle.std.proofs.lemmas.Bool.{lt-leb}
use Rattle.std.proofs.lemmas.List.Edits.{sets, sets-eq, paste_all}
use Rattle.std.proofs.lemmas.Slice.{put_mid-paste}
use borrow.Rule.Slice.PartMut.{put_mid}
use Rattle.std.proofs.lemmas.List.{set_at}
use Rattle.std.proofs.Math.Seq.{append_snoc}
use Rattle.refusal.specs.declared.Refusal.{Refusal}
use Rattle.refusal.specs.declared.Refusal.TheVariants.{BufferShort}
use Rattle.request.specs.Check.{then, must}
use Rattle.request.proofs.CheckLaws.{then_sound, then_refused, first_sound, next_sound, test_held}
use Rattle.std.proofs.lemmas.List.{take_min}
use Rattle.std.specs.List.{list_any}
use Rattle.lent.specs.Lent.{check_room, check_rooms, over, write_answer, write_reply}

-- enough room
pub room_enough : (need room : ℕ) → need ≤ room → Ok tt ≡ check_room need room
unfolding check_room must
room_enough need room h = rw (le-leb need room h)

-- 10: too little room
pub room_short : (need room : ℕ) → room < need → Err (BufferShort need) ≡ check_room need room
unfolding check_room must
room_short need room h = rw (lt-leb need room h)

-- what the test for room passes has room
pub room_held : (need room : ℕ) → check_room need room ≡ Ok tt → need ≤ room
unfolding check_room
room_held need room h = leb-true need room (test_held (leb need room) (BufferShort need) h)

-- several buffers are refused where one of them has less room
pub rooms_any : (need : ℕ) (rooms : List ℕ) →
    check_rooms need rooms ≡ cond (list_any (λ (room : ℕ). ltb room need) rooms) (Err (BufferShort need)) (Ok tt)
unfolding check_rooms check_room then must
rooms_any need [] = refl
rooms_any need (room ∷ rooms) =
    by_test (ltb room need)
    (λ t. rw (t, lt-leb need room (ltb-true room need t)))
    (λ t. rw (t, le-leb need room (ltb-false room need t)) (rooms_any need rooms))

-- no buffer is left to test
pub rooms_done : (need : ℕ) (rooms : List ℕ) (k : ℕ) → length rooms ≤ k → check_rooms need rooms ≡ check_rooms need (drop k rooms) →
    Ok tt ≡ check_rooms need rooms
unfolding check_rooms
rooms_done need rooms k h e = sym (e ∙ ap (check_rooms need) (drop_of_length-le rooms {i = k} h))

module _ (need : ℕ) (rooms : List ℕ) (k : ℕ) (there : k < length rooms) (passed : check_rooms need rooms ≡ check_rooms need (drop k rooms)) where
  -- the buffer at k is tested next
  rooms_next : check_rooms need rooms ≡ then (check_room need (get_or rooms k 0)) (check_rooms need (drop (k + 1) rooms))
  unfolding check_rooms
  rooms_next =
      passed
      ∙ ap (check_rooms need) (drop-cons rooms k 0 there)
      ∙ ap (λ (n : ℕ). then (check_room need (get_or rooms k 0)) (check_rooms need (drop n rooms))) (sym (add-one k))

  -- a buffer with room passes
  pub rooms_pass : need ≤ get_or rooms k 0 → check_rooms need rooms ≡ check_rooms need (drop (k + 1) rooms)
  rooms_pass h =
      rooms_next ∙ then_sound (check_room need (get_or rooms k 0)) (check_rooms need (drop (k + 1) rooms)) (sym (room_enough need (get_or rooms k 0) h))

  -- the first that is too short is the refusal
  pub rooms_short : get_or rooms k 0 < need → Err (BufferShort need) ≡ check_rooms need rooms
  rooms_short h =
      sym (rooms_next ∙ then_refused (check_room need (get_or rooms k 0)) (check_rooms need (drop (k + 1) rooms)) (BufferShort need) (sym (room_short need (get_or rooms k 0) h)))

-- one buffer more with room
pub rooms_with : (need room : ℕ) (rooms : List ℕ) → need ≤ room → check_rooms need rooms ≡ Ok tt → check_rooms need (room ∷ rooms) ≡ Ok tt
unfolding check_rooms
rooms_with need room rooms h k = then_sound (check_room need room) (check_rooms need rooms) (sym (room_enough need room h)) ∙ k

-- no buffer needs no room
pub rooms_none : (need : ℕ) → check_rooms need [] ≡ Ok tt
unfolding check_rooms
rooms_none need = refl

-- what the test for rooms passes has room in each buffer
pub rooms_held : (need : ℕ) (rooms : List ℕ) → check_rooms need rooms ≡ Ok tt → (room : ℕ) → Memᴰ room rooms → need ≤ room
unfolding check_rooms
rooms_held need [] h room m = absurd (Memᴰ.not-nil m)
rooms_held need (first ∷ rooms) h room m =
    ⊎_elim
    (λ (e : room ≡ first). rw e (room_held need first (first_sound (check_room need first) (check_rooms need rooms) h)))
    (rooms_held need rooms (next_sound (check_room need first) (check_rooms need rooms) h) room)
    (Memᴰ.cases_cons m)

-- two results that meet the contract of `check_rooms` are equal
pub same_rooms : (need : ℕ) (rooms : List ℕ) (c c' : Result Unit Refusal) → c ≡ check_rooms need rooms → c' ≡ check_rooms need rooms → c ≡ c'
same_rooms need rooms c c' h k = h ∙ sym k

-- one entry more at the front of a buffer
pub front_turn : (entries out : List ℕ) (k : ℕ) → k < length entries → k < length out →
    set (take k entries ++ drop k out) k (get_or entries k 0) ≡ take (k + 1) entries ++ drop (k + 1) out
front_turn entries out k h room =
    let x = get_or entries k 0 in
    let rest = drop (suc k) out in
    ap (λ (tail : List ℕ). set (take k entries ++ tail) k x) (drop-cons out k 0 room)
    ∙ (set_at (take k entries) (get_or out k 0) rest x k (length-take-le k entries (omega arith))
    ∙ (sym (append_snoc (take k entries) x rest)
    ∙ (ap (λ (front : List ℕ). front ++ rest) (sym (take-suc entries k 0 h))
    ∙ ap (λ (n : ℕ). take n entries ++ drop n out) (sym (add-one k)))))

-- the first k entries over a buffer
pub front_over : (entries out : List ℕ) (k : ℕ) → k ≤ length entries → take k entries ++ drop k out ≡ over (take k entries) out
unfolding over
front_over entries out k h = ap (λ (n : ℕ). take k entries ++ drop n out) (sym (length-take-le k entries h))

-- as many entries as there are and as there is room for are all that a buffer takes
pub front_taken : (entries out : List ℕ) (n : ℕ) → n ≡ min (length entries) (length out) →
    take n entries ++ drop n out ≡ over (take (length out) entries) out
unfolding over
front_taken entries out n is =
    let all : n ≡ min (length out) (length entries) = omega (arith, is) in
    let long : length (take (length out) entries) ≡ n = omega (arith, length-take (length out) entries, all) in
    rw long (ap (λ (front : List ℕ). front ++ drop n out) (ap (λ (k : ℕ). take k entries) all ∙ take_min (length out) entries))

-- no entry written leaves a buffer as it was
pub over_none : (entries buffer : List ℕ) → buffer ≡ over (take 0 entries) buffer
unfolding over
over_none entries buffer = refl

-- one more entry written
pub over_more : (entries buffer : List ℕ) (k : ℕ) → k < length entries → k < length buffer →
    set (over (take k entries) buffer) k (get_or entries k 0) ≡ over (take (k + 1) entries) buffer
over_more entries buffer k h l =
    ap (λ (b : List ℕ). set b k (get_or entries k 0)) (sym (front_over entries buffer k (omega arith)))
    ∙ front_turn entries buffer k h l
    ∙ front_over entries buffer (k + 1) (omega arith)

-- entries that all have room
pub all_over : (entries out : List ℕ) → length entries ≤ length out → over (take (length out) entries) out ≡ over entries out
all_over entries out h = ap (λ (l : List ℕ). over l out) (take_all (length out) entries h)

-- the first K entries of a buffer that K entries were written to are those
pub front_written : (K : ℕ) (entries buffer : List ℕ) → length entries ≡ K → take K (over entries buffer) ≡ entries
unfolding over
front_written K entries buffer h = take_at entries (drop (length entries) buffer) K h

-- and what stands behind them stays
pub rest_kept : (K : ℕ) (entries buffer : List ℕ) → length entries ≡ K → drop K (over entries buffer) ≡ drop K buffer
unfolding over
rest_kept K entries buffer h = drop_at entries (drop (length entries) buffer) K h ∙ ap (λ (n : ℕ). drop n buffer) h

-- what is stored behind a run of stores makes the run longer
pub sets_then : (out : List ℕ) (at : ℕ) (xs ys : List ℕ) (next : ℕ) → next ≡ at + length xs → sets (sets out at xs) next ys ≡ sets out at (xs ++ ys)
sets_then out at [] ys next e = ap (λ (n : ℕ). sets out n ys) (e ∙ same)
  where
    same : at + 0 ≡ at
    same = omega arith
sets_then out at (x ∷ xs) ys next e = sets_then (set out at x) (suc at) xs ys next (e ∙ same)
  where
    same : at + suc (length xs) ≡ suc at + length xs
    same = omega arith

-- a list stored at the front of a buffer stands before the rest of it
pub stored_front : (out file : List ℕ) → length file ≤ length out → sets out 0 file ≡ file ++ drop (length file) out
stored_front out file h =
    let e : 0 + length file ≡ length file = omega arith in
    sets-eq file out 0 (omega arith) ∙ ap (λ (n : ℕ). file ++ drop n out) e

-- what a writer's tests passed, where it answers how much it wrote
answer_passed : (x : Result Unit Refusal) (needed bytes : ℕ) → write_answer x needed ≡ Ok bytes → (x ≡ Ok tt) × (bytes ≡ needed)
unfolding write_answer
answer_passed (Ok _) needed bytes h = (refl, cc)
answer_passed (Err why) needed bytes h = absurd (let z : ◌≡◌ {A = ℕ} 0 1 = cc in omega arith)

module _ (tested : Result Unit Refusal) (needed room : ℕ) where
  -- a writer whose other tests refuse is refused for the same
  pub write_fault : (why : Refusal) → tested ≡ Err why → write_reply tested needed room ≡ Err why
  unfolding write_reply write_answer
  write_fault why h = ap (λ (x : Result Unit Refusal). write_answer x needed) (then_refused tested (check_room needed room) why h)

  -- where they pass, the room decides
  pub write_short : (why : Refusal) → tested ≡ Ok tt → check_room needed room ≡ Err why → write_reply tested needed room ≡ Err why
  unfolding write_reply write_answer
  write_short why h short = ap (λ (x : Result Unit Refusal). write_answer x needed) (then_sound tested (check_room needed room) h ∙ short)

  -- where there is room too, the file is written
  pub write_fits : tested ≡ Ok tt → check_room needed room ≡ Ok tt → write_reply tested needed room ≡ Ok needed
  unfolding write_reply write_answer
  write_fits h enough = ap (λ (x : Result Unit Refusal). write_answer x needed) (then_sound tested (check_room needed room) h ∙ enough)

  -- what an answer of bytes says: the tests have passed, the bytes are the file's, and there was room
  pub write_says : (bytes : ℕ) → write_reply tested needed room ≡ Ok bytes → (tested ≡ Ok tt) × (bytes ≡ needed) × (needed ≤ room)
  unfolding write_reply
  write_says bytes h =
      let passed = answer_passed (then tested (check_room needed room)) needed bytes h in (
        first_sound tested (check_room needed room) passed.0,
        passed.1,
        room_held needed room (next_sound tested (check_room needed room) passed.0),
      )

-- two results of the test for room are equal
pub same_room : (need room : ℕ) (a b : Result Unit Refusal) → a ≡ check_room need room → b ≡ check_room need room → a ≡ b
same_room need room a b ha hb = ha ∙ sym hb

-- two buffers that were written alike are equal
pub same_front : (entries out a b : List ℕ) → a ≡ over (take (length out) entries) out → b ≡ over (take (length out) entries) out → a ≡ b
same_front entries out a b ha hb = ha ∙ sym hb

-- a part of a buffer that a list was copied to
pub part_stored : (out part bytes : List ℕ) (at k : ℕ) → at + length bytes ≤ length out → part ≡ bytes → length bytes ≡ k →
    put_mid at k out part ≡ sets out at bytes
part_stored out part bytes at k room same long =
    put_mid-paste at k out part bytes (length bytes) same long refl ∙ paste_all out at bytes (length bytes) refl ∙
    sym (append_assoc (take at out) bytes (drop (at + length bytes) out)) ∙ sym (sets-eq bytes out at room)
