-- No allowed plan ends below what demands that all share links with each other need side by side.
use Rattle.std.specs.Prelude.{ℕ, suc, ◌+◌, ◌*◌, ◌-◌, ◌≤◌, true, ◌≢◌, ◌≡◌, refl, length}
use mathlib.Core.List.{List, [], ◌∷◌, ◌++◌, Memᴰ}
use Rattle.std.proofs.Common.{⊎_elim, mul-zero, mul-suc, arith}
use Rattle.theory.specs.Problem.{Problem, Row, end_of, apart, Allowed, plan_end}
use Rattle.theory.specs.Arrange.{Arrange}
use Rattle.theory.specs.inner.Bound.{packed, widths, AllMeet}
use Rattle.theory.specs.Earlier.{NoRepeats}
use Rattle.theory.specs.inner.AsLow.{NeverFalling}
use Rattle.theory.proofs.ApartLaws.{apart_cases}
use Rattle.theory.proofs.ArrangeLaws.{arrange_mem, arrange_no_repeats, arrange_length, no_repeats_first, no_repeats_rest}
use Rattle.theory.proofs.ProblemLaws.{end_is}
use Rattle.theory.proofs.ByStartLaws.{by_start, by_start_rises}
use Rattle.theory.proofs.AllowedLaws.{allowed_part, allowed_own_end, allowed_alone}

-- of two joined demands that are apart the one that starts no later ends, the gap included, before the other starts
pub next_starts : (P : Problem) (i s j t : ℕ) → P.joined i j ≡ true → apart P i s j t ≡ true → s ≤ t → 1 ≤ P.width j →
    end_of P i s + P.gap i j ≤ t
next_starts P i s j t e a h w =
    ⊎_elim (λ before. before) (λ after. absurd (omega (arith, end_is P j t))) (apart_cases P i s j t a e)

-- the packed room of one demand is its width
pub packed_one : (P : Problem) (i : ℕ) → packed P (i ∷ []) ≡ P.width i
unfolding packed
packed_one P i = refl

-- the packed room with one more in front is its width, the gap to the next, and the room of the others
pub packed_more : (P : Problem) (i j : ℕ) (order : List ℕ) →
    packed P (i ∷ j ∷ order) ≡ P.width i + P.gap i j + packed P (j ∷ order)
unfolding packed
packed_more P i j order = refl

-- a group that meets whole meets in each part
all_meet_rest : (P : Problem) (i : ℕ) (order : List ℕ) → AllMeet P (i ∷ order) → AllMeet P order
unfolding AllMeet
all_meet_rest P i order meet j k mj mk ne = meet j k (mathlib.Core.List.Memᴰ.tail mj) (mathlib.Core.List.Memᴰ.tail mk) ne

-- along an order whose starts never fall, a group that meets whole ends no lower than its first start and its packed room
packed_rises : (P : Problem) (plan : ℕ → ℕ) (e i : ℕ) (order : List ℕ) → NoRepeats (i ∷ order) → NeverFalling plan (i ∷ order) →
    ((j : ℕ) → Memᴰ j (i ∷ order) → 1 ≤ P.width j) → AllMeet P (i ∷ order) → Allowed P e [] (i ∷ order) plan →
    plan i + packed P (i ∷ order) ≤ e
unfolding NeverFalling AllMeet
packed_rises P plan e i [] once rising wide meet a =
    omega (arith, packed_one P i, a.within i (mathlib.Core.List.Memᴰ.head refl), end_is P i (plan i))
packed_rises P plan e i (j ∷ order) once rising wide meet a =
    let second : Memᴰ j (i ∷ j ∷ order) = mathlib.Core.List.Memᴰ.tail (mathlib.Core.List.Memᴰ.head refl) in
    let differ : i ≢ j = λ same. no_repeats_first i (j ∷ order) once (mathlib.Core.List.Memᴰ.head same) in
    let rest : plan j + packed P (j ∷ order) ≤ e =
    packed_rises P plan e j order (no_repeats_rest i (j ∷ order) once) rising.1 (λ k m. wide k (mathlib.Core.List.Memᴰ.tail m))
    (all_meet_rest P i (j ∷ order) meet)
    (allowed_part P e [] (i ∷ j ∷ order) (j ∷ order) plan (λ k m. mathlib.Core.List.Memᴰ.tail m) a) in
    let follows : end_of P i (plan i) + P.gap i j ≤ plan j =
    next_starts P i (plan i) j (plan j) (meet i j (mathlib.Core.List.Memᴰ.head refl) second differ)
    (a.clear_of_others i j (mathlib.Core.List.Memᴰ.head refl) second differ) (rising.0 j (mathlib.Core.List.Memᴰ.head refl)) (wide j second) in
    omega (arith, packed_more P i j order, end_is P i (plan i))

-- a group that meets whole ends no lower than the packed room of an order whose starts never fall
packed_within : (P : Problem) (plan : ℕ → ℕ) (e : ℕ) (order : List ℕ) → NoRepeats order → NeverFalling plan order →
    ((j : ℕ) → Memᴰ j order → 1 ≤ P.width j) → AllMeet P order → Allowed P e [] order plan → packed P order ≤ e
unfolding packed
packed_within P plan e [] once rising wide meet a = omega arith
packed_within P plan e (i ∷ order) once rising wide meet a = omega (arith, packed_rises P plan e i order once rising wide meet a)

-- a group that meets whole ends no lower than its packed room in some order
pub packed_room : (P : Problem) (e : ℕ) (group : List ℕ) (plan : ℕ → ℕ) → Allowed P e [] group plan → NoRepeats group →
    ((i : ℕ) → Memᴰ i group → 1 ≤ P.width i) → AllMeet P group →
    (order : List ℕ) × Arrange order group × (packed P order ≤ e)
unfolding AllMeet
packed_room P e group plan a once wide meet =
    let (order, listed, by) = by_start plan group in
    let part : (i : ℕ) → Memᴰ i order → Memᴰ i group = arrange_mem order group listed in (
      order,
      listed,
      packed_within P plan e order (arrange_no_repeats order group listed once) (by_start_rises plan group order by)
          (λ i m. wide i (part i m)) (λ i j mi mj ne. meet i j (part i mi) (part j mj) ne)
          (allowed_part P e [] group order plan part a),
    )

-- no allowed plan ends below the packed room, in some order, of a group of its demands that meets whole
pub packed_bound : (P : Problem) (S : ℕ) (rows : List Row) (todo group : List ℕ) (plan : ℕ → ℕ) → Allowed P S rows todo plan →
    NoRepeats group → ((i : ℕ) → Memᴰ i group → Memᴰ i todo) → ((i : ℕ) → Memᴰ i group → 1 ≤ P.width i) →
    AllMeet P group → (order : List ℕ) × Arrange order group × (packed P order ≤ plan_end P rows todo plan)
packed_bound P S rows todo group plan a once inside wide meet =
    let e : ℕ = plan_end P rows todo plan in
    packed_room P e group plan
    (allowed_part P e [] todo group plan inside (allowed_alone P e rows todo plan (allowed_own_end P S rows todo plan a)))
    once wide meet

-- the sum of widths with a demand in the middle
widths_middle : (P : Problem) (before : List ℕ) (i : ℕ) (after : List ℕ) →
    widths P (before ++ (i ∷ after)) ≡ P.width i + widths P (before ++ after)
unfolding widths
widths_middle P [] i after = refl
widths_middle P (j ∷ before) i after = omega (arith, widths_middle P before i after)

-- the widths of a list have the same sum in each of its orders
pub widths_arrange : (P : Problem) (order list : List ℕ) → Arrange order list → widths P order ≡ widths P list
unfolding Arrange widths
widths_arrange P [] list a = rw a
widths_arrange P (i ∷ order) list a =
    let (before, after, split, rest) = a in
    rw split (omega (arith, widths_middle P before i after, widths_arrange P order (before ++ after) rest))

-- with one gap for all, the packed room is the sum of widths and a gap between each two neighbours
pub packed_constant : (P : Problem) (G : ℕ) → ((i j : ℕ) → P.gap i j ≡ G) → (i : ℕ) (order : List ℕ) →
    packed P (i ∷ order) ≡ widths P (i ∷ order) + G * length order
unfolding widths
packed_constant P G same i [] = omega (arith, packed_one P i, mul-zero G)
packed_constant P G same i (j ∷ order) =
    omega (arith, packed_more P i j order, packed_constant P G same j order, same i j, mul-suc G (length order))

-- with one gap for all, what is at least the packed room is at least the sum of widths and the gaps
packed_sum : (P : Problem) (G : ℕ) → ((i j : ℕ) → P.gap i j ≡ G) → (order : List ℕ) (e : ℕ) → packed P order ≤ e →
    widths P order + G * (length order - 1) ≤ e
unfolding widths
packed_sum P G same [] e h = omega (arith, mul-zero G)
packed_sum P G same (i ∷ order) e h =
    let others : suc (length order) - 1 ≡ length order = omega arith in
    rw others (omega (arith, packed_constant P G same i order))

-- with one gap for all, no allowed plan ends below the sum of widths of a group that meets whole and a gap between each two
pub constant_bound : (P : Problem) (G : ℕ) → ((i j : ℕ) → P.gap i j ≡ G) → (S : ℕ) (rows : List Row) (todo group : List ℕ) (plan : ℕ → ℕ) →
    Allowed P S rows todo plan → NoRepeats group → ((i : ℕ) → Memᴰ i group → Memᴰ i todo) →
    ((i : ℕ) → Memᴰ i group → 1 ≤ P.width i) → AllMeet P group →
    widths P group + G * (length group - 1) ≤ plan_end P rows todo plan
constant_bound P G same S rows todo group plan a once inside wide meet =
    let (order, listed, room) = packed_bound P S rows todo group plan a once inside wide meet in
    rw (← widths_arrange P order group listed, ← arrange_length order group listed)
    (packed_sum P G same order (plan_end P rows todo plan) room)
