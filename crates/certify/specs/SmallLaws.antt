-- What a certificate tells of a request made small, it tells of the request.
use Rattle.refusal.specs.declared.Refusal.{Refusal}
use Prim.Native.Nat.{ℕ, zero, suc, ◌+◌}
use Rattle.std.specs.Prelude.{not, List, ◌≡◌, Result}
use Rattle.std.proofs.Math.Path.{refl, ap}
use Rattle.std.proofs.Common.{◌∙◌}
use Rattle.refusal.specs.declared.Refusal.TheVariants.{NoCertificate}
use Rattle.theory.specs.Problem.{Problem}
use Rattle.request.specs.View.{View}
use Rattle.request.specs.Check.{then, must}
use Rattle.request.specs.Sound.{SoundRequest}
use Rattle.request.specs.inner.Limits.{Limits}
use Rattle.meeting.specs.declared.Compact.{Compact}
use Rattle.meeting.specs.Compact.{compact_of}
use Rattle.meeting.specs.inner.Small.{problem_in}
use Rattle.meeting.specs.CompactLaws.{small_problem}
use Rattle.certify.specs.Reply.{check_weights, weighs_beside, heavy_three, heavy_with, check_sets, right_shape, check_certificate, sum_of, low_of, certified_with}
use Rattle.certify.specs.inner.Sets.{sharing_in, checked_in, low_in, told_in}

module _ (c : Compact) (weights : List ℕ) (a K : ℕ) where
  -- pairs and threes are told by the words alone
  sets_by_words : (i n : ℕ) → check_sets (sharing_in c.words) weights a K i n ≡ check_sets (problem_in c) weights a K i n
  unfolding check_sets heavy_with heavy_three weighs_beside sharing_in problem_in
  sets_by_words i zero = refl
  sets_by_words i (suc n) = ap (then (must (not (heavy_with (problem_in c) weights a K i)) (NoCertificate i))) (sets_by_words (i + 1) n)

  -- and so is whether a certificate passes its test
  pub checked_by_words : checked_in (sharing_in c.words) K weights a ≡ checked_in (problem_in c) K weights a
  unfolding checked_in
  checked_by_words =
      ap (λ (sets : Result Unit Refusal). then (must (right_shape K weights a) (NoCertificate K)) (then (check_weights a 0 weights) sets)) (sets_by_words 0 K)

-- what is told of the small form of a sound request is told of the request
pub small_told : (v : View) → SoundRequest v → Limits v → (c : Compact) → c ≡ compact_of v → (weights : List ℕ) (a end : ℕ) →
    told_in (problem_in c) c.guard c.count weights a end ≡ certified_with v weights a end
unfolding compact_of told_in checked_in low_in certified_with check_certificate low_of sum_of
small_told v sound limits c is weights a end =
    ap (λ (d : Compact). told_in (problem_in d) d.guard d.count weights a end) is
    ∙ ap (λ (P : Problem). told_in P v.band.guard v.demand_count weights a end) (small_problem v sound limits)
