-- What is told of an answer about a request says all of it.
use Rattle.refusal.specs.declared.Refusal.{Refusal}
use Rattle.std.specs.Prelude.{ℕ, ◌≡◌, refl, get_or, Result, Ok, Err}
use Rattle.std.proofs.Common.{sym, ap}
use Rattle.refusal.specs.Told.{Told}
use Rattle.refusal.specs.ToldLaws.{refusal_told_whole, refusal_told_fault}
use Rattle.request.specs.Told.{checked_told, written_told}

-- two results of a test that are told alike are the same
pub checked_told_whole : (r r' : Result Unit Refusal) → checked_told r ≡ checked_told r' → r ≡ r'
unfolding checked_told
checked_told_whole (Ok _) (Ok _) h = refl
checked_told_whole (Ok _) (Err why) h = absurd (refusal_told_fault why _ _ (sym h))
checked_told_whole (Err why) (Ok _) h = absurd (refusal_told_fault why _ _ h)
checked_told_whole (Err why) (Err why') h = ap Err (refusal_told_whole why why' h)

-- and two results of a writer
pub written_told_whole : (r r' : Result ℕ Refusal) → written_told r ≡ written_told r' → r ≡ r'
unfolding written_told
written_told_whole (Ok n) (Ok n') h = ap (λ (t : Told ℕ). Ok (get_or t.1 0 0)) h
written_told_whole (Ok n) (Err why) h = absurd (refusal_told_fault why _ _ (sym h))
written_told_whole (Err why) (Ok n) h = absurd (refusal_told_fault why _ _ h)
written_told_whole (Err why) (Err why') h = ap Err (refusal_told_whole why why' h)
