-- What a program in C may rely on of certificates: one answer, the library's, with nothing lost, and it keeps what it promises.
use Rattle.std.specs.Prelude.{ℕ, ◌≤◌, ◌<◌, Bool, cond, true, false, List, Result, Ok, Err, ◌≢◌, ◌≡◌, refl, eqb}
use Rattle.std.proofs.Common.{sym, ap, subst, ◌∙◌, arith, eq-eqb, ne_eqb}
use Rattle.theory.proofs.TestLaws.{by_test}
use Rattle.refusal.specs.declared.Refusal.{Refusal}
use Rattle.refusal.specs.Refusal.{number_of}
use Rattle.refusal.specs.RefusalLaws.{same_refusal, some_number}
use Rattle.request.specs.View.{View}
use Rattle.request.specs.RoundTrip.{Bytes}
use Rattle.reading.specs.Reading.{FileReading, refused, accepted, read_file}
use Rattle.writing.specs.RoundTripLaws.{accepted_encodes}
use Rattle.certify.specs.declared.Certified.{Certified}
use Rattle.certify.specs.declared.Certified.TheVariants.{Best, AtLeast}
use Rattle.certify.specs.Reply.{certify_reply}
use Rattle.certify.specs.Promise.{NoneBelow, PlanEnds, Promised}
use Rattle.certify.specs.PromiseLaws.{certify_kept}
use Rattle.host.specs.declared.LightplanCertified.{LightplanCertified}
use Rattle.host.specs.Certified.{certified_refused, plan_or_certificate, certify_told, certified_entry}

-- two results of `lightplan_certify` are equal
pub same_certified : (file starts weights : List ℕ) (a : ℕ) (r r' : LightplanCertified) →
    r ≡ certified_entry (read_file file) starts weights a → r' ≡ certified_entry (read_file file) starts weights a → r ≡ r'
same_certified file starts weights a r r' h h' = h ∙ sym h'

-- ---- what is refused, as the code tests it

-- 30 is of the certificate, and any other number of the plan
pub of_certificate : (why : Refusal) (number : ℕ) → number ≡ number_of why → number ≡ 30 →
    certified_refused 4 why ≡ certified_refused (plan_or_certificate why) why
unfolding plan_or_certificate
of_certificate why number same h =
    ap (λ (b : Bool). certified_refused (cond b 4 2) why) (sym (eq-eqb (number_of why) 30 (sym same ∙ h)))

pub of_its_plan : (why : Refusal) (number : ℕ) → number ≡ number_of why → number ≢ 30 →
    certified_refused 2 why ≡ certified_refused (plan_or_certificate why) why
unfolding plan_or_certificate
of_its_plan why number same h =
    ap (λ (b : Bool). certified_refused (cond b 4 2) why) (sym (ne_eqb (number_of why) 30 (λ (e : number_of why ≡ 30). h (same ∙ e))))

-- ---- the library's answer

-- a file that is refused: the reader's refusal
pub certify_refused : (file : List ℕ) (why : Refusal) → read_file file ≡ refused why →
    (starts weights : List ℕ) (a : ℕ) → certified_entry (read_file file) starts weights a ≡ certified_refused 1 why
unfolding certified_entry
certify_refused file why read starts weights a = ap (λ (r : FileReading). certified_entry r starts weights a) read

-- a file of a request: what the library's call answers for that request
pub certify_answers : (file : List ℕ) (v : View) → read_file file ≡ accepted v →
    (starts weights : List ℕ) (a : ℕ) → certified_entry (read_file file) starts weights a ≡ certify_told (certify_reply v starts weights a)
unfolding certified_entry
certify_answers file v read starts weights a = ap (λ (r : FileReading). certified_entry r starts weights a) read

-- ---- nothing is lost

-- two replies that a C program is told alike are equal
pub certify_told_whole : (r r' : Result Certified Refusal) → certify_told r ≡ certify_told r' → r ≡ r'
unfolding certify_told certified_refused
certify_told_whole (Ok (Best e)) (Ok (Best e')) h = ap (λ (c : LightplanCertified). Ok (Best c.end)) h
certify_told_whole (Ok (Best e)) (Ok (AtLeast low e')) h = absurd (omega (arith, ap (λ (c : LightplanCertified). c.outcome) h))
certify_told_whole (Ok (Best e)) (Err why) h = absurd (omega (arith, ap (λ (c : LightplanCertified). c.refusal) h, some_number why))
certify_told_whole (Ok (AtLeast low e)) (Ok (Best e')) h = absurd (omega (arith, ap (λ (c : LightplanCertified). c.outcome) h))
certify_told_whole (Ok (AtLeast low e)) (Ok (AtLeast low' e')) h = ap (λ (c : LightplanCertified). Ok (AtLeast c.low c.end)) h
certify_told_whole (Ok (AtLeast low e)) (Err why) h =
    absurd (omega (arith, ap (λ (c : LightplanCertified). c.refusal) h, some_number why))
certify_told_whole (Err why) (Ok (Best e)) h = absurd (omega (arith, ap (λ (c : LightplanCertified). c.refusal) h, some_number why))
certify_told_whole (Err why) (Ok (AtLeast low e)) h =
    absurd (omega (arith, ap (λ (c : LightplanCertified). c.refusal) h, some_number why))
certify_told_whole (Err why) (Err why') h =
    ap Err (same_refusal why why' (ap (λ (c : LightplanCertified). c.refusal) h) (ap (λ (c : LightplanCertified). c.place) h))

-- what was refused of a request file that is accepted is the plan or the certificate, and never the request: that is told as 1 alone
pub certificate_told_apart : (r : Result Certified Refusal) → (certify_told r).which ≢ 1
unfolding certify_told certified_refused plan_or_certificate
certificate_told_apart (Ok (Best e)) h = absurd (omega (arith, h))
certificate_told_apart (Ok (AtLeast low e)) h = absurd (omega (arith, h))
certificate_told_apart (Err why) h =
    by_test (eqb (number_of why) 30)
    (λ (thirty : eqb (number_of why) 30 ≡ true). let z : ◌≡◌ {A = ℕ} 4 1 = rw thirty at h in absurd (omega (arith, z)))
    (λ (other : eqb (number_of why) 30 ≡ false). let z : ◌≡◌ {A = ℕ} 2 1 = rw other at h in absurd (omega (arith, z)))

-- an answer has an outcome, and a refusal none
pub certified_has_outcome : (r : Result Certified Refusal) → (certify_told r).refusal ≡ 0 → 1 ≤ (certify_told r).outcome
unfolding certify_told certified_refused
certified_has_outcome (Ok (Best e)) h = omega arith
certified_has_outcome (Ok (AtLeast low e)) h = omega arith
certified_has_outcome (Err why) h = absurd (omega (arith, h, some_number why))

pub uncertified_has_none : (r : Result Certified Refusal) → (certify_told r).refusal ≢ 0 → (certify_told r).outcome ≡ 0
unfolding certify_told certified_refused
uncertified_has_none (Ok (Best e)) h = absurd (h refl)
uncertified_has_none (Ok (AtLeast low e)) h = absurd (h refl)
uncertified_has_none (Err why) h = refl

-- ---- what is told is kept

-- of a reply that keeps its promise
best_kept : (v : View) (starts : List ℕ) (r : Result Certified Refusal) → Promised v starts r → (certify_told r).outcome ≡ 1 →
    PlanEnds v starts (certify_told r).end × NoneBelow v (certify_told r).end
unfolding Promised certify_told certified_refused
best_kept v starts (Ok (Best e)) kept h = kept
best_kept v starts (Ok (AtLeast low e)) kept h = absurd (omega (arith, h))
best_kept v starts (Err why) kept h = absurd (omega (arith, h))

least_kept : (v : View) (starts : List ℕ) (r : Result Certified Refusal) → Promised v starts r → (certify_told r).outcome ≡ 2 →
    PlanEnds v starts (certify_told r).end × NoneBelow v (certify_told r).low × ((certify_told r).low < (certify_told r).end)
unfolding Promised certify_told certified_refused
least_kept v starts (Ok (Best e)) kept h = absurd (omega (arith, h))
least_kept v starts (Ok (AtLeast low e)) kept h = kept
least_kept v starts (Err why) kept h = absurd (omega (arith, h))

-- a file of a request
module _ (file : List ℕ) (v : View) (bytes : Bytes file) (read : read_file file ≡ accepted v) where
  -- the outcome 1: the plan is accepted with the end told, and no allowed plan ends lower
  pub certified_best : (starts weights : List ℕ) (a : ℕ) → (certified_entry (read_file file) starts weights a).outcome ≡ 1 →
      PlanEnds v starts (certified_entry (read_file file) starts weights a).end ×
      NoneBelow v (certified_entry (read_file file) starts weights a).end
  certified_best starts weights a =
      let kept = best_kept v starts (certify_reply v starts weights a) (certify_kept v (accepted_encodes file v bytes read).counted starts weights a) in
      subst (λ (c : LightplanCertified). c.outcome ≡ 1 → PlanEnds v starts c.end × NoneBelow v c.end)
      (sym (certify_answers file v read starts weights a)) kept

  -- the outcome 2: it is accepted with the end told, no allowed plan ends below the other, and that is lower
  pub certified_at_least : (starts weights : List ℕ) (a : ℕ) → (certified_entry (read_file file) starts weights a).outcome ≡ 2 →
      PlanEnds v starts (certified_entry (read_file file) starts weights a).end ×
      NoneBelow v (certified_entry (read_file file) starts weights a).low ×
      ((certified_entry (read_file file) starts weights a).low < (certified_entry (read_file file) starts weights a).end)
  certified_at_least starts weights a =
      let kept = least_kept v starts (certify_reply v starts weights a) (certify_kept v (accepted_encodes file v bytes read).counted starts weights a) in
      subst (λ (c : LightplanCertified). c.outcome ≡ 2 → PlanEnds v starts c.end × NoneBelow v c.low × (c.low < c.end))
      (sym (certify_answers file v read starts weights a)) kept
