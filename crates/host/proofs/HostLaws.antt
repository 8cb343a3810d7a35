-- Laws of the calls for C, as their code cites them: what a check refuses, and the band of a frequency.
use Rattle.std.specs.Prelude.{ℕ, Bool, cond, true, false, ◌≢◌, ◌≡◌, ℤ, Ok, Err}
use Rattle.std.proofs.Common.{sym, ap, ◌∙◌, arith, eq-eqb, ne_eqb}
use Rattle.refusal.specs.declared.Refusal.{Refusal}
use Rattle.refusal.specs.Refusal.{number_of}
use Rattle.host.specs.Host.{verdict_refused, which_of}
use Rattle.refusal.specs.declared.Refusal.TheVariants.{BandOutside}
use Rattle.theory.proofs.TestLaws.{by_test}
use Rattle.grid.specs.declared.Band.{Band}
use Rattle.grid.specs.Grid.{allowed_band, band_reply, frequency_reply}
use Rattle.grid.specs.ReplyLaws.{band_allowed, band_outside, frequency_outside}

-- ---- what a check refuses

-- 10 is of the buffer, and any other number of the plan
pub of_buffer : (why : Refusal) (number : ℕ) → number ≡ number_of why → number ≡ 10 → verdict_refused 3 why ≡ verdict_refused (which_of why) why
unfolding which_of
of_buffer why number same h = ap (λ (b : Bool). verdict_refused (cond b 3 2) why) (sym (eq-eqb (number_of why) 10 (sym same ∙ h)))

pub of_plan : (why : Refusal) (number : ℕ) → number ≡ number_of why → number ≢ 10 → verdict_refused 2 why ≡ verdict_refused (which_of why) why
unfolding which_of
of_plan why number same h = ap (λ (b : Bool). verdict_refused (cond b 3 2) why) (sym (ne_eqb (number_of why) 10 (λ (e : number_of why ≡ 10). h (same ∙ e))))

-- ---- the band of a frequency

-- a band that was made is that of its numbers
pub band_made : (n0 : ℤ) (S G : ℕ) (band : Band) → Ok band ≡ band_reply n0 S G → band ≡ record { n0 = n0; slots = S; guard = G }
band_made n0 S G band e =
    by_test (allowed_band (record { n0 = n0; slots = S; guard = G }))
    (λ (yes : allowed_band (record { n0 = n0; slots = S; guard = G }) ≡ true).
    let same : Ok band ≡ Ok (record { n0 = n0; slots = S; guard = G }) = e ∙ band_allowed n0 S G yes in cc)
    (λ (no : allowed_band (record { n0 = n0; slots = S; guard = G }) ≡ false).
    let other : Ok band ≡ Err (BandOutside 0) = e ∙ band_outside n0 S G no in
    absurd (let z : ◌≡◌ {A = ℕ} 0 1 = cc in omega arith))

-- numbers that make no band have no frequency either
pub band_unmade : (n0 : ℤ) (S G s w : ℕ) (why : Refusal) → Err why ≡ band_reply n0 S G →
    Err why ≡ frequency_reply (record { n0 = n0; slots = S; guard = G }) s w
band_unmade n0 S G s w why e =
    by_test (allowed_band (record { n0 = n0; slots = S; guard = G }))
    (λ (yes : allowed_band (record { n0 = n0; slots = S; guard = G }) ≡ true).
    let other : Err why ≡ Ok (record { n0 = n0; slots = S; guard = G }) = e ∙ band_allowed n0 S G yes in
    absurd (let z : ◌≡◌ {A = ℕ} 0 1 = cc in omega arith))
    (λ (no : allowed_band (record { n0 = n0; slots = S; guard = G }) ≡ false).
    let same : Err why ≡ Err (BandOutside 0) = e ∙ band_outside n0 S G no in
    let fault : why ≡ BandOutside 0 = cc in
    ap Err fault ∙ sym (frequency_outside (record { n0 = n0; slots = S; guard = G }) s w no))
