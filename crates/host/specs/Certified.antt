-- What C is told of a plan and a certificate that are held against a request file.
use Rattle.std.specs.Prelude.{ℕ, cond, List, Result, Ok, Err, eqb}
use Rattle.refusal.specs.declared.Refusal.{Refusal}
use Rattle.refusal.specs.Refusal.{number_of, place_of}
use Rattle.reading.specs.Reading.{FileReading, refused, accepted}
use Rattle.certify.specs.declared.Certified.{Certified}
use Rattle.certify.specs.declared.Certified.TheVariants.{Best, AtLeast}
use Rattle.certify.specs.Reply.{certify_reply}
use Rattle.host.specs.declared.LightplanCertified.{LightplanCertified}

-- a refusal: its number and its place, what is refused, and all else 0
unfoldable pub certified_refused : ℕ → Refusal → LightplanCertified
certified_refused which why = record { refusal = number_of why; place = place_of why; which = which; outcome = 0; end = 0; low = 0 }

-- what is refused of an accepted request file: the plan, 2; where the number is 30 the certificate, 4
unfoldable pub plan_or_certificate : Refusal → ℕ
plan_or_certificate why = cond (eqb (number_of why) 30) 4 2

-- a reply: 0 at place 0 and 0 for nothing refused, with 1 where the plan's end is the certificate's, and 2 where it is above that; or the
-- refusal
unfoldable pub certify_told : Result Certified Refusal → LightplanCertified
unfolding certified_refused plan_or_certificate
certify_told (Ok (Best e)) = record { refusal = 0; place = 0; which = 0; outcome = 1; end = e; low = e }
certify_told (Ok (AtLeast low e)) = record { refusal = 0; place = 0; which = 0; outcome = 2; end = e; low = low }
certify_told (Err why) = certified_refused (plan_or_certificate why) why

-- the answer for a file, starts, weights and a: the reader's refusal, with 1 for the request file, or the reply
unfoldable pub certified_entry : FileReading → List ℕ → List ℕ → ℕ → LightplanCertified
unfolding certified_refused certify_told
certified_entry (refused why) starts weights a = certified_refused 1 why
certified_entry (accepted v) starts weights a = certify_told (certify_reply v starts weights a)
