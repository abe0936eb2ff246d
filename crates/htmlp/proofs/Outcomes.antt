-- What comes of a call that is passed up.
use Rattle.htmlp.proofs.Names.{◌≡◌, Result, Ok, Err, None, MatchResult, ap, refl, sym, subst, IsErrAnd, Refusal, Fault, IsRefusalOf, IsOutcome}
use Rattle.htmlp.specs.declared.fault.Fault.TheVariants as fault

pub refused : (outcome : Result (Unit {0}) Fault) (refusal : Refusal) → IsErrAnd outcome (λ f. f ≡ fault.Refused refusal None)
    → IsOutcome None (Err refusal) outcome
refused (Ok _) refusal is = absurd is
refused (Err f) refusal is = subst (IsRefusalOf None refusal) (sym is) (refl, refl)

pub passed_on : {outcome : Result (Unit {0}) Fault} {f : Fault} → IsErrAnd outcome (λ g. g ≡ f) → outcome ≡ Err f
passed_on {outcome = Ok _} is = absurd is
passed_on {outcome = Err g} is = ap (λ x. Err x) is

pub fails : {T : Type 0} (r : Result T Fault) (f : Fault) (P : T → Type 0) (Q : Fault → Type 0) → IsErrAnd r (λ g. g ≡ f) → Q f → MatchResult r P Q
fails (Ok x) f P Q is h = absurd is
fails (Err g) f P Q is h = subst Q (sym is) h
