-- What comes of a call that is passed up.
use Rattle.html_c.proofs.Names.{◌≡◌, ℕ, Result, Ok, Err, sym, subst, IsErrAnd, CallFault, MatchResult, GivesNothing, no_size, of_size}

pub fails : {T : Type 0} (r : Result T CallFault) (f : CallFault) (P : T → Type 0) (Q : CallFault → Type 0) → IsErrAnd r (λ g. g ≡ f) → Q f → MatchResult r P Q
fails (Ok x) f P Q is h = absurd is
fails (Err g) f P Q is h = subst Q (sym is) h

-- reasons that are among others
pub reasons : {size : ℕ} {P Q : CallFault → Type 0} {why : CallFault} → ((f : CallFault) → P f → Q f) → GivesNothing size P why → GivesNothing size Q why
reasons among (no_size is) = no_size is
reasons {why = why} among (of_size is because) = of_size is (among why because)

-- the same of what is said of the whole outcome
pub passed : {T : Type 0} (r : Result T CallFault) (f : CallFault) (P : Result T CallFault → Type 0) → IsErrAnd r (λ g. g ≡ f) → P (Err f) → P r
passed (Ok x) f P is h = absurd is
passed (Err g) f P is h = subst (λ (e : CallFault). P (Err e)) (sym is) h
