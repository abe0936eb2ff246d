-- What is known of an error is known of what `?` makes of it.
use Rattle.std.proofs.Common.{◌≡◌, ap, Result, Ok, Err}
use Rattle.std.specs.Prelude.{IsErrAnd}

pub err_is : {T E : Type 0} (r : Result T E) (e : E) → IsErrAnd r (λ y. y ≡ e) → r ≡ Err e
err_is (Ok x) e h = absurd h
err_is (Err y) e h = ap (λ x. Err x) h
