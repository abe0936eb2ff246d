-- Handing an error to a sink, whatever it returns.
use Rattle.hmarkup.proofs.Names.{[], ◌∷◌, refl, Result, Ok, Err, Hands}

module _ {S X E : Type 0} (gives : S → X → Result (Unit {0}) E → S → Type 0) where
  pub hand_one : (old new : S) (x : X) (r : Result (Unit {0}) E) → gives old x r new → Hands gives old (x ∷ []) r new
  hand_one old new x (Ok u) g = (Ok u, new, g, (refl, refl))
  hand_one old new x (Err e) g = (Err e, new, g, (refl, refl))
