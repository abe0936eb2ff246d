-- What the calls that make a node promise.
use Rattle.std.specs.Prelude.{◌≡◌, ◌<◌, ◌≤◌, ◌↔◌, ◌⊎◌, ℕ, Result, Err, OnOk, OnErr, IfOk, IfErr}
use Rattle.hnodes.specs.Forest.{What, IsOutside}
use Rattle.hnodes.specs.Edits.{Nodes, make, IsPlace}
use Rattle.hnodes.specs.declared.node.Place.{Place}
use Rattle.names.specs.declared.refusal.Refusal.{Refusal}
use Rattle.names.specs.declared.refusal.Refusal.TheVariants.{TooManyNodes, Memory}

-- one loose node more, for the token at this place of the input
pub record Makes (w : What ℕ) (at : ℕ) (old new : Nodes ℕ) (result : Result ℕ Refusal) : Type 0 where
  pub ok : OnOk result (new ≡ make w old)
  pub number : IfOk result (λ n. (n ≡ old.made) × (0 < n))
  -- no node that was there is inside it, and it is inside of none
  pub outside : IfOk result (λ n. (k : ℕ) → k < n → IsOutside k n new.trees)
  pub apart : IfOk result (λ n. (k : ℕ) → k < n → IsOutside n k new.trees)
  -- places are still places
  pub places : IfOk result (λ n. (p : Place) → IsPlace p old → IsPlace p new)
  pub full : (result ≡ Err (TooManyNodes at)) ↔ (old.limit ≤ old.made)
  pub refused : IfErr result (λ e. (e ≡ TooManyNodes at) ⊎ (e ≡ Memory))
  pub err : OnErr result (new ≡ old)
