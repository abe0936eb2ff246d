-- What the call that creates an element promises.
use Rattle.std.specs.Prelude.{◌≡◌, ℕ, ◌+◌, ◌<◌, ◌≤◌, Result, IfOk}
use Rattle.hnodes.specs.Edits.{IsPlace}
use Rattle.hnodes.specs.Forest.{What, IsOutside}
use Rattle.hnodes.specs.declared.node.Place.{Place}
use Rattle.names.specs.declared.refusal.Refusal.{Refusal}
use Rattle.hadopt.specs.Gives.{Gives}
use Rattle.hadopt.specs.Inserts.{made}
use Rattle.hadopt.specs.Site.{SiteOf, trees}

-- one loose node more, for the token at this place of the input
pub record Creates (w : What ℕ) (at : ℕ) (old new : SiteOf ℕ) (result : Result ℕ Refusal) : Type 0 where
  pub done : Gives result new (made at w old)
  pub number : IfOk result (λ n. (n ≡ old.nodes.made) × (0 < n))
  -- no node that was there is inside it, and it is inside of none
  pub outside : IfOk result (λ n. (k : ℕ) → k < n → IsOutside k n (trees new))
  pub apart : IfOk result (λ n. (k : ℕ) → k < n → IsOutside n k (trees new))
  -- places are still places
  pub places : IfOk result (λ n. (p : Place) → IsPlace p old.nodes → IsPlace p new.nodes)
  pub few : new.nodes.made ≤ old.nodes.made + 1
