-- What the inner loop of the adoption agency asks of the open nodes.
use Rattle.std.specs.Prelude.{◌≡◌, ℕ, ◌<◌, ◌==◌, false}
use Rattle.hadopt.specs.Soundness.{Each, Pairs}
use Rattle.hadopt.specs.Site.{SiteOf, stack}

-- open nodes were made, and no two are the same
pub record AreDifferent (s : SiteOf ℕ) : Type 0 where
  pub made : Each (λ x. x.node < s.nodes.made) (stack s)
  pub apart : Pairs (λ x y. (x.node == y.node) ≡ false) (stack s)
