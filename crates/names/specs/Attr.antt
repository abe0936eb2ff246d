-- Attributes as they are seen.
use Rattle.std.specs.Prelude.{ℕ, List}

-- an attribute: the number of its name, and its value
pub record AttrParts : Type 0 where
  pub name : ℕ
  pub value : List ℕ
