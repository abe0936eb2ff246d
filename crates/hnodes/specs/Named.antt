-- Trees whose names are numbers of a table.
use Rattle.std.specs.Prelude.{ℕ, List}
use Rattle.std.specs.List.{AllByRecursion}
use Rattle.names.specs.Names.{Texts, IsOf}
use Rattle.hnodes.specs.Forest.{Attribute, What, element, Forest, none, tree}

abbrev pub AttributesAreOf : Texts → List (Attribute ℕ) → Type 0
AttributesAreOf names attrs = AllByRecursion (λ a. IsOf names a.0) attrs

-- the names of a node
abbrev pub NodeIsOf : Texts → What ℕ → Type 0
NodeIsOf names (element name attrs) = IsOf names name × AttributesAreOf names attrs
NodeIsOf names _ = Unit {0}

-- the names of all nodes in a list of trees
abbrev pub AreOf : Texts → Forest ℕ → Type 0
AreOf names none = Unit {0}
AreOf names (tree n w kids rest) = NodeIsOf names w × AreOf names kids × AreOf names rest
