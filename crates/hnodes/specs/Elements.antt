-- Elements among nodes.
use Rattle.std.specs.Prelude.{ℕ, Bool, List}
use Rattle.std.specs.List.{filter}
use Rattle.std.specs.Option.{is_some}
use Rattle.hnodes.specs.Forest.{Forest}
use Rattle.hnodes.specs.Spots.{node_name}

-- whether a node is an element
abbrev pub is_element : {N : Type 0} → Forest N → ℕ → Bool
is_element f n = is_some (node_name n f)

-- those of these nodes that are elements
abbrev pub elements_among : {N : Type 0} → List ℕ → Forest N → List ℕ
elements_among nodes f = filter (is_element f) nodes
