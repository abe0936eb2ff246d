-- The state that a value of the program stands for.
use Rattle.std.specs.Prelude.{ℕ, []}
use Rattle.std.specs.Option.{option_map_or}
use Rattle.hmodes.specs.State.{State}
use Rattle.hmodes.specs.declared.tree_construction.TreeConstruction.{TreeConstruction}

abbrev pub state_of : TreeConstruction → State ℕ
state_of r = record { site = r.site; control = r.control; context = r.context; quirks_list = option_map_or (λ list. list.now) r.quirks_list [] }
