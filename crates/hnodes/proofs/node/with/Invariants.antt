use Rattle.hnodes.proofs.Names.{◌≡◌, ◌++◌, map, attribute_of}
use Rattle.hnodes.proofs.node.with.Given as goal

abbrev pub invariant-loop-name : goal.invariant-loop-name
invariant-loop-name l = (goal.iterator-loop-name).can_next l.name-iterator × (goal.iterator-loop-name).is_finite l.name-iterator
    × (map attribute_of l.own.items ++ l.name-iterator ≡ l.fn.attrs)
