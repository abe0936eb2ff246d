use Rattle.hnodes.proofs.Names.{◌≡◌, ◌++◌, names_of}
use Rattle.hnodes.proofs.attributes.differ.Given as goal

abbrev pub invariant-loop-name : goal.invariant-loop-name
invariant-loop-name l = (goal.iterator-loop-name).can_next l.name-iterator × (goal.iterator-loop-name).is_finite l.name-iterator
    × (l.names.items ++ names_of l.name-iterator ≡ names_of l.fn.attrs)
