use Rattle.hnodes.proofs.Names.{◌≡◌, names_end, max}
use Rattle.hnodes.proofs.attributes.names_end.Given as goal

-- the greater of this one and that of the rest
abbrev pub invariant-loop-name : goal.invariant-loop-name
invariant-loop-name l = (goal.iterator-loop-name).can_next l.name-iterator × (goal.iterator-loop-name).is_finite l.name-iterator
    × (max l.end (names_end l.name-iterator) ≡ names_end l.fn.attrs)
