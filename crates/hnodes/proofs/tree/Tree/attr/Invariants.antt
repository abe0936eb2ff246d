use Rattle.hnodes.proofs.Names.{◌≡◌, nat_eq, value_in, value_of}
use Rattle.hnodes.proofs.tree.Tree.attr.Given as goal

-- the value is that of an attribute that is still to come
abbrev pub invariant-loop-own : goal.invariant-loop-own
invariant-loop-own l = (goal.iterator-loop-own).can_next l.own-iterator × (goal.iterator-loop-own).is_finite l.own-iterator
    × (value_of (nat_eq l.name) l.fn.node l.self.trees ≡ value_in (nat_eq l.name) l.own-iterator)
