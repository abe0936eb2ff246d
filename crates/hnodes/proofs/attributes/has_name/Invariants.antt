use Rattle.hnodes.proofs.Names.{◌≡◌, list_any, nat_eq}
use Rattle.hnodes.proofs.attributes.has_name.Given as goal

abbrev pub invariant-loop-own : goal.invariant-loop-own
invariant-loop-own l = (goal.iterator-loop-own).can_next l.own-iterator × (goal.iterator-loop-own).is_finite l.own-iterator
    × (list_any (λ a. nat_eq a.0 l.name) l.own-iterator ≡ list_any (λ a. nat_eq a.0 l.name) l.fn.attrs)
