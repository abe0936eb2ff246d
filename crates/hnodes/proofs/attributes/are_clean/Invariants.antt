use Rattle.hnodes.proofs.Names.{◌≡◌, are_clean}
use Rattle.hnodes.proofs.attributes.are_clean.Given as goal

abbrev pub invariant-loop-value : goal.invariant-loop-value
invariant-loop-value l = (goal.iterator-loop-value).can_next l.value-iterator × (goal.iterator-loop-value).is_finite l.value-iterator
    × (are_clean l.value-iterator ≡ are_clean l.fn.attrs)
