use Rattle.hnodes.proofs.Names.{◌≡◌, length, names_differ, nat_eq}
use Rattle.hnodes.proofs.attributes.few_differ.Given as goal

-- the names differ if those of the rest do
abbrev pub invariant-loop-name : goal.invariant-loop-name
invariant-loop-name l = names_differ nat_eq l.attrs ≡ names_differ nat_eq l.fn.attrs

abbrev pub decreases-loop-name : goal.decreases-loop-name
decreases-loop-name l = length l.attrs
