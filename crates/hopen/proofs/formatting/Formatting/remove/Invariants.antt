use Rattle.hopen.proofs.Names.{◌≡◌, length, without_entry}
use Rattle.hopen.proofs.formatting.Formatting.remove.Given as goal

abbrev pub invariant-loop-node : goal.invariant-loop-node
invariant-loop-node l = without_entry l.node l.self ≡ without_entry l.node l.initial.self

abbrev pub decreases-loop-node : goal.decreases-loop-node
decreases-loop-node l = length l.self
