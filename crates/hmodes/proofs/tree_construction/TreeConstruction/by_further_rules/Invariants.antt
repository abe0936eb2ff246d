use Rattle.hmodes.proofs.Vocabulary.{numbers, state_of, token_of}
use Rattle.hmodes.proofs.Ends.{left}
use Rattle.hmodes.proofs.Looping.{GoesBy}
use Rattle.hmodes.proofs.tree_construction.TreeConstruction.by_further_rules.Given as goal

abbrev pub invariant-loop-self : goal.invariant-loop-self
invariant-loop-self l = GoesBy l.at (token_of l.initial.token) (state_of l.initial.self) (token_of l.token) (state_of l.self)

abbrev pub decreases-loop-self : goal.decreases-loop-self
decreases-loop-self l = left numbers l.at (token_of l.token) (state_of l.self)
