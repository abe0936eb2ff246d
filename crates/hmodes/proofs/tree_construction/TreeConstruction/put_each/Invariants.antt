use Rattle.hmodes.proofs.Vocabulary.{◌≡◌, into_iter_items, numbers, perform, each_of, character, state_of, pending_rule}
use Rattle.hmodes.proofs.Pending.{pending_put}
use Rattle.hmodes.proofs.tree_construction.TreeConstruction.put_each.Given as goal

abbrev pub invariant-loop-c : goal.invariant-loop-c
invariant-loop-c l = pending_put l.fn.pending.items (state_of l.fn.self)
    ≡ each_of (λ c. perform numbers c.at (character c.ch) (pending_rule l.spaces)) (into_iter_items l.c-iterator) (state_of l.self)
