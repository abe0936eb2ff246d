use Rattle.hmodes.proofs.Vocabulary.{ℕ, List, subst, Placed, StateGives, State, state_of, arith, common_steps}
use Rattle.hmodes.proofs.Pending.{pending_put}
use Rattle.hmodes.proofs.tree_construction.TreeConstruction.put_pending.Goals as goal

pub returns : goal.returns
returns c = let taken = c.take_pending-pending in
    subst (λ (s : State ℕ). StateGives c.put_each.result (state_of c.put_each.new.self) (pending_put c.args.self.now.control.pending s)) taken.ensures.rest
    (subst (λ (cs : List Placed). StateGives c.put_each.result (state_of c.put_each.new.self) (pending_put cs (state_of taken.new.self))) taken.ensures.taken
    c.put_each.ensures)

pub returns-then-are_ws : goal.returns-then-are_ws
returns-then-are_ws c = grind (arith, common_steps)
