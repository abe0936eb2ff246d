use Rattle.hopen.proofs.Names.{◌≡◌, length, after, is_sought}
use Rattle.hopen.proofs.stack.OpenStack.close_to.Given as goal

abbrev pub invariant-loop-node : goal.invariant-loop-node
invariant-loop-node l = record
    { limit : l.self.limit ≡ l.initial.self.limit; rest : after (is_sought l.sought) l.self.stack ≡ after (is_sought l.sought) l.initial.self.stack }

abbrev pub decreases-loop-node : goal.decreases-loop-node
decreases-loop-node l = length l.self.stack
