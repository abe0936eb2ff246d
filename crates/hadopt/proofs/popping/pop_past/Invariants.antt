use Rattle.hadopt.proofs.Names.{◌≡◌, length, popped_past, passes}
use Rattle.hadopt.proofs.popping.pop_past.Given as goal

abbrev pub invariant-loop-top : goal.invariant-loop-top
invariant-loop-top l =
    (l.stack.limit ≡ l.initial.stack.limit) × (popped_past (passes l.passing) l.stack.stack ≡ popped_past (passes l.initial.passing) l.initial.stack.stack)

abbrev pub decreases-loop-top : goal.decreases-loop-top
decreases-loop-top l = length l.stack.stack
