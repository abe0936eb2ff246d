use Rattle.hopen.proofs.Names.{common_steps, arith, lt-ltb, le-ltb}
use Rattle.hopen.proofs.Somes.{in_scope-levels}
use Rattle.hopen.proofs.stack.OpenStack.is_nearer.Goals as goal

pub returns-then-level-gt0 : goal.returns-then-level-gt0
returns-then-level-gt0 c = grind (arith, common_steps, in_scope-levels, lt-ltb)

pub returns-else-level-gt0 : goal.returns-else-level-gt0
returns-else-level-gt0 c = grind (arith, common_steps, in_scope-levels, le-ltb)
