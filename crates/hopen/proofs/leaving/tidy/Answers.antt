use Rattle.hopen.proofs.Names.{arith, common_steps}
use Rattle.hopen.proofs.leaving.tidy.Goals as goal

pub returns-clause-room : goal.returns-clause-room
returns-clause-room c = grind (arith, common_steps)

pub append-requires-clause-room : goal.append-requires-clause-room
append-requires-clause-room c = grind (arith, common_steps)

pub unreachable-requires : goal.unreachable-requires
unreachable-requires c = grind (arith, common_steps)

pub append-requires-clause-levels : goal.append-requires-clause-levels
append-requires-clause-levels c = grind (arith, common_steps)
