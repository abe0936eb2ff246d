use Rattle.hnodes.proofs.Names.{arith, common_steps}
use Rattle.hnodes.proofs.indexed_list.make_room.Goals as goal

pub returns-clause-indexed : goal.returns-clause-indexed
returns-clause-indexed c = grind (arith, common_steps)

pub returns-clause-room : goal.returns-clause-room
returns-clause-room c = grind (arith, common_steps)

pub returns-clause-width : goal.returns-clause-width
returns-clause-width c = grind (arith, common_steps)
