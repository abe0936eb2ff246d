use Rattle.hopen.proofs.Names.{arith, elements}
use Rattle.hopen.proofs.slots.move_number.Goals as goal

pub returns : goal.returns
returns c = grind (arith, elements)

pub set-requires-clause-number : goal.set-requires-clause-number
set-requires-clause-number c = grind (arith, elements)

pub unreachable-requires : goal.unreachable-requires
unreachable-requires c = grind (arith, elements)
