use Rattle.hopen.proofs.Names.{common_steps, arith, length-map, with_items_is}
use Rattle.hopen.proofs.Trimmed.{holes-left, stack-holes}
use Rattle.hopen.proofs.leaving.remove.Goals as goal

pub overflow_add-last : goal.overflow_add-last
overflow_add-last c = grind (arith, common_steps, holes-left, length-map, stack-holes)

pub tidy-requires-clause-stands : goal.tidy-requires-clause-stands
tidy-requires-clause-stands c = grind (arith, common_steps, with_items_is)

pub tidy-requires-clause-holes : goal.tidy-requires-clause-holes
tidy-requires-clause-holes c = grind (arith, common_steps, holes-left, length-map, stack-holes, with_items_is)

pub tidy-requires-clause-levels : goal.tidy-requires-clause-levels
tidy-requires-clause-levels c = grind (arith, common_steps)

pub returns-clause-items : goal.returns-clause-items
returns-clause-items c = grind (arith, common_steps)

pub returns-clause-room : goal.returns-clause-room
returns-clause-room c = grind (arith, common_steps)
