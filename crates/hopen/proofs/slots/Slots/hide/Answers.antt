use Rattle.hopen.proofs.Names.{arith, common_steps, map-set, All-set, get_or-set_other, length-set}
use Rattle.hopen.proofs.slots.Slots.hide.Goals as goal

pub invariant_of-self : goal.invariant_of-self
invariant_of-self c = record { listed = grind (arith, common_steps, map-set, All-set, get_or-set_other, length-set) }

pub invariant_of-self-else-is_some : goal.invariant_of-self-else-is_some
invariant_of-self-else-is_some c = record { listed = grind (arith, common_steps, map-set, All-set, get_or-set_other, length-set) }

pub clear-requires-then-is_some : goal.clear-requires-then-is_some
clear-requires-then-is_some c = grind (arith, common_steps)

pub clear-requires-2 : goal.clear-requires-2
clear-requires-2 c = grind (arith, common_steps)

pub clear-requires : goal.clear-requires
clear-requires c = grind (arith, common_steps)
