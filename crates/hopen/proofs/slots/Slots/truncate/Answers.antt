use Rattle.hopen.proofs.Names.{arith, common_steps, length-take-le, take-map, All-take, get_or-take}
use Rattle.hopen.proofs.slots.Slots.truncate.Goals as goal

pub invariant_of-self : goal.invariant_of-self
invariant_of-self c = record { listed = grind (arith, common_steps, length-take-le, take-map, All-take, get_or-take) }

pub invariant_of-self-else-is_some : goal.invariant_of-self-else-is_some
invariant_of-self-else-is_some c = record { listed = grind (arith, common_steps, length-take-le, take-map, All-take, get_or-take) }

pub truncate-requires-then-is_some : goal.truncate-requires-then-is_some
truncate-requires-then-is_some c = grind (arith, common_steps)
