use Rattle.hopen.proofs.Names.{arith, common_steps}
use Rattle.hopen.proofs.slots.Slots.is_crowded.Goals as goal

pub before-ordinal-requires-clause-number : goal.before-ordinal-requires-clause-number
before-ordinal-requires-clause-number c = grind (arith, common_steps)

pub before-ordinal-requires-clause-within : goal.before-ordinal-requires-clause-within
before-ordinal-requires-clause-within c = grind (arith, common_steps)
