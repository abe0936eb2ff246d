use Rattle.hopen.proofs.Names.{common_steps, arith, length-without}
use Rattle.hopen.proofs.ExchangedSlots.{length-put-le}
use Rattle.hopen.proofs.stack.OpenStack.exchange.Goals as goal

pub invariant_of-self-2 : goal.invariant_of-self-2
invariant_of-self-2 c = grind (arith, common_steps, length-put-le, length-without)
