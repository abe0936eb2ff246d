use Rattle.hopen.proofs.Names.{common_steps, arith, get_or_read}
use Rattle.hopen.proofs.Closed.{taken-hole, taken-item}
use Rattle.hopen.proofs.slots.take_holes.Goals as goal

pub loop-index-preserved : goal.loop-index-preserved
loop-index-preserved c = grind (arith, common_steps, get_or_read, taken-hole, taken-item)

pub returns : goal.returns
returns c = grind (arith, common_steps)
