use Rattle.htmlp.proofs.Names.{arith, common_steps}
use Rattle.htmlp.proofs.fault.MessageDisplay.fmt.Goals as goal

pub loop-word-preserved : goal.loop-word-preserved
loop-word-preserved g c = grind (arith, common_steps)

pub returns-in-Some-clause-writes : goal.returns-in-Some-clause-writes
returns-in-Some-clause-writes g c = grind (arith, common_steps)
