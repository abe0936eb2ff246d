use Rattle.names.proofs.Vocabulary.{arith, common_steps}
use Rattle.names.proofs.refusal.RefusalDisplay.fmt.Goals as goal

pub returns-in-Some-number-clause-writes : goal.returns-in-Some-number-clause-writes
returns-in-Some-number-clause-writes g c = grind (arith, common_steps)

pub returns-in-None-clause-writes : goal.returns-in-None-clause-writes
returns-in-None-clause-writes g c = grind (arith, common_steps)
