use Rattle.names.proofs.Vocabulary.{arith, common_steps}
use Rattle.names.proofs.short.ShortText.of.Goals as goal

pub invariant_of-short : goal.invariant_of-short
invariant_of-short g c = grind (arith, common_steps)
