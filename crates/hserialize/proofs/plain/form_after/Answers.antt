use Rattle.hserialize.proofs.Names.{arith, common_steps}
use Rattle.hserialize.proofs.plain.form_after.Goals as goal

pub is_plain_region-requires-clause-made : goal.is_plain_region-requires-clause-made
is_plain_region-requires-clause-made c = grind (arith, common_steps)
