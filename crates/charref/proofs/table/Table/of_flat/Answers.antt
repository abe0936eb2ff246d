use Rattle.charref.proofs.Names.{arith, common_steps}
use Rattle.charref.proofs.table.Table.of_flat.Goals as goal

pub invariant_of-result : goal.invariant_of-result
invariant_of-result c = grind (arith, common_steps)

pub returns-clause-readable : goal.returns-clause-readable
returns-clause-readable c = grind arith
