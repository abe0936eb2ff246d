use Rattle.charref.proofs.Names.{arith}
use Rattle.charref.proofs.table.Table.has_core.Goals as goal

pub returns-then-has-4-clause-core : goal.returns-then-has-4-clause-core
returns-then-has-4-clause-core c = grind arith
