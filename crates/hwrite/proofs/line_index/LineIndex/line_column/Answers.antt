use Rattle.hwrite.proofs.Vocabulary.{arith, common_steps}
use Rattle.hwrite.proofs.line_index.LineIndex.line_column.Goals as goal

pub returns-clause-column : goal.returns-clause-column
returns-clause-column c = grind (arith, common_steps)

pub returns-clause-line : goal.returns-clause-line
returns-clause-line c = grind (arith, common_steps)
