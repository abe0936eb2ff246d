use Rattle.names.proofs.Vocabulary.{arith, elements}
use Rattle.names.proofs.table.few_are_same.Goals as goal

pub returns-then-a-b : goal.returns-then-a-b
returns-then-a-b c = grind (arith, elements)

pub returns-then-c-d : goal.returns-then-c-d
returns-then-c-d c = grind (arith, elements)
