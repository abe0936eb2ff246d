use Rattle.hmodes.proofs.Vocabulary.{arith, common_steps}
use Rattle.hmodes.proofs.tree_construction.TreeConstruction.initial.Goals as goal

pub returns-in_ok-insert_doctype-in-Doctype : goal.returns-in_ok-insert_doctype-in-Doctype
returns-in_ok-insert_doctype-in-Doctype c = grind (arith, common_steps)

pub returns-in_ok-error-in_default : goal.returns-in_ok-error-in_default
returns-in_ok-error-in_default c = grind (arith, common_steps)
