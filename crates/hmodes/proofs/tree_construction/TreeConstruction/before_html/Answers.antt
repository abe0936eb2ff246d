use Rattle.hmodes.proofs.Vocabulary.{arith, common_steps}
use Rattle.hmodes.proofs.tree_construction.TreeConstruction.before_html.Goals as goal

pub returns-in_ok-insert_element-in-Start-Html : goal.returns-in_ok-insert_element-in-Start-Html
returns-in_ok-insert_element-in-Start-Html c = grind (arith, common_steps)
