use Rattle.hmodes.proofs.Vocabulary.{rules, arith, common_steps}
use Rattle.hmodes.proofs.Flowing.{ends-as}
use Rattle.hmodes.proofs.tree_construction.TreeConstruction.close_caption.Goals as goal

pub returns : goal.returns
returns c = search (rules, ends-as)

pub returns-then-not-in_scope : goal.returns-then-not-in_scope
returns-then-not-in_scope c = grind (arith, common_steps)
