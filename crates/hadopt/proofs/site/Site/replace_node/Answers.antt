use Rattle.hadopt.proofs.Names.{arith, common_steps}
use Rattle.hadopt.proofs.site.Site.replace_node.Goals as goal

pub returns-clause-last_node : goal.returns-clause-last_node
returns-clause-last_node c = grind (arith, common_steps)
