use Rattle.hopen.proofs.Names.{arith}
use Rattle.hopen.proofs.OpenLevels.{name-level, node-level}
use Rattle.hopen.proofs.sought.level_of.Goals as goal

pub returns-in-Node : goal.returns-in-Node
returns-in-Node c = grind (arith, c.of_node.ensures, node-level _ _ c.args.items.now c.requires.stands.nodes c.in-Node.node, c.in-Node.is)

pub returns-in-Name : goal.returns-in-Name
returns-in-Name c = grind (arith, c.of_name.ensures, name-level _ _ c.args.items.now c.requires.stands.names c.in-Name.name, c.in-Name.is)
