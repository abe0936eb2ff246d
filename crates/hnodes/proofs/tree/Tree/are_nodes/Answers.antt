use Rattle.hnodes.proofs.Opened.{opened, are_nodes}
use Rattle.hnodes.proofs.tree.Tree.are_nodes.Goals as goal

pub returns-clause-nodes : goal.returns-clause-nodes
returns-clause-nodes c = are_nodes (opened c.self.inside c.args.self.now c.self.view_is c.self.invariant)
