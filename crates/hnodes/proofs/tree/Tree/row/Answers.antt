use Rattle.hnodes.proofs.Opened.{opened, lent}
use Rattle.hnodes.proofs.tree.Tree.row.Goals as goal

pub returns : goal.returns
returns c = lent (opened c.self.inside c.args.self.now c.self.view_is c.self.invariant) c.requires c.node.view_is c.index.ensures
