use Rattle.hadopt.proofs.Lists.{each-among, among-after}
use Rattle.hadopt.proofs.Names.{is_node}
use Rattle.hadopt.proofs.site.Site.pop_to_node.Goals as goal

pub invariant_of-self : goal.invariant_of-self
invariant_of-self c = rw (c.pop_to_node.ensures) (each-among _ _ _ (among-after (is_node c.args.node) c.self.inside.stack.stack) c.self.invariant)
