use Rattle.hadopt.proofs.Names.{is_node, above}
use Rattle.hadopt.proofs.Lists.{each-among, among-after}
use Rattle.hadopt.proofs.Putting.{each-current, within}
use Rattle.hadopt.proofs.site.Site.beside.Goals as goal

pub last_in-requires : goal.last_in-requires
last_in-requires c = rw (← c.self.view_is) (within c.self.inside.tree.made c.above.result (each-current _ (above c.args.table.node c.self.inside.stack.stack)
    c.above.result c.above.ensures (each-among _ _ _ (among-after (is_node c.args.table.node) c.self.inside.stack.stack) c.self.invariant)))
