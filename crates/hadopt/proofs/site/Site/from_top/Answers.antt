use Rattle.hadopt.proofs.Names.{reverse}
use Rattle.hadopt.proofs.Putting.{each-got, each-reverse}
use Rattle.hadopt.proofs.site.Site.from_top.Goals as goal

pub returns-clause-made : goal.returns-clause-made
returns-clause-made c = rw (← c.self.view_is) (each-got _ (reverse c.self.inside.stack.stack) c.args.down c.from_top.result c.from_top.ensures
    (each-reverse _ c.self.inside.stack.stack c.self.invariant))
