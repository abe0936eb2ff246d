use Rattle.hadopt.proofs.Names.{◌-◌, length, take}
use Rattle.hadopt.proofs.Putting.{each-found, each-take}
use Rattle.hadopt.proofs.site.Site.nearest_below_first.Goals as goal

pub returns-clause-made : goal.returns-clause-made
returns-clause-made c = let stack = c.self.inside.stack.stack in
    rw (← c.self.view_is) (each-found _ _ (take (length stack - 1) stack) c.nearest_below_first.result c.nearest_below_first.ensures
    (each-take _ (length stack - 1) stack c.self.invariant))
