use Rattle.hadopt.proofs.Names.{arith, elements}
use Rattle.hadopt.proofs.site.Site.create_sharing.Goals as goal

pub invariant_of-self : goal.invariant_of-self
invariant_of-self c = grind (arith, elements)
