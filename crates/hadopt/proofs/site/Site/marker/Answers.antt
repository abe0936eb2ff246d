use Rattle.hadopt.proofs.Names.{arith, common_steps}
use Rattle.hadopt.proofs.site.Site.marker.Goals as goal

pub returns-clause-kept : goal.returns-clause-kept
returns-clause-kept c = grind (arith, common_steps)
