use Rattle.html_c.proofs.Names.{arith, common_steps}
use Rattle.html_c.proofs.Puts.{both}
use Rattle.html_c.proofs.page.put_errors.Goals as goal

pub loop-error-preserved : goal.loop-error-preserved
loop-error-preserved c = both c.loop-error.invariant c.put_one-at.ensures (grind (arith, common_steps))
