use Rattle.html_c.proofs.Names.{arith}
use Rattle.html_c.proofs.rows.Rows.of.Goals as goal

pub invariant_of-result : goal.invariant_of-result
invariant_of-result c = grind arith
