use Rattle.html_c.proofs.Names.{arith, elements}
use Rattle.html_c.proofs.rows.origin_at.Goals as goal

pub returns-in-Some : goal.returns-in-Some
returns-in-Some c = grind (arith, elements)
