use Rattle.html_c.proofs.Names.{rules, Core}
use Rattle.html_c.proofs.Tables.{table_is}
use Rattle.html_c.proofs.given.table_of.Goals as goal

pub returns-in_ok-core-in-None : goal.returns-in_ok-core-in-None
returns-in_ok-core-in-None c = table_is Core (search rules) c.in_ok-core-in-None.ensures.ok
