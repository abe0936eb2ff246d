use Rattle.html_c.proofs.Names.{arith, common_steps}
use Rattle.html_c.proofs.page.Page.put.Goals as goal

pub put_errors-requires : goal.put_errors-requires
put_errors-requires c = grind (arith, common_steps)

pub put_origins-requires : goal.put_origins-requires
put_origins-requires c = grind (arith, common_steps)

pub put-requires-2-clause-fits : goal.put-requires-2-clause-fits
put-requires-2-clause-fits c = grind (arith, common_steps)

pub returns-clause-answer : goal.returns-clause-answer
returns-clause-answer c = grind (arith, common_steps)

pub put-requires-clause-words : goal.put-requires-clause-words
put-requires-clause-words c = grind (arith, common_steps)
