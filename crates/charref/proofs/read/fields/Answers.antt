use Rattle.charref.proofs.Names.{arith, common_steps}
use Rattle.charref.proofs.read.fields.Goals as goal

pub returns : goal.returns
returns c = grind (arith, common_steps)

pub returns-in_err-text : goal.returns-in_err-text
returns-in_err-text c = grind (arith, common_steps)

pub returns-in_err-get-2 : goal.returns-in_err-get-2
returns-in_err-get-2 c = grind (arith, common_steps)

pub returns-in_err-list : goal.returns-in_err-list
returns-in_err-list c = grind (arith, common_steps)
