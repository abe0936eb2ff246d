use Rattle.charref.proofs.Names.{arith, elements}
use Rattle.charref.proofs.search.code_at.Goals as goal

pub returns-in-Some-clause-code : goal.returns-in-Some-clause-code
returns-in-Some-clause-code c = grind (arith, elements)
