use Rattle.hnodes.proofs.Names.{arith, elements}
use Rattle.hnodes.proofs.indexed_list.IndexedList.get.Goals as goal

pub returns-in_err-link : goal.returns-in_err-link
returns-in_err-link c = grind (arith, elements)

pub returns : goal.returns
returns c = grind (arith, elements)
