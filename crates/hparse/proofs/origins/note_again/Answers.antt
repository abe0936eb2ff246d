use Rattle.hparse.proofs.Names.{arith, elements}
use Rattle.hparse.proofs.origins.note_again.Goals as goal

pub returns-then-index-list : goal.returns-then-index-list
returns-then-index-list c = grind (arith, elements)
