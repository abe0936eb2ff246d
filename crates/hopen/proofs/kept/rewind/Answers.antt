use Rattle.hopen.proofs.Names.{arith}
use Rattle.hopen.proofs.Standing.{to-stands}
use Rattle.hopen.proofs.kept.rewind.Goals as goal

pub returns-clause-stands : goal.returns-clause-stands
returns-clause-stands c = to-stands c.loop-index.last c.loop-index.items c.loop-index.index (omega arith) c.loop-index.invariant.stands
