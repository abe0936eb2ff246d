use Rattle.charref.proofs.Names.{arith}
use Rattle.charref.proofs.entries.character_at_front.Goals as goal

pub returns-in-len4-up : goal.returns-in-len4-up
returns-in-len4-up c = grind arith
