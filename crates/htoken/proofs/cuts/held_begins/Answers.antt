use Rattle.htoken.proofs.Held.{held_begins}
use Rattle.htoken.proofs.cuts.held_begins.Goals as goal

pub returns : goal.returns
returns c = held_begins
