use Rattle.htoken.proofs.Settled.{settled_are_taken}
use Rattle.htoken.proofs.cuts.settled_are_taken.Goals as goal

pub returns : goal.returns
returns c = settled_are_taken
