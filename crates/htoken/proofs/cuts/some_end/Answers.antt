use Rattle.htoken.proofs.SomeEnd.{tags_can_end}
use Rattle.htoken.proofs.cuts.some_end.Goals as goal

pub returns : goal.returns
returns c = tags_can_end
