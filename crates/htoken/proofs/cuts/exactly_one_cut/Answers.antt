use Rattle.htoken.proofs.OneFront.{exactly_one_cut}
use Rattle.htoken.proofs.cuts.exactly_one_cut.Goals as goal

pub returns : goal.returns
returns c = exactly_one_cut
