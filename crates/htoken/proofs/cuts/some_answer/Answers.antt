use Rattle.htoken.proofs.SomeCut.{some_answer}
use Rattle.htoken.proofs.cuts.some_answer.Goals as goal

pub returns : goal.returns
returns c = some_answer
