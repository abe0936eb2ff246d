use Rattle.hmodes.proofs.Vocabulary.{numbers-agree}
use Rattle.hmodes.proofs.laws.each_table_agrees.Goals as goal

pub returns : goal.returns
returns c = numbers-agree
