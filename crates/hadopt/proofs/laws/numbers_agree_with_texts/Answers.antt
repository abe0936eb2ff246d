use Rattle.hadopt.proofs.Agreeing.{numbers-agree}
use Rattle.hadopt.proofs.laws.numbers_agree_with_texts.Goals as goal

pub returns : goal.returns
returns c = λ names h. numbers-agree names h
