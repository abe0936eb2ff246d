use Rattle.hadopt.proofs.Names.{numbers, texts}
use Rattle.hadopt.proofs.Spellings.{operations}
use Rattle.hadopt.proofs.laws.operations_know_no_names.Goals as goal

pub returns : goal.returns
returns c = λ spell a. operations numbers texts spell a
