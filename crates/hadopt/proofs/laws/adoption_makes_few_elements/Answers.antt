use Rattle.hadopt.proofs.Names.{texts}
use Rattle.hadopt.proofs.Ways.{adopted-makes}
use Rattle.hadopt.proofs.laws.adoption_makes_few_elements.Goals as goal

pub returns : goal.returns
returns c = λ at name before after is. adopted-makes texts at name before after is
