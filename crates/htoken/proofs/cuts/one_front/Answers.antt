use Rattle.htoken.proofs.OneFront.{one_front, one_front_of_refused}
use Rattle.htoken.proofs.cuts.one_front.Goals as goal

pub returns-clause-whole : goal.returns-clause-whole
returns-clause-whole c = one_front

pub returns-clause-of_refused : goal.returns-clause-of_refused
returns-clause-of_refused c = one_front_of_refused
