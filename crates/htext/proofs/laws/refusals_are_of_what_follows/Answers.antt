use Rattle.htext.proofs.Refusals.{replaced}
use Rattle.htext.proofs.laws.refusals_are_of_what_follows.Goals as goal

pub returns-clause-replaced : goal.returns-clause-replaced
returns-clause-replaced c = λ how bytes is. rw is (replaced how.bom how.limit bytes)
