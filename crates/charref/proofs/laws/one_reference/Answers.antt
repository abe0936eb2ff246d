use Rattle.charref.proofs.OneReference.{one_of}
use Rattle.charref.proofs.laws.one_reference.Goals as goal

pub returns : goal.returns
returns c = one_of
