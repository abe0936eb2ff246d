use Rattle.hmodes.proofs.Vocabulary.{texts}
use Rattle.hmodes.proofs.Between.{texts-all}
use Rattle.hmodes.proofs.RawFollows.{raw-follows}
use Rattle.hmodes.proofs.laws.raw_follows.Goals as goal

pub returns : goal.returns
returns c = raw-follows texts texts-all
