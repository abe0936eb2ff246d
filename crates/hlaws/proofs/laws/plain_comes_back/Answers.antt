use Rattle.hlaws.proofs.Back.{comes_back}
use Rattle.hlaws.proofs.laws.plain_comes_back.Goals as goal

pub returns : goal.returns
returns c = comes_back
