use Rattle.hlaws.proofs.OneAnswer.{rules_refuse, profile_refuses}
use Rattle.hlaws.proofs.laws.refused_fronts.Goals as goal

pub returns : goal.returns
returns c = record { rules = rules_refuse; profile = profile_refuses }
