use Rattle.htoken.proofs.OnePart.{one_part}
use Rattle.htoken.proofs.OneSpan.{one_tag}
use Rattle.htoken.proofs.cuts.one_tag.Goals as goal

pub returns-clause-parts : goal.returns-clause-parts
returns-clause-parts c = one_part

pub returns-clause-tags : goal.returns-clause-tags
returns-clause-tags c = one_tag
