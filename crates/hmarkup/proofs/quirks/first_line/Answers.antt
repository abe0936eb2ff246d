use Rattle.hmarkup.proofs.Names.{refl, arith, common_steps}
use Rattle.hmarkup.proofs.Lines.{first_of}
use Rattle.hmarkup.proofs.quirks.first_line.Goals as goal

pub returns-clause-first : goal.returns-clause-first
returns-clause-first c = rw c.unwrap_or.ensures (first_of _ c.parts.result _ c.parts.ensures c.requires refl refl)

pub returns-clause-shorter : goal.returns-clause-shorter
returns-clause-shorter c = grind (arith, common_steps)
