use Rattle.hopen.proofs.Names.{common_steps, arith}
use Rattle.hopen.proofs.Trimmed.{full-ends, stack-holes}
use Rattle.hopen.proofs.leaving.pop.Goals as goal

pub returns-then-last-eq0-clause-rests : goal.returns-then-last-eq0-clause-rests
returns-then-last-eq0-clause-rests c = grind (arith, common_steps, full-ends, stack-holes)
