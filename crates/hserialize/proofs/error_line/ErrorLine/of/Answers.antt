use Rattle.hserialize.proofs.Names.{arith, common_steps}
use Rattle.hserialize.proofs.error_line.ErrorLine.of.Goals as goal

pub returns-clause-line : goal.returns-clause-line
returns-clause-line c = grind (arith, common_steps)

pub slice_bounds-bytes-end : goal.slice_bounds-bytes-end
slice_bounds-bytes-end c = grind (arith, common_steps)
