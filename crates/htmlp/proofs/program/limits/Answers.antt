use Rattle.htmlp.proofs.Named.{limit_fault}
use Rattle.htmlp.proofs.program.limits.Goals as goal

pub returns-in-Err : goal.returns-in-Err
returns-in-Err c = (c.in-Err.ensures.1, limit_fault c.in-Err.ensures.1 c.bad_limit.ensures)
