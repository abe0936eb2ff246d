use Rattle.htag.proofs.Vocabulary.{arith}
use Rattle.htag.proofs.AtOnce.{bare_name_is}
use Rattle.htag.proofs.at_once.is_bare.Goals as goal

pub returns-then-length-run : goal.returns-then-length-run
returns-then-length-run c = λ bare is. bare_name_is c.args.run.now c.args.length is c.if-length-run.true (search arith)
