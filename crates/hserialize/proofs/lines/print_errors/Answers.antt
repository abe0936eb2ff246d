use Rattle.hserialize.proofs.Names.{rules, arith, common_steps}
use Rattle.hserialize.proofs.Finished.{cut_short, finished}
use Rattle.hserialize.proofs.lines.print_errors.Goals as goal

pub returns-in_err-put_errors-clause-text : goal.returns-in_err-put_errors-clause-text
returns-in_err-put_errors-clause-text g c = cut_short g.W.Target.written g.W.Target.failed _ _ _ c.new-out.result _ c.new-out.ensures c.put_errors.new.out _
    c.from_residual-in_err-put_errors.ensures.1 c.in_err-put_errors.ensures (search rules)

pub returns-clause-text : goal.returns-clause-text
returns-clause-text g c = finished g.W.Target.written g.W.Target.failed _ _ _ c.new-out.result _ c.new-out.ensures c.put_errors.new.out c.finish.new.self
    c.finish.result c.in_ok-put_errors.ensures c.finish.ensures.ends (search rules)

pub returns-clause-flushed : goal.returns-clause-flushed
returns-clause-flushed g c = grind (arith, common_steps)
