use Rattle.hserialize.proofs.Names.{rules, arith, common_steps}
use Rattle.hserialize.proofs.Finished.{cut_short, finished}
use Rattle.hserialize.proofs.lines.print_tree.Goals as goal

pub returns-in_err-put_nodes-clause-text : goal.returns-in_err-put_nodes-clause-text
returns-in_err-put_nodes-clause-text g c = cut_short g.W.Target.written g.W.Target.failed _ _ _ c.new-out.result _ c.new-out.ensures c.put_nodes.new.out _
    c.from_residual-in_err-put_nodes.ensures.1 c.in_err-put_nodes.ensures (search rules)

pub returns-clause-text : goal.returns-clause-text
returns-clause-text g c = finished g.W.Target.written g.W.Target.failed _ _ _ c.new-out.result _ c.new-out.ensures c.put_nodes.new.out c.finish.new.self
    c.finish.result c.in_ok-put_nodes.ensures c.finish.ensures.ends (search rules)

pub put_nodes-requires-clause-room : goal.put_nodes-requires-clause-room
put_nodes-requires-clause-room g c = grind (arith, common_steps)

pub returns-clause-flushed : goal.returns-clause-flushed
returns-clause-flushed g c = grind (arith, common_steps)
