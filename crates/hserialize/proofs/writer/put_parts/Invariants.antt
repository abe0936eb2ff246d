use Rattle.hserialize.proofs.Names.{drop, written_so_far}
use Rattle.hserialize.proofs.Output.{HasLeft, all_parts}
use Rattle.hserialize.proofs.writer.put_parts.Given as goal

abbrev pub invariant-loop-part : goal.invariant-loop-part
invariant-loop-part g l = HasLeft (written_so_far g.W.Target.written g.W.Target.failed l.initial.out)
    (written_so_far g.W.Target.written g.W.Target.failed l.out) (all_parts l.parts) (all_parts (drop l.part-index l.parts))
