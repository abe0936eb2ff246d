use Rattle.hserialize.proofs.Names.{written_so_far}
use Rattle.hserialize.proofs.Escapes.{IsEscaping}
use Rattle.hserialize.proofs.escaped.put_escaped.Given as goal

abbrev pub invariant-loop-at : goal.invariant-loop-at
invariant-loop-at g l = IsEscaping l.escaping l.setting l.source l.done l.at-iterator.at l.at-iterator.rest.now
    (written_so_far g.W.Target.written g.W.Target.failed l.initial.out) (written_so_far g.W.Target.written g.W.Target.failed l.out)
