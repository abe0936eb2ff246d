use Rattle.hserialize.proofs.Names.{written_so_far}
use Rattle.hserialize.proofs.Wrote.{IsWriting}
use Rattle.hserialize.proofs.serializer.Listing.put_list.Given as goal

abbrev pub invariant-loop-visit : goal.invariant-loop-visit
invariant-loop-visit g l = IsWriting l.self (written_so_far g.W.Target.written g.W.Target.failed l.initial.out)
    (written_so_far g.W.Target.written g.W.Target.failed l.out) l.visit-iterator
