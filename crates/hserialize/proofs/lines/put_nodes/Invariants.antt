use Rattle.hserialize.proofs.Names.{◌≤◌, vec_capacity, written_so_far}
use Rattle.hserialize.proofs.Printed.{IsPutting}
use Rattle.hserialize.proofs.lines.put_nodes.Given as goal

abbrev pub invariant-loop-visit : goal.invariant-loop-visit
invariant-loop-visit g l = record {
  putting : IsPutting l.names l.tree.trees l.fn.root l.depth (written_so_far g.W.Target.written g.W.Target.failed l.fn.out)
      (written_so_far g.W.Target.written g.W.Target.failed l.out) l.visit-iterator;
  room : vec_capacity l.fn.entries ≤ vec_capacity l.entries;
}
