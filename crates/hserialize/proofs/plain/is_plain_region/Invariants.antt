use Rattle.hserialize.proofs.Tested.{IsTesting}
use Rattle.hserialize.proofs.plain.is_plain_region.Given as goal

abbrev pub invariant-loop-visit : goal.invariant-loop-visit
invariant-loop-visit l = IsTesting l.names.table.now l.tree.trees l.fn.root l.top l.around l.visit-iterator
