use Rattle.hserialize.proofs.Regions.{IsFinding}
use Rattle.hserialize.proofs.plain.is_plain_list.Given as goal

abbrev pub invariant-loop-visit : goal.invariant-loop-visit
invariant-loop-visit l = IsFinding l.names.table.now l.tree.trees l.fn.root l.context l.in_form l.visit-iterator
