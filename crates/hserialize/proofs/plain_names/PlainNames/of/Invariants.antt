use Rattle.hserialize.proofs.Names.{text_of, ArePlainTo}
use Rattle.hserialize.proofs.plain_names.PlainNames.of.Given as goal

abbrev pub invariant-loop-end : goal.invariant-loop-end
invariant-loop-end l = ArePlainTo (text_of l.table) l.end
