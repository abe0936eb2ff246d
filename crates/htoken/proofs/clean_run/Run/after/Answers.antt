use Rattle.htoken.proofs.Names.{clean_rest, IsCharBoundary-from_drop}
use Rattle.htoken.proofs.clean_run.Run.after.Goals as goal

pub range_from-requires : goal.range_from-requires
range_from-requires c = λ _. IsCharBoundary-from_drop c.args.self.now.text.now c.args.count c.requires.within c.requires.back

pub invariant_of-result-clause-clean : goal.invariant_of-result-clause-clean
invariant_of-result-clause-clean c = cc (c.range_from.ensures.value, (clean_rest c.args.count c.args.self.now.text.now c.requires c.args.self.now.clean).1)
