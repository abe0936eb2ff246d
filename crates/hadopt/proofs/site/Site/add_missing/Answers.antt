use Rattle.hadopt.proofs.Names.{arith, map, Ok, Result, attribute_of, Refusal, numbers, common_steps}
use Rattle.hadopt.proofs.Inserting.{gives-kept, missing-kept}
use Rattle.hadopt.proofs.site.Site.add_missing.Goals as goal

pub returns-clause-done : goal.returns-clause-done
returns-clause-done c = grind (arith, common_steps)

pub returns-clause-kept : goal.returns-clause-kept
returns-clause-kept c = λ k.
    let r : Result (Unit {0}) Refusal = Ok tt in
    gives-kept numbers r _ _ (returns-clause-done c) (missing-kept numbers c.args.node (map attribute_of c.args.attrs.items) c.args.self.now k)

pub loop-attr-preserved : goal.loop-attr-preserved
loop-attr-preserved c = grind (arith, common_steps)
