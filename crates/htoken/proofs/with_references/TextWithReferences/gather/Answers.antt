use Rattle.htoken.proofs.Names.{rules, arith, common_steps}
use Rattle.htoken.proofs.WithReferences.{gathered_none, whole_of, few_left}
use Rattle.htoken.proofs.with_references.TextWithReferences.gather.Goals as goal

pub add_reference-requires-clause-left : goal.add_reference-requires-clause-left
add_reference-requires-clause-left c =
    few_left c.args.run.now.at (search rules) (whole_of c.args.table.now c.args.kind c.args.run.now.text.now _ _ c.in-Some.is c.requires.ends.whole)

pub returns-2-clause-gathered : goal.returns-2-clause-gathered
returns-2-clause-gathered c =
    gathered_none c.args.table.now c.args.kind c.args.run.now.text.now c.args.run.now.at (search rules) _ c.clear-2.ensures.items c.clear.ensures

pub add_reference-requires-clause-within : goal.add_reference-requires-clause-within
add_reference-requires-clause-within c = grind (arith, common_steps)
