use Rattle.hadopt.proofs.Names.{rules, numbers, Result, Refusal, ℕ, Ok, arith, elements}
use Rattle.hadopt.proofs.Inserting.{gives-kept, added-kept}
use Rattle.hadopt.proofs.site.Site.insert_comment.Goals as goal

pub returns-clause-done : goal.returns-clause-done
returns-clause-done c = search rules

pub returns-clause-kept : goal.returns-clause-kept
returns-clause-kept c = λ k stands.
    let r : Result ℕ Refusal = Ok c.in_ok-node.node in
    gives-kept numbers r _ _ (returns-clause-done c) (added-kept numbers c.args.at _ c.args.place c.args.self.now stands k)

pub invariant_of-self-2 : goal.invariant_of-self-2
invariant_of-self-2 c = grind (arith, elements)
