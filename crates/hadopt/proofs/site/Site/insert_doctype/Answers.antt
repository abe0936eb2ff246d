use Rattle.hadopt.proofs.Names.{[], comment, rules, numbers, Result, Refusal, LastIn, ℕ, Ok, arith, elements}
use Rattle.hadopt.proofs.Inserting.{stands-where, root-fits, gives-kept, added-kept}
use Rattle.hadopt.proofs.site.Site.insert_doctype.Goals as goal

pub returns-clause-done : goal.returns-clause-done
returns-clause-done c = search rules

pub returns-clause-kept : goal.returns-clause-kept
returns-clause-kept c = λ k.
    let r : Result ℕ Refusal = Ok c.in_ok-node.node in
    gives-kept numbers r _ _ (returns-clause-done c) (added-kept numbers c.args.at _ (LastIn 0) c.args.self.now
    (stands-where numbers c.args.self.now k _ (λ h. root-fits numbers (comment []) c.args.self.now h)) k)

pub invariant_of-self-2 : goal.invariant_of-self-2
invariant_of-self-2 c = grind (arith, elements)
