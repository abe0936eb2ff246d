use Rattle.hadopt.proofs.Names.{rules, numbers, ℕ, Ok, Result, Refusal, arith, elements, common_steps}
use Rattle.hadopt.proofs.Inserting.{gives-kept, inserted-kept}
use Rattle.hadopt.proofs.site.Site.insert_element.Goals as goal

pub returns-clause-done : goal.returns-clause-done
returns-clause-done c = search rules

pub returns-clause-kept : goal.returns-clause-kept
returns-clause-kept c = λ k stands.
    let r : Result ℕ Refusal = Ok c.in_ok-node.node in
    gives-kept numbers r _ _ (returns-clause-done c) (inserted-kept numbers c.args.at c.args.name _ c.args.place c.args.self.now stands k)

pub invariant_of-self-2 : goal.invariant_of-self-2
invariant_of-self-2 c = grind (arith, elements)

pub returns-in_err-enter-clause-done : goal.returns-in_err-enter-clause-done
returns-in_err-enter-clause-done c = grind (arith, common_steps)
