use Rattle.hadopt.proofs.Names.{ℕ, Ok, Result, Refusal, numbers, rules, arith, common_steps, elements}
use Rattle.hadopt.proofs.Inserting.{gives-kept, formatting-kept}
use Rattle.hadopt.proofs.site.Site.insert_formatting.Goals as goal

pub returns-clause-done : goal.returns-clause-done
returns-clause-done c = search rules

pub returns-clause-kept : goal.returns-clause-kept
returns-clause-kept c = λ k stands apart.
    let r : Result ℕ Refusal = Ok c.in_ok-new.new in
    gives-kept numbers r _ _ (returns-clause-done c) (formatting-kept numbers c.args.at c.args.name _ c.args.place c.args.self.now stands apart k)

pub returns-in_err-enter-clause-done : goal.returns-in_err-enter-clause-done
returns-in_err-enter-clause-done c = grind (arith, common_steps)

pub invariant_of-self-2 : goal.invariant_of-self-2
invariant_of-self-2 c = grind (arith, elements)
