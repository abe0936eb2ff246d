use Rattle.hadopt.proofs.Lists.{each-among}
use Rattle.hadopt.proofs.Names.{rules, numbers, stack, passes, IsSound, sym, subst}
use Rattle.hadopt.proofs.Inserting.{fewer-kept}
use Rattle.hadopt.proofs.Turning.{among-past}
use Rattle.hadopt.proofs.site.Site.pop_past.Goals as goal

pub invariant_of-self : goal.invariant_of-self
invariant_of-self c = rw (c.pop_past.ensures) (each-among _ _ _ (among-past (passes c.args.passing) c.self.inside.stack.stack) c.self.invariant)

pub returns-clause-kept : goal.returns-clause-kept
returns-clause-kept c = λ k. subst (IsSound numbers) (sym (search rules)) (fewer-kept numbers _ _ (among-past (passes c.args.passing) _) k)
