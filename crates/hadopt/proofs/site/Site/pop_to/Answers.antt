use Rattle.hadopt.proofs.Names.{rules, numbers, stack, nat_eq, is_named, IsSound, sym, subst}
use Rattle.hadopt.proofs.Inserting.{fewer-kept}
use Rattle.hadopt.proofs.Lists.{each-among, among-after}
use Rattle.hadopt.proofs.site.Site.pop_to.Goals as goal

pub invariant_of-self : goal.invariant_of-self
invariant_of-self c = rw (c.pop_to.ensures) (each-among _ _ _ (among-after (is_named nat_eq c.args.name) c.self.inside.stack.stack) c.self.invariant)

pub returns-clause-kept : goal.returns-clause-kept
returns-clause-kept c = λ k. subst (IsSound numbers) (sym (search rules)) (fewer-kept numbers _ _ (among-after (is_named nat_eq c.args.name) _) k)
