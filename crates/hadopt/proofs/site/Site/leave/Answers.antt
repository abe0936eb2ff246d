use Rattle.hadopt.proofs.Names.{rules, numbers, stack, is_node, IsSound, sym, subst}
use Rattle.hadopt.proofs.Inserting.{fewer-kept}
use Rattle.hadopt.proofs.Lists.{each-among, among-without}
use Rattle.hadopt.proofs.site.Site.leave.Goals as goal

pub invariant_of-self : goal.invariant_of-self
invariant_of-self c = rw (c.remove.ensures) (each-among _ _ _ (among-without (is_node c.args.node) c.self.inside.stack.stack) c.self.invariant)

pub returns-clause-kept : goal.returns-clause-kept
returns-clause-kept c = λ k. subst (IsSound numbers) (sym (search rules)) (fewer-kept numbers _ _ (among-without (is_node c.args.node) _) k)
