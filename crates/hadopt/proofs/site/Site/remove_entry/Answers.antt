use Rattle.hadopt.proofs.Names.{rules, numbers, IsSound, sym, subst}
use Rattle.hadopt.proofs.Inserting.{removed-kept}
use Rattle.hadopt.proofs.site.Site.remove_entry.Goals as goal

pub returns-clause-kept : goal.returns-clause-kept
returns-clause-kept c = λ k. subst (IsSound numbers) (sym (search rules)) (removed-kept numbers c.args.node c.args.self.now k)
