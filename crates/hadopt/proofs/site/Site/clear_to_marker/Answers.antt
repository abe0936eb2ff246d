use Rattle.hadopt.proofs.Names.{rules, numbers, IsSound, sym, subst}
use Rattle.hadopt.proofs.Inserting.{cleared-kept}
use Rattle.hadopt.proofs.site.Site.clear_to_marker.Goals as goal

pub returns-clause-kept : goal.returns-clause-kept
returns-clause-kept c = λ k. subst (IsSound numbers) (sym (search rules)) (cleared-kept numbers c.args.self.now k)
