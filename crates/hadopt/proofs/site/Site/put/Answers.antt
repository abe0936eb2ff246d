use Rattle.hadopt.proofs.Names.{rules, numbers}
use Rattle.hadopt.proofs.Inserting.{gives-kept, put-kept}
use Rattle.hadopt.proofs.site.Site.put.Goals as goal

pub returns-clause-kept : goal.returns-clause-kept
returns-clause-kept c = λ k stands. gives-kept numbers c.put_char.result _ _ (search rules) (put-kept numbers c.args.at c.args.c c.args.place _ stands k)
