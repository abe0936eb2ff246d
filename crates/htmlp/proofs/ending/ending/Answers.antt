use Rattle.htmlp.proofs.Names.{Ok, sym, subst, IfSome, rules, EndsWith, ending_text, WritesAll-nil}
use Rattle.htmlp.proofs.ending.ending.Goals as goal

pub returns-in-Ok-clause-text : goal.returns-in-Ok-clause-text
returns-in-Ok-clause-text g c = let old = g.W.Target.written c.args.target.now in let before = g.W.Target.failed c.args.target.now in
    subst (λ outcome. IfSome (ending_text c.args.explains outcome) (EndsWith old before old before)) (sym c.in-Ok.is) (Ok tt, WritesAll-nil old before)

pub returns-in-Err-clause-status : goal.returns-in-Err-clause-status
returns-in-Err-clause-status g c = search rules
