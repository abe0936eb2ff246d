use Rattle.hnodes.proofs.Names.{refl, arith, common_steps}
use Rattle.hnodes.proofs.Rows.{longer-is}
use Rattle.hnodes.proofs.store.Store.lengthen.Goals as goal

pub returns-in_ok-push-clause-run : goal.returns-in_ok-push-clause-run
returns-in_ok-push-clause-run c = longer-is c.of-longer.result c.args.run _ _ c.args.self.now.texts c.push.new.self c.args.more.now c.of-longer.ensures refl
    refl (omega (arith, c.end.ensures, c.len.ensures, c.if-end-len.false)) c.in_ok-push.ensures.ok c.requires c.utf8.more

pub returns-else-is_some-clause-run : goal.returns-else-is_some-clause-run
returns-else-is_some-clause-run c = grind (arith, common_steps)

pub returns-in_ok-push-clause-grown : goal.returns-in_ok-push-clause-grown
returns-in_ok-push-clause-grown c = grind (arith, common_steps)
