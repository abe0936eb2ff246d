use Rattle.hnodes.proofs.Names.{arith, common_steps}
use Rattle.hnodes.proofs.store.Texts.add.Goals as goal

pub returns-in_ok-push-clause-run : goal.returns-in_ok-push-clause-run
returns-in_ok-push-clause-run c = grind (arith, common_steps)

pub returns-else-is_some-clause-run : goal.returns-else-is_some-clause-run
returns-else-is_some-clause-run c = grind (arith, common_steps)

pub returns-in_err-push-clause-grown : goal.returns-in_err-push-clause-grown
returns-in_err-push-clause-grown c = grind (arith, common_steps)
