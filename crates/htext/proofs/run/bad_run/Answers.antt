use Rattle.htext.proofs.Names.{arith, refl, subst, length, drop, ◌-◌, take_all, length-drop, IsBadAlone, common_steps}
use Rattle.htext.proofs.Alone.{are_bad_more}
use Rattle.htext.proofs.run.bad_run.Goals as goal

pub loop-count-preserved : goal.loop-count-preserved
loop-count-preserved c = let count = c.loop-count.count in let bytes = c.args.bytes.now in
    record {
      few = omega (arith, c.loop-count-test.true);
      bad = are_bad_more count bytes c.loop-count.invariant.bad
          (subst IsBadAlone (take_all (length bytes - count) (drop count bytes) (omega (arith, length-drop count bytes))) (c.if-is_bad_alone.ensures.0 refl));
    }

pub returns-else-is_bad_alone-clause-all : goal.returns-else-is_bad_alone-clause-all
returns-else-is_bad_alone-clause-all c = grind (arith, common_steps)
