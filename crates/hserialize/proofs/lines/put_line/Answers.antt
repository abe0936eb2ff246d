use Rattle.hserialize.proofs.Names.{codes, refl, arith, common_steps}
use Rattle.hserialize.proofs.Output.{first_failed, last_put, part_put, part_failed, passed_on}
use Rattle.hserialize.proofs.LineTexts.{one_level, no_level}
use Rattle.hserialize.proofs.lines.put_line.Goals as goal

pub returns-in_err-put : goal.returns-in_err-put
returns-in_err-put g c = first_failed _ _ _ (codes "| ") _ _ c.from_residual.ensures.1 refl c.in_err-put.ensures

pub returns-in_err-put-2 : goal.returns-in_err-put-2
returns-in_err-put-2 g c = passed_on _ _ _ _ c.from_residual-in_err-put-2.ensures.1
    (part_failed _ _ _ _ _ _ _ c.loop-level.invariant (one_level c.args.depth c.loop-level.level _ c.loop-level-test.true) c.in_err-put-2.ensures)

pub loop-level-preserved : goal.loop-level-preserved
loop-level-preserved g c =
    part_put _ _ _ _ _ _ _ c.loop-level.invariant (one_level c.args.depth c.loop-level.level _ c.loop-level-test.true) c.in_ok-put-2.ensures

pub returns-in_err-put_parts : goal.returns-in_err-put_parts
returns-in_err-put_parts g c = passed_on _ _ _ _ c.from_residual-in_err-put_parts.ensures.1
    (part_failed _ _ _ _ _ _ _ c.loop-level.invariant (no_level c.args.depth c.loop-level.level _ c.loop-level-test.false) c.in_err-put_parts.ensures)

pub returns : goal.returns
returns g c = last_put _ _ _ _ _ _ _
    (part_put _ _ _ _ _ _ _ c.loop-level.invariant (no_level c.args.depth c.loop-level.level _ c.loop-level-test.false) c.in_ok-put_parts.ensures) refl
    c.put-2.ensures

pub loop-level-init : goal.loop-level-init
loop-level-init g c = grind (arith, common_steps)
