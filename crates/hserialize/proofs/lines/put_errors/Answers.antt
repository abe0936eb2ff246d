use Rattle.hserialize.proofs.Names.{error_line, arith, common_steps}
use Rattle.hserialize.proofs.Output.{next_lines, none_put, part_put, part_failed, passed_on}
use Rattle.hserialize.proofs.lines.put_errors.Goals as goal

pub returns-in_err-put : goal.returns-in_err-put
returns-in_err-put g c = passed_on _ _ _ _ c.from_residual.ensures.1 (part_failed _ _ _ _ _ _ _ c.loop-error.invariant.0
    (next_lines error_line c.args.errors.now c.loop-error.error-index _ c.loop-error-test.true) c.in_err-put.ensures.text)

pub loop-error-init : goal.loop-error-init
loop-error-init g c = (none_put _ _, c.of-line.ensures.line)

pub loop-error-preserved : goal.loop-error-preserved
loop-error-preserved g c = (
  part_put _ _ _ _ _ _ _ c.loop-error.invariant.0 (next_lines error_line c.args.errors.now c.loop-error.error-index _ c.loop-error-test.true)
      c.in_ok-put.ensures.text,
  c.in_ok-put.ensures.line,
)

pub returns : goal.returns
returns g c = grind (arith, common_steps)

pub returns-in_default : goal.returns-in_default
returns-in_default g c = grind (arith, common_steps)
