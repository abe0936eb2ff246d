use Rattle.hserialize.proofs.Names.{arith, common_steps}
use Rattle.hserialize.proofs.Output.{part_put, part_failed, passed_on}
use Rattle.hserialize.proofs.LineTexts.{next_attribute}
use Rattle.hserialize.proofs.lines.put_attributes.Goals as goal

pub returns-in_err-put_line : goal.returns-in_err-put_line
returns-in_err-put_line g c =
    passed_on _ _ _ _ c.from_residual.ensures.1 (part_failed _ _ _ _ _ _ _ c.loop-entry.invariant (next_attribute c.args.depth c.args.entries.now
    c.loop-entry.entry-index _ _ _ c.loop-entry-test.true c.as_bytes-name.ensures.value c.as_bytes-value.ensures.value) c.in_err-put_line.ensures)

pub loop-entry-preserved : goal.loop-entry-preserved
loop-entry-preserved g c = part_put _ _ _ _ _ _ _ c.loop-entry.invariant (next_attribute c.args.depth c.args.entries.now c.loop-entry.entry-index _ _ _
    c.loop-entry-test.true c.as_bytes-name.ensures.value c.as_bytes-value.ensures.value) c.in_ok-put_line.ensures

pub returns : goal.returns
returns g c = grind (arith, common_steps)
