use Rattle.hserialize.proofs.Names.{Bor, List, ℕ, arith, common_steps}
use Rattle.hserialize.proofs.Output.{part_put, part_failed, passed_on, next_lines}
use Rattle.hserialize.proofs.writer.put_parts.Goals as goal

pub returns-in_err-put : goal.returns-in_err-put
returns-in_err-put g c = passed_on _ _ _ _ c.from_residual.ensures.1 (part_failed _ _ _ _ _ _ _ c.loop-part.invariant
    (next_lines (λ (p : Bor (List ℕ)). p.now) c.args.parts.now c.loop-part.part-index _ c.loop-part-test.true) c.in_err-put.ensures)

pub loop-part-preserved : goal.loop-part-preserved
loop-part-preserved g c = part_put _ _ _ _ _ _ _ c.loop-part.invariant
    (next_lines (λ (p : Bor (List ℕ)). p.now) c.args.parts.now c.loop-part.part-index _ c.loop-part-test.true) c.in_ok-put.ensures

pub returns : goal.returns
returns g c = grind (arith, common_steps)
