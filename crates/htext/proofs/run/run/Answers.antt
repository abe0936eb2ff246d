use Rattle.htext.proofs.Names.{ap, ◌∙◌, sym, arith, count_trailing_zeros, is_run_byte, prefix_len-le-length}
use Rattle.htext.proofs.Lanes.{run_through, run_stops}
use Rattle.htext.proofs.run.run.Goals as goal

pub returns-then-found-ne0-clause-counted : goal.returns-then-found-ne0-clause-counted
returns-then-found-ne0-clause-counted c = let found = c.stops-found in
    let run = run_stops (is_run_byte c.args.kind) c.args.bytes.now c.loop-count.count 16 (omega arith) (omega arith) (omega (arith, found.ensures))
    ∙ ap (count_trailing_zeros 64) (sym found.ensures) in
    omega (arith, run, c.loop-count.invariant.counted)

pub returns-then-found-ne0-clause-few : goal.returns-then-found-ne0-clause-few
returns-then-found-ne0-clause-few c = omega (arith, returns-then-found-ne0-clause-counted c, prefix_len-le-length (is_run_byte c.args.kind) c.args.bytes.now)

pub loop-count-preserved : goal.loop-count-preserved
loop-count-preserved c =
    let run = run_through (is_run_byte c.args.kind) c.args.bytes.now c.loop-count.count 16 (omega arith) (omega (arith, c.stops-found.ensures)) in
    record { counted = omega (arith, run, c.loop-count.invariant.counted); within = omega arith }
