use Rattle.htmlp.proofs.Names.{Ok, subst, WritesAll, take_all}
use Rattle.htmlp.proofs.AllParts.{all_parts, next_failed, next_written}
use Rattle.htmlp.proofs.parts.write_parts.Goals as goal

pub returns-in_err-write_all : goal.returns-in_err-write_all
returns-in_err-write_all g c = let told = c.in_err-write_all.ensures in
    next_failed _ _ _ _ _ _ _ _ _ _ c.loop-part-test.true c.as_bytes.ensures.value c.loop-part.invariant _ _ c.from_residual.ensures.1
    (told.cause, told.beginning, told.count)

pub loop-part-preserved : goal.loop-part-preserved
loop-part-preserved g c = next_written _ _ _ _ _ _ _ _ _ _ c.loop-part-test.true c.as_bytes.ensures.value c.loop-part.invariant
    (c.in_ok-write_all.ensures.all, c.in_ok-write_all.ensures.count)

pub returns : goal.returns
returns g c = subst (λ parts. WritesAll (g.W.Target.written c.args.target.now) (g.W.Target.failed c.args.target.now) (g.W.Target.written c.loop-part.target)
    (g.W.Target.failed c.loop-part.target) (all_parts parts) (Ok tt)) (take_all _ _ c.loop-part-test.false) c.loop-part.invariant
