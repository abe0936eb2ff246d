use Rattle.charref.proofs.Names.{false, sym, ◌∙◌, arith}
use Rattle.charref.proofs.AtOnce.{nothing_settled, walk_settles, walked_more}
use Rattle.charref.proofs.at_once.settled_by_steps.Goals as goal

pub returns-in-Some-clause-settles : goal.returns-in-Some-clause-settles
returns-in-Some-clause-settles c = let l = c.loop-count in
    walk_settles c.args.table.now c.args.bytes.now l.count l.walk c.take.new.self c.loop-count-test.true (sym c.is_ascii.ensures ∙ c.if-is_ascii.true)
    l.invariant c.in-Some.found (λ text p taken is. c.in-Some.ensures.taken c.args.table.now false text p taken (is ∙ sym c.from.ensures))

pub loop-count-preserved : goal.loop-count-preserved
loop-count-preserved c = let l = c.loop-count in
    walked_more c.args.table.now c.args.bytes.now l.count l.walk c.take.new.self c.loop-count-test.true (sym c.is_ascii.ensures ∙ c.if-is_ascii.true)
    l.invariant (λ text p taken is. c.in_default.ensures.taken c.args.table.now false text p taken (is ∙ sym c.from.ensures))

pub returns-else-is_ascii-clause-settles : goal.returns-else-is_ascii-clause-settles
returns-else-is_ascii-clause-settles c = nothing_settled c.loop-count.walk c.args.table.now c.args.bytes.now c.loop-count.count c.new-walk.ensures.table
    c.loop-count.invariant (λ within. sym c.is_ascii.ensures ∙ c.if-is_ascii.false)

pub returns-after-loop-count-clause-settles : goal.returns-after-loop-count-clause-settles
returns-after-loop-count-clause-settles c = nothing_settled c.loop-count.walk c.args.table.now c.args.bytes.now c.loop-count.count c.new-walk.ensures.table
    c.loop-count.invariant (λ within. absurd (omega (arith, within, c.loop-count-test.false)))
