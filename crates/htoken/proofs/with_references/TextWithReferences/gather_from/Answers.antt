use Rattle.htoken.proofs.Names.{IsGathered, ◌+◌, arith, clean_rest, IsCharBoundary-from_drop, common_steps}
use Rattle.htoken.proofs.InText.{bare_cut_of}
use Rattle.htoken.proofs.WithReferences.{gathered_more, few_left}
use Rattle.htoken.proofs.with_references.TextWithReferences.gather_from.Goals as goal
use Rattle.htoken.proofs.with_references.TextWithReferences.gather_from.Goals.{In_ok-count}

-- with the text that was added
added : (c : In_ok-count)
    → IsGathered c.args.table.now c.args.kind c.args.run.now.text.now c.args.run.now.at (c.loop-count.count + c.in_ok-count.field-0) c.add_text.new.self
added c = gathered_more c.args.table.now c.args.kind c.args.run.now.text.now c.args.run.now.at c.loop-count.count c.in_ok-count.field-0 c.loop-count.self
    c.loop-count.invariant c.range_from.ensures.value (c.in_ok-count.ensures.adds c.args.table.now c.args.kind (c.args.run.now.at + c.loop-count.count))

pub range_from-requires : goal.range_from-requires
range_from-requires c = λ _.
    let cut = c.loop-count.invariant.front.cut in IsCharBoundary-from_drop c.args.run.now.text.now c.loop-count.count cut.within cut.back

pub add_text-requires : goal.add_text-requires
add_text-requires c = record
    { clean = rw c.range_from.ensures.value (clean_rest c.loop-count.count c.args.run.now.text.now c.loop-count.invariant.front.cut c.args.run.now.clean).1 }

pub overflow_add-count : goal.overflow_add-count
overflow_add-count c = let here = added (goal.at.overflow_add-count c).In_ok-count in omega (arith, here.front.cut.within, c.args.run.now.within)

pub returns-then-count-run-clause-gathered : goal.returns-then-count-run-clause-gathered
returns-then-count-run-clause-gathered c = added (goal.at.returns-then-count-run-clause-gathered c).In_ok-count

pub range_from-rest-requires : goal.range_from-rest-requires
range_from-rest-requires c = let here = added (goal.at.range_from-rest-requires c).In_ok-count in
    λ _. IsCharBoundary-from_drop c.args.run.now.text.now (c.loop-count.count + c.in_ok-count.field-0) here.front.cut.within here.front.cut.back

pub add_bare-requires-clause-clean : goal.add_bare-requires-clause-clean
add_bare-requires-clause-clean c = let here = added (goal.at.add_bare-requires-clause-clean c).In_ok-count in
    rw c.range_from-rest.ensures.value (clean_rest (c.loop-count.count + c.in_ok-count.field-0) c.args.run.now.text.now here.front.cut c.args.run.now.clean).1

pub add_bare-requires-clause-cut : goal.add_bare-requires-clause-cut
add_bare-requires-clause-cut c = bare_cut_of c.range_from-rest.result.now c.in-Text.size c.in-Text.ensures c.range_from-rest.utf8

pub loop-count-preserved-in-Text : goal.loop-count-preserved-in-Text
loop-count-preserved-in-Text c = let here = added (goal.at.loop-count-preserved-in-Text c).In_ok-count in
    gathered_more c.args.table.now c.args.kind c.args.run.now.text.now c.args.run.now.at (c.loop-count.count + c.in_ok-count.field-0) c.in-Text.size
    c.add_text.new.self here c.range_from-rest.ensures.value (c.in_ok-add_bare-in-Text.ensures c.args.table.now c.args.kind c.in-Text.ensures)

pub returns-then-not-are_some-clause-gathered : goal.returns-then-not-are_some-clause-gathered
returns-then-not-are_some-clause-gathered c = added (goal.at.returns-then-not-are_some-clause-gathered c).In_ok-count

pub add_reference-requires-clause-left : goal.add_reference-requires-clause-left
add_reference-requires-clause-left c = few_left c.args.run.now.at c.range_from-rest.utf8 c.in-Whole.ensures

pub loop-count-preserved : goal.loop-count-preserved
loop-count-preserved c = let here = added (goal.at.loop-count-preserved c).In_ok-count in
    gathered_more c.args.table.now c.args.kind c.args.run.now.text.now c.args.run.now.at (c.loop-count.count + c.in_ok-count.field-0)
    c.in_ok-count-in-Whole.field-0 c.add_text.new.self here c.range_from-rest.ensures.value
    (c.in_ok-count-in-Whole.ensures.adds c.args.table.now c.args.kind c.range_from-rest.result.now c.range_from-rest.utf8 c.in-Whole.ensures)

pub returns-in-Open-clause-gathered : goal.returns-in-Open-clause-gathered
returns-in-Open-clause-gathered c = added (goal.at.returns-in-Open-clause-gathered c).In_ok-count

pub add_bare-requires-clause-within : goal.add_bare-requires-clause-within
add_bare-requires-clause-within c = grind (arith, common_steps)

pub add_reference-requires-clause-within : goal.add_reference-requires-clause-within
add_reference-requires-clause-within c = grind (arith, common_steps)

pub returns-then-not-are_some-clause-ends : goal.returns-then-not-are_some-clause-ends
returns-then-not-are_some-clause-ends c = grind (arith, common_steps)

pub returns-then-not-are_some-clause-whole : goal.returns-then-not-are_some-clause-whole
returns-then-not-are_some-clause-whole c = rw (← c.range_from-rest.ensures.value) c.in-Whole.ensures

pub overflow_add-count-in-Whole : goal.overflow_add-count-in-Whole
overflow_add-count-in-Whole c =
    let adds = c.in_ok-count-in-Whole.ensures.adds c.args.table.now c.args.kind c.range_from-rest.result.now c.range_from-rest.utf8 c.in-Whole.ensures in
    omega (arith, adds.front.cut.within, c.range_from-rest.ensures.len, c.args.run.now.within)

pub overflow_add-count-in-Text : goal.overflow_add-count-in-Text
overflow_add-count-in-Text c =
    let cut = bare_cut_of c.range_from-rest.result.now c.in-Text.size c.in-Text.ensures c.range_from-rest.utf8 in
    omega (arith, cut.within, c.range_from-rest.ensures.len, c.args.run.now.within)

pub returns-in-Open-clause-ends : goal.returns-in-Open-clause-ends
returns-in-Open-clause-ends c = grind (arith, common_steps)
