use Rattle.hnodes.proofs.Names.{common_steps}
use Rattle.hnodes.proofs.IndexNames.{◌-◌, ◌<◌, length, get_or, arith, get_or_default, Link}
use Rattle.hnodes.proofs.IndexSteps.{nothing, less-none, less-some}
use Rattle.hnodes.proofs.indexed_list.unwind.Goals as goal

pub loop-end-preserved-then-link-ne-NONE : goal.loop-end-preserved-then-link-ne-NONE
loop-end-preserved-then-link-ne-NONE c = let links = c.args.links.now in let end = c.loop-end.end in let within : end - 1 < length links = omega arith in
    let x : Link = get_or links (end - 1) nothing in
    let wide : 0 < length c.loop-end.last = omega (arith, c.requires.indexed.wide (omega arith)) in
    record {
      within = omega arith;
      above = omega arith;
      indexed = less-some c.loop-end.last links (end - 1) end x (omega arith) within (get_or_default links (end - 1) x nothing within) c.group_of.result
          c.group_of.ensures.group c.if-link-ne-NONE.true wide c.loop-end.invariant.indexed;
    }

pub loop-end-preserved : goal.loop-end-preserved
loop-end-preserved c = let links = c.args.links.now in let end = c.loop-end.end in let within : end - 1 < length links = omega arith in
    let x : Link = get_or links (end - 1) nothing in
    record {
      within = omega arith;
      above = omega arith;
      indexed = less-none c.loop-end.last links (end - 1) end x (omega arith) within (get_or_default links (end - 1) x nothing within) c.if-link-ne-NONE.false
          c.loop-end.invariant.indexed;
    }

pub loop-end-init : goal.loop-end-init
loop-end-init c = grind (arith, common_steps)
