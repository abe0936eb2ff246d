use Rattle.hopen.proofs.Names.{common_steps, sym, ◌∙◌, ap, arith, is_entry, without_entry, length-without}
use Rattle.hopen.proofs.Listed.{any-within, filter-all, filter-without}
use Rattle.hopen.proofs.formatting.Formatting.remove.Goals as goal

pub loop-node-smaller : goal.loop-node-smaller
loop-node-smaller c = grind (arith, common_steps, any-within, length-without)

pub loop-node-preserved : goal.loop-node-preserved
loop-node-preserved c = ap (without_entry c.args.node) c.hide.ensures.entry ∙ filter-without (is_entry c.args.node) c.loop-node.self ∙ c.loop-node.invariant

pub returns : goal.returns
returns c = sym (filter-all (is_entry c.args.node) c.hide.new.self (sym c.hide.ensures.more ∙ c.loop-node-test.false))
    ∙ ap (without_entry c.args.node) c.hide.ensures.entry ∙ filter-without (is_entry c.args.node) c.loop-node.self ∙ c.loop-node.invariant
