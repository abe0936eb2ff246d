use Rattle.hopen.proofs.Names.{arith, common_steps, ◌∙◌, set, map-set, take-set, opened_by}
use Rattle.hopen.proofs.Standing.{in-as-long, levels-front, stands-in}
use Rattle.hopen.proofs.kept.rewrite.Goals as goal

pub rewind-requires-clause-stands : goal.rewind-requires-clause-stands
rewind-requires-clause-stands c = let items = c.args.items.now in
    levels-front c.args.index c.unwind.new.last (set items c.args.index c.args.slot) items (take-set items c.args.index c.args.slot) c.unwind.ensures.stands

pub rewind-requires-clause-numbers : goal.rewind-requires-clause-numbers
rewind-requires-clause-numbers c = grind (arith, common_steps, in-as-long, map-set, stands-in)

pub returns-clause-items : goal.returns-clause-items
returns-clause-items c = c.rewind.ensures.same ∙ map-set opened_by c.args.items.now c.args.index c.args.slot
