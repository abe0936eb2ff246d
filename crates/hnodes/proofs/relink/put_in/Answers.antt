use Rattle.hnodes.proofs.Names.{common_steps}
use Rattle.hnodes.proofs.IndexNames.{◌+◌, ℕ, length, ◌∙◌, arith, length-set, map-set, link_number, group_of, ap, cond, eqb, set}
use Rattle.hnodes.proofs.Relinked.{rewritten, In, group-within, in-differ, in-here, in-within, in-keeps}
use Rattle.hnodes.proofs.relink.put_in.Goals as goal

pub hint_at-requires : goal.hint_at-requires
hint_at-requires c = let o : In c.args.last.now c.args.links.now c.args.index c.args.link = record
    { are = c.requires.are_indexed; within = c.requires.within; free = c.requires.free; some = c.if-link.false; fits = c.requires.fit c.if-link.false } in
    omega (arith, c.keep.auto.links, length-set c.args.links.now c.args.index c.args.link, in-within o)

pub returns-clause-are_indexed : goal.returns-clause-are_indexed
returns-clause-are_indexed c = let o : In c.args.last.now c.args.links.now c.args.index c.args.link = record
    { are = c.requires.are_indexed; within = c.requires.within; free = c.requires.free; some = c.if-link.false; fits = c.requires.fit c.if-link.false } in
    let table = c.keep.ensures.table
    ∙ ap (λ (g : ℕ). cond (eqb c.args.link.hint 0) (set c.args.last.now g (c.args.index + 1)) c.args.last.now) c.group_of-group.ensures.group in
    rewritten c.args.last.now c.args.links.now c.args.link (group_of c.args.link.number (length c.args.last.now)) c.args.index c.args.link.hint
    (c.args.index + 1) c.keep.new.last c.keep.new.links c.hint_at.new.links c.requires.are_indexed (in-differ o)
    (group-within c.requires.are_indexed c.requires.within c.args.link.number) c.keep.ensures.numbers table c.keep.ensures.befores c.hint_at.ensures.numbers
    c.hint_at.ensures.befores (λ ne. in-here o) (in-keeps o)

pub returns-clause-numbers : goal.returns-clause-numbers
returns-clause-numbers c = c.hint_at.ensures.numbers ∙ c.keep.ensures.numbers ∙ map-set link_number c.args.links.now c.args.index c.args.link

pub keep-requires-clause-next : goal.keep-requires-clause-next
keep-requires-clause-next c = grind (arith, common_steps)
