use Rattle.hnodes.proofs.Names.{common_steps, elements}
use Rattle.hnodes.proofs.IndexNames.{◌≡◌, ℕ, length, set, refl, ◌∙◌, arith, length-set, map-set, none, link_number, numbers_of, Link, group_of, ap, cond, eqb}
use Rattle.hnodes.proofs.Relinked.{nth, rewritten, out_of, group-within, out-differ, out-before, out-within, out-fit}
use Rattle.hnodes.proofs.relink.take_out.Goals as goal

-- a link once its number is taken out
abbrev gone : Link → Link
gone x = record x { number = 1 }

pub hint_at-requires : goal.hint_at-requires
hint_at-requires c =
    let o = out_of c.args.last.now c.args.links.now c.args.index c.above.result c.requires.are_indexed c.requires.within c.if-link.false c.above.ensures in
    omega (arith, c.keep.auto.links, length-set c.args.links.now c.args.index (gone (nth c.args.links.now c.args.index)), out-within o)

pub returns-clause-are_indexed : goal.returns-clause-are_indexed
returns-clause-are_indexed c =
    let o = out_of c.args.last.now c.args.links.now c.args.index c.above.result c.requires.are_indexed c.requires.within c.if-link.false c.above.ensures in
    let old : Link = nth c.args.links.now c.args.index in
    let table =
    c.keep.ensures.table ∙ ap (λ (g : ℕ). cond (eqb c.above.result 0) (set c.args.last.now g old.before) c.args.last.now) c.group_of-group.ensures.group in
    rewritten c.args.last.now c.args.links.now (gone old) (group_of old.number (length c.args.last.now)) c.args.index c.above.result old.before
    c.keep.new.last c.keep.new.links c.hint_at.new.links c.requires.are_indexed (out-differ o)
    (group-within c.requires.are_indexed c.requires.within old.number) c.keep.ensures.numbers table c.keep.ensures.befores c.hint_at.ensures.numbers
    c.hint_at.ensures.befores (λ ne. absurd (ne refl)) (out-before o)

pub returns-clause-numbers : goal.returns-clause-numbers
returns-clause-numbers c =
    c.hint_at.ensures.numbers ∙ c.keep.ensures.numbers ∙ map-set link_number c.args.links.now c.args.index (gone (nth c.args.links.now c.args.index))

pub returns-clause-fit : goal.returns-clause-fit
returns-clause-fit c = λ some. let ys : numbers_of c.hint_at.new.links ≡ set (numbers_of c.args.links.now) c.args.index none =
    c.hint_at.ensures.numbers ∙ c.keep.ensures.numbers ∙ map-set link_number c.args.links.now c.args.index (gone (nth c.args.links.now c.args.index)) in
    let o = out_of c.args.last.now c.args.links.now c.args.index c.above.result c.requires.are_indexed c.requires.within c.if-link.false c.above.ensures in
    rw (c.keep.auto.last, ys) (out-fit o)

pub keep-requires-clause-next : goal.keep-requires-clause-next
keep-requires-clause-next c = grind (arith, common_steps)

pub returns-then-link-clause-numbers : goal.returns-then-link-clause-numbers
returns-then-link-clause-numbers c = grind (arith, elements)

pub returns-clause-number : goal.returns-clause-number
returns-clause-number c = grind (arith, common_steps)

pub above-requires-clause-are_indexed : goal.above-requires-clause-are_indexed
above-requires-clause-are_indexed c = grind (arith, common_steps)
