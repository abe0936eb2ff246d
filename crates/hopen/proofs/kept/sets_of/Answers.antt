use Rattle.hopen.proofs.Names.{NameSet, ◌≡◌, ◌≢◌, suc, ◌-◌, None, map, get_or, sym, ◌∙◌, arith, length-map, get_or-map, opened_by, sets_at, set_node, common_steps}
use Rattle.hopen.proofs.Projected.{held, seen-at, some≢none}
use Rattle.hopen.proofs.kept.sets_of.Goals as goal

pub returns-then-not-is_hole : goal.returns-then-not-is_hole
returns-then-not-is_hole c = let items = c.args.items.now in let i = c.loop-index.index in let x = c.index-items-index.result in
    let z = c.index-items-index-then-not-is_hole.result in let next : suc (i - 1) ≡ i = omega arith in
    let live : get_or (map opened_by items) (i - 1) None ≢ None =
    some≢none _ _ (seen-at items (i - 1) x (omega arith) ∙ held (get_or items (i - 1) x) (sym c.is_hole.ensures ∙ c.if-not-is_hole.true)) in
    let here = get_or-map sets_at items (i - 1) z z.sets (omega arith) in
    let keep = λ (set : NameSet). c.requires.keep set (i - 1) (omega (arith, c.loop-index.invariant.within)) live in
    λ set. grind (arith, get_or-map (set_node set) (map sets_at items) (i - 1) z.sets 0, length-map, here, keep set, next, c.loop-index.invariant.rest set)

pub loop-index-preserved : goal.loop-index-preserved
loop-index-preserved c = grind (arith, common_steps)
