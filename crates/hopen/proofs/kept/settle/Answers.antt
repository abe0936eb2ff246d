use Rattle.hopen.proofs.Names.{common_steps, ◌≡◌, ℕ, suc, ◌+◌, ◌<◌, List, Some, None, length, map, set, get_or, ap, sym, ◌∙◌, subst, arith, get_or-set_same, get_or-set_other, length-map, length-set, map-set, map-set_same, take-set, opened_by, open_of, is_hole_kind, false, HasRoom, IsIn, KeptNode, LastLevels, LevelsTo, Open}
use Rattle.hopen.proofs.Projected.{below-held, held, no-node, part-at}
use Rattle.hopen.proofs.Standing.{below-front, levels-front, levels-gap}
use Rattle.hopen.proofs.kept.settle.Goals as goal

pub returns-then-is_hole-clause-stands : goal.returns-then-is_hole-clause-stands
returns-then-is_hole-clause-stands c = let items = c.args.items.now in let i = c.args.index in let last = c.args.last.now in let h = c.hole.result in
    let up : suc i ≡ i + 1 = omega arith in
    subst (λ n. LevelsTo n last (set items i h)) up
    (levels-gap (set items i h) i (omega (arith, length-set items i h)) last h (sym (get_or-set_same items i h h (omega arith))) c.hole.ensures.hole
    c.hole.ensures.levels.0 c.hole.ensures.levels.1 (levels-front i last (set items i h) items (take-set items i h) c.requires.stands))

pub returns-then-is_hole-clause-same : goal.returns-then-is_hole-clause-same
returns-then-is_hole-clause-same c = grind (arith, common_steps, map-set_same, no-node)

-- the tables have the numbers of the node of a slot
room-of : (last : LastLevels) (items : List KeptNode) (i : ℕ) (x : KeptNode) → i < length items → x ≡ get_or items i x → is_hole_kind x.kind ≡ false
    → IsIn last (get_or (map opened_by items) i None) → HasRoom last x.opened
room-of last items i x h is live there = subst (IsIn last) (part-at opened_by None items i x h is ∙ held x live) there

pub slot_below-slot-requires-clause-room : goal.slot_below-slot-requires-clause-room
slot_below-slot-requires-clause-room c = grind (arith, common_steps, length-map, room-of)

pub enter-requires-clause-stands : goal.enter-requires-clause-stands
enter-requires-clause-stands c = let items = c.args.items.now in let i = c.args.index in let x = c.slot_below-slot.result in
    levels-front i c.args.last.now (set items i x) items (take-set items i x) c.requires.stands

pub enter-requires-clause-below : goal.enter-requires-clause-below
enter-requires-clause-below c = let items = c.args.items.now in let i = c.args.index in let x = c.slot_below-slot.result in
    below-front c.args.last.now (map opened_by items) (map opened_by (set items i x)) i c.index-items-index.result.opened x
    (c.slot_below-slot.ensures items i c.sets_of.ensures)
    (λ j h. ap (λ l. get_or l j None) (map-set opened_by items i x) ∙ get_or-set_other (map opened_by items) i j (opened_by x) None (λ e. absurd (omega arith)))

pub enter-requires-clause-room : goal.enter-requires-clause-room
enter-requires-clause-room c = grind (arith, common_steps, length-map, room-of)

pub returns-clause-same : goal.returns-clause-same
returns-clause-same c = let items = c.args.items.now in let i = c.args.index in let z = c.index-items-index.result in let x = c.slot_below-slot.result in
    let below = c.slot_below-slot.ensures items i c.sets_of.ensures in
    c.enter.ensures.same ∙ map-set_same opened_by items i x z (below-held c.args.last.now (map opened_by items) i z.opened x below
    ∙ ap (λ (o : Open). Some (open_of o)) below.opened ∙ sym (ap opened_by (sym c.index-items-index.is) ∙ held z (sym c.is_hole.ensures ∙ c.if-is_hole.false)))

pub enter-requires-clause-within : goal.enter-requires-clause-within
enter-requires-clause-within c = grind (arith, common_steps)
