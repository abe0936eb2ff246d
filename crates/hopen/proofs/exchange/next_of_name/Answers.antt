use Rattle.hopen.proofs.Names.{common_steps, ◌≡◌, ℕ, suc, ◌-◌, ◌+◌, ◌<◌, ◌≤◌, List, length, map, get_or, sym, ◌∙◌, ap, subst, arith, length-map, get_or_default, IsHeldLevel, slot_names, opened_by, same_name_of, KeptNode}
use Rattle.hopen.proofs.Projected.{length-names, name-at, name-in, same_name-at}
use Rattle.hopen.proofs.Swapped.{held-at, held-next, walk-start, walk-up}
use Rattle.hopen.proofs.exchange.next_of_name.Goals as goal

-- an item is read once
same-item : (items : List KeptNode) (i : ℕ) (x y : KeptNode) → i < length items → x ≡ get_or items i x → y ≡ get_or items i y → x ≡ y
same-item items i x y h is too = is ∙ get_or_default items i x y h ∙ sym too

pub bounds-names-index : goal.bounds-names-index
bounds-names-index c = grind (arith, common_steps, name-in)

pub loop-before-init : goal.loop-before-init
loop-before-init c = grind (arith, common_steps, length-names, name-at, same-item, walk-start)

pub loop-before-preserved : goal.loop-before-preserved
loop-before-preserved c = let items = c.args.items.now in let i = c.args.index in let x = c.index-items-index.result in let is = c.index-items-index.is in
    let p = c.loop-before.before in
    let ns = slot_names (map opened_by items) in
    let w = c.loop-before.invariant.walks in
    let most : p ≤ length items = omega (arith, w.most, length-names items) in
    let at = same_name-at items (p - 1) c.index-items-before.result (omega arith) c.index-items-before.is in
    let name = name-at items i x c.requires.within is (c.requires.live x is) in
    let up = walk-up c.args.names.now ns (map same_name_of items) c.requires.linked i x.opened.name name p w (omega arith) in
    grind (arith, common_steps, length-map, get_or_default, length-names, name-at, name-in, same_name-at, held-at, held-next, walk-start, walk-up)

pub loop-before-smaller : goal.loop-before-smaller
loop-before-smaller c = let items = c.args.items.now in let i = c.args.index in let x = c.index-items-index.result in let is = c.index-items-index.is in
    let p = c.loop-before.before in
    let w = c.loop-before.invariant.walks in
    let most : p ≤ length items = omega (arith, w.most, length-names items) in
    let at = same_name-at items (p - 1) c.index-items-before.result (omega arith) c.index-items-before.is ∙ ap same_name_of c.index-items-before.is in
    let name = name-at items i x c.requires.within is (c.requires.live x is) in
    let up = walk-up c.args.names.now (slot_names (map opened_by items)) (map same_name_of items) c.requires.linked i x.opened.name name p w (omega arith) in
    omega (arith, up.1, at)

pub returns-then-items-item : goal.returns-then-items-item
returns-then-items-item c = λ x is.
    let items = c.args.items.now in let i = c.args.index in let n = c.index-items-index.result.next_name in let names = c.args.names.now in
    let bs = map same_name_of items in
    let next : suc i ≡ i + 1 = omega arith in
    let at = same_name-at items (n - 1) c.index-items-item.result (omega arith) c.index-items-item.is ∙ ap same_name_of c.index-items-item.is in
    let name = name-at items i x c.requires.within is (c.requires.live x is) in
    subst (λ p. IsHeldLevel names bs x.opened.name p n) next (held-next names (slot_names (map opened_by items)) bs c.requires.linked i x.opened.name name
    (omega (arith, length-names items, length-map items same_name_of)) n (n - 1) (omega arith) (omega (arith, at)))

pub returns : goal.returns
returns c = λ x is.
    let items = c.args.items.now in let i = c.args.index in let names = c.args.names.now in let bs = map same_name_of items in
    let w = c.loop-before.invariant in
    let next : suc i ≡ i + 1 = omega arith in
    let here : c.loop-before.before ≡ suc i = omega (arith, w.walks.below) in
    let name = name-at items i x c.requires.within is (c.requires.live x is) in
    subst (λ p. IsHeldLevel names bs x.opened.name p c.loop-before.next) next
    (held-at names (slot_names (map opened_by items)) bs c.requires.linked i x.opened.name name
    (omega (arith, length-names items, length-map items same_name_of)) c.loop-before.next (λ e. sym (w.top e x is) ∙ here) (λ j e. sym (w.kept j e) ∙ here))

pub bounds-items-before : goal.bounds-items-before
bounds-items-before c = grind (arith, common_steps)

pub bounds-items-before-in-loop-before : goal.bounds-items-before-in-loop-before
bounds-items-before-in-loop-before c = grind (arith, common_steps)
