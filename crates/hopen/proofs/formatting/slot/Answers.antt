use Rattle.hopen.proofs.Names.{◌≡◌, ◌-◌, ◌≤◌, Some, length, arith, sym, ◌∙◌, ap, option_map, listed_items, common_steps}
use Rattle.hopen.proofs.Holes.{solid-end}
use Rattle.hopen.proofs.Listed.{length-items_of}
use Rattle.hopen.proofs.Live.{nth-solid}
use Rattle.hopen.proofs.formatting.slot.Goals as goal

pub returns-then-back-len : goal.returns-then-back-len
returns-then-back-len c = let items = c.args.slots.now.items.items in let k = length items - c.args.slots.now.solid in
    let most : k ≤ length items - c.args.slots.now.solid = omega arith in
    let nth =
    nth-solid k c.args.back (listed_items items) (solid-end items c.args.slots.now.solid k c.args.slots.now.listed.stored c.args.slots.now.listed.solid most)
    (omega arith) (omega (arith, length-items_of items)) in
    let size : c.len-len.result ≡ length items = omega arith in
    ap (λ n. Some (n - 1 - c.args.back)) size ∙ sym (ap (option_map (λ up. length items - 1 - up)) nth)

pub loop-index-preserved-then-not-is_hole : goal.loop-index-preserved-then-not-is_hole
loop-index-preserved-then-not-is_hole c = grind (arith, common_steps)

pub loop-index-preserved : goal.loop-index-preserved
loop-index-preserved c = grind (arith, common_steps)

pub loop-index-init : goal.loop-index-init
loop-index-init c = grind (arith, common_steps)

pub returns-then-left-eq0 : goal.returns-then-left-eq0
returns-then-left-eq0 c = grind (arith, common_steps)
