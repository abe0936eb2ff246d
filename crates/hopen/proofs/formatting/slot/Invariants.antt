use Rattle.hopen.proofs.Names.{◌≡◌, ◌+◌, ◌-◌, ◌≤◌, length, take, option_map, nth_live, listed_items}
use Rattle.hopen.proofs.formatting.slot.Given as goal

abbrev pub invariant-loop-index : goal.invariant-loop-index
invariant-loop-index l = record {
  within : l.index ≤ length l.slots.items.items;
  found : nth_live l.back (listed_items l.slots.items.items)
      ≡ option_map (λ k. length l.slots.items.items - l.index + k) (nth_live l.left (listed_items (take l.index l.slots.items.items)));
}

abbrev pub decreases-loop-index : goal.decreases-loop-index
decreases-loop-index l = l.index
