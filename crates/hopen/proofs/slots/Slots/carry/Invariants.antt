use Rattle.hopen.proofs.Names.{◌≡◌, ◌+◌, ◌-◌, ◌<◌, length, get_or, insert, remove}
use Rattle.hopen.specs.declared.entry.Slot.TheVariants as stored
use Rattle.hopen.proofs.slots.Slots.carry.Given as goal

-- the item that moves is at the index
abbrev pub invariant-loop-index : goal.invariant-loop-index
invariant-loop-index l = record {
  within : l.index < length l.fn.self.items.items;
  moved : l.self.items.items ≡ insert (remove l.fn.self.items.items l.fn.from) l.index (get_or l.fn.self.items.items l.fn.from stored.Hole);
}

abbrev pub decreases-loop-index : goal.decreases-loop-index
decreases-loop-index l = (l.to - l.index) + (l.index - l.to)
