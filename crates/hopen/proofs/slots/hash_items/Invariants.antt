use Rattle.hopen.proofs.Names.{◌≡◌, take, by_hash, numbers_by}
use Rattle.hopen.proofs.slots.hash_items.Given as goal

abbrev pub invariant-loop-index : goal.invariant-loop-index
invariant-loop-index l = l.hashes ≡ numbers_by (by_hash l.keys) (take l.index l.items)
