use Rattle.hopen.proofs.Names.{◌≡◌, ◌≤◌, ℕ, suc, length, map, get_or, slot_names, opened_by, same_name_of, KeptNode}
use Rattle.hopen.proofs.Swapped.{Walks}
use Rattle.hopen.proofs.exchange.next_of_name.Given as goal

abbrev pub invariant-loop-before : goal.invariant-loop-before
invariant-loop-before l = record {
  within : l.next ≤ length l.items;
  walks : Walks (slot_names (map opened_by l.items)) l.index l.before;
  top : l.next ≡ 0 → (x : KeptNode) → x ≡ get_or l.items l.index x → l.before ≡ get_or l.names x.opened.name 0;
  kept : (j : ℕ) → l.next ≡ suc j → l.before ≡ get_or (map same_name_of l.items) j 0;
}

abbrev pub decreases-loop-before : goal.decreases-loop-before
decreases-loop-before l = l.before
