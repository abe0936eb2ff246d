use Rattle.hopen.proofs.Names.{◌≡◌, ℕ, ◌+◌, ◌-◌, ◌<◌, ◌≤◌, None, List, map, length, get_or, nat_eq, filter, drop, entry_is, EntryOf, after_marker, is_equal, listed_items, by_hash, number_by}
use Rattle.hopen.proofs.ByHash.{farthest}
use Rattle.hopen.proofs.Listed.{ordinal}
use Rattle.hopen.proofs.slots.Slots.earliest.Given as goal

-- what was found, and what is found among the entries from the ordinal on, is what is found among all
abbrev pub invariant-loop-ordinal : goal.invariant-loop-ordinal
invariant-loop-ordinal l = let new : EntryOf ℕ = entry_is l.new in let view = listed_items l.self.items.items in
    let entries : List (EntryOf ℕ) = after_marker view in
    let up : ℕ = length view - l.ordinal in
    record {
      room : l.ordinal + l.equal ≤ length l.self.items.items;
      marked : l.marker ≡ ordinal (by_hash l.self.keys) 0 view;
      number : 0 < l.ordinal → get_or (map (number_by (by_hash l.self.keys)) view) up 0 ≡ l.hash;
      count : length (filter (is_equal nat_eq new) (drop up entries)) + l.equal ≡ length (filter (is_equal nat_eq new) entries);
      first : farthest (is_equal nat_eq new) up l.earliest (drop up entries) ≡ farthest (is_equal nat_eq new) 0 None entries;
    }

abbrev pub decreases-loop-ordinal : goal.decreases-loop-ordinal
decreases-loop-ordinal l = l.ordinal
