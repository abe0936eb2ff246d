-- The words of the contracts that several files cite, in one place.
pub use Rattle.hnodes.specs.Numbered.{attr_numbers}
pub use Rattle.hnodes.specs.Places.{last_place}
pub use Rattle.hnodes.specs.Rows.{attribute_of}
pub use Rattle.hopen.specs.Formatting.{are_among, booked, cleared, entry_at, entry_of, find_entry, for_node, has_bookmark, is_entry, is_equal, marker, pushed}
pub use Rattle.hopen.specs.Formatting.{same_attribute, same_attributes, with_node, with_room, without_entry, Listed}
pub use Rattle.hopen.specs.Hashes.{distinct, entry_hash, fed_name, hash_of}
pub use Rattle.hopen.specs.Holes.{nth_live}
pub use Rattle.hopen.specs.ItemCoding.{coded_items}
pub use Rattle.hopen.specs.Items.{entry_is, is_gone, item_of, listed_items, live, moved_entry, stored_entry, IsStored, IsStored-prop}
pub use Rattle.hopen.specs.Kept.{AreAlike, AreAlikeButNames, AreAsLong, AreHoles, AreIn, CanPass, EndsOpen, HasRoom, IsAlone, IsBelow, IsHeldLevel, IsIn, IsLinked, KeepRoom, KeepSets, KeepSetsTo, Rests, LevelsStand, LevelsTo}
pub use Rattle.hopen.specs.Kept.{exchanged, is_hole, kept_kind_at, kept_kind, closing, open_name, slot_names, nearest_in, nearest_up, open_node, slot_nodes, opened_by, same_name_of, same_node_of, sets_at, slots_of, stack_of}
pub use Rattle.hopen.specs.Slots.{gap, holds_one, somes}
pub use Rattle.hopen.specs.Listed.{by_hash, by_name, by_node, number_by, numbers_by, AreListed}
pub use Rattle.hopen.specs.NameSets.{holds, is_in, set_node}
pub use Rattle.hopen.specs.Opens.{is_sought, open_of}
pub use Rattle.hopen.specs.Scopes.{is_named, is_of, stops_in_scope, stops_item}
pub use Rattle.hopen.specs.Stack.{above, current, furthest_block, in_scope, is_node, is_open}
pub use Rattle.hopen.specs.declared.scope.Scope.TheVariants.{Default}
pub use Rattle.names.specs.Sets.{is_special, may_stay_open}
pub use Rattle.names.specs.Tags.{tag_of}
pub use Rattle.names.specs.declared.refusal.Refusal.TheVariants.{Memory, TooDeep}
