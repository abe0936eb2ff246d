-- The names of other crates and of specs/ that the proofs cite, in one place.
pub use Rattle.hnodes.proofs.Images.{find-map, after-map, any-map, before-map, changed-map, position-map, put_before-map, without-map, all-map, changed_at-map, filter-map}
pub use Rattle.hnodes.proofs.LastUp.{up-sought, up-other, up-found, up-within, up-past, up-alike, up-least}
pub use Rattle.hnodes.proofs.Nearest.{no_words, words, remove_nearest, insert_nearest, slice_get_nearest, is_some-position, change_nearest, length-without, reverse-map, reverse_push, take_nearest, drop_nearest, set_nearest, changed_at_past, get_nearest, position_nearest, reverse_split}
pub use Rattle.hnodes.proofs.Places.{last_place-le, position-some, position-none}
pub use Rattle.hnodes.proofs.Tables.{take-more}
pub use Rattle.hnodes.specs.IndexedList.{last_up, none}
pub use Rattle.hnodes.specs.Forest.{Attribute}
pub use Rattle.hnodes.specs.Nearest.{item_put_before, without, after, before, changed, changed_at}
pub use Rattle.hnodes.specs.Places.{last_place}
pub use Rattle.hnodes.specs.Rows.{attribute_of}
pub use Rattle.hnodes.specs.Mapped.{mapped_attribute}
pub use Rattle.hopen.specs.Formatting.{Listed, marker, entry, entry_of, is_entry, is_of_node, has_bookmark, EntryOf, as_entry, after_marker, without_earliest, most_equal, is_equal, with_room, for_node, cleared, find_entry, with_node, booked, pushed, are_among, same_attribute, entry_at, without_entry, entries}
pub use Rattle.hopen.specs.FormattingMapped.{FormattingKnowsNoNames, mapped_entry, mapped_item, mapped_items}
pub use Rattle.hopen.specs.Hashes.{entry_hash, distinct, hash_of, hash_put_in}
pub use Rattle.hopen.specs.Holes.{nth_live}
pub use Rattle.hopen.specs.Items.{item_of, listed_items, IsStored, entry_is, is_gone, nowhere, AreSlots, IsSlot, hole, is_listed_hole, live, stored_entry, moved_entry}
pub use Rattle.hopen.specs.Kept.{opened_by, LevelsStand, Rests, EndsOpen, slot_names, open_name, same_name_of, stack_of, slots_of, same_node_of, open_node, AreIn, IsIn, sets_at, kept_kind_at, kept_kind, closing, slot_nodes, IsLinked, IsLinkedTo, KeepSetsTo, LevelsTo, StandsTo, last_same, exchanged, level_exchanged, AreHoles, IsHeldLevel, KeepRoom, KeepSets, nearest_in, nearest_up, IsAlone, IsBelow, AreAlike, AreAsLong, CanPass, HasRoom, is_hole as is_hole_kind}
pub use Rattle.hopen.specs.Listed.{number_by, AreListed, by_hash, by_name, by_node, numbers_by, unless_hole}
pub use Rattle.hopen.specs.NameSets.{set_node, holds, is_in_set, is_in}
pub use Rattle.hopen.specs.Opens.{open_of, is_sought}
pub use Rattle.hopen.specs.Scopes.{is_named, is_of, is_of_group, stops_in_scope, stops_in}
pub use Rattle.hopen.specs.Slots.{gap, somes, holds_one}
pub use Rattle.hopen.specs.Mapped.{StackKnowsNoNames, mapped_open, mapped_stack}
pub use Rattle.hopen.specs.Stack.{is_node, OpenNodes, OpenNode, furthest_block, current, in_scope, is_open, topmost_special, below}
pub use Rattle.hopen.specs.StackView.{open_nodes_of}
pub use Rattle.hopen.specs.declared.bookmark.Bookmark.{Bookmark}
pub use Rattle.hopen.specs.declared.bookmark.Bookmark.TheVariants.{After, InPlace}
pub use Rattle.hopen.specs.declared.entry.Slot.{Slot as Stored}
pub use Rattle.hopen.specs.declared.kept.KeptNode.{KeptNode}
pub use Rattle.hopen.specs.declared.kept.Kind.{Kind}
pub use Rattle.hopen.specs.declared.kept.LastLevels.{LastLevels}
pub use Rattle.hopen.specs.declared.name_sets.NameSet.{NameSet}
pub use Rattle.hopen.specs.declared.name_sets.SetNodes.{SetNodes}
pub use Rattle.hopen.specs.declared.scope.Scope.TheVariants.{Default}
pub use Rattle.hopen.specs.declared.slots.Slots.{Slots}
pub use Rattle.hopen.specs.declared.stack.Open.{Open}
pub use Rattle.hopen.specs.declared.stack.OpenStack.TheInside.{Inside}
pub use Rattle.names.proofs.TableLemmas.{bytes_eq-true}
pub use Rattle.names.specs.Sets.{is_special, may_stay_open}
pub use Rattle.names.specs.Spelling.{IsSpelling}
pub use Rattle.names.specs.Tags.{tag_of, tag_named}
pub use Rattle.names.specs.declared.attr.Attr.{Attr}
pub use Rattle.names.specs.declared.tag.Tag.{Tag}
pub use Rattle.std.proofs.Common.{◌∙◌, ◌≡◌, zero-add, ap, arith, length, sym, ℕ, map, List, suc, ◌<◌, refl, ◌-◌, ◌+◌, ◌≤◌, get_or, subst, drop, set, false, true, cond, ◌∷◌, [], Bool, reverse, take, Some, ◌++◌, zero, inr, inl, not, remove, eqb, ◌≢◌, ◌⊎◌, ◌&&◌, true≢false, None, ◌||◌, rules, Option, insert, leb, add-one, length-append, ltb, IsTrue, add-zero, filter, ◌==◌, take-suc, tests, IsPermutation, IsSorted, Less, drop_of_length-le, nat_cmp}
pub use Rattle.std.proofs.Math.Bool.{or-false}
pub use Rattle.std.proofs.Math.Dec.{eqb-suc-zero, eqb-zero-suc}
pub use Rattle.std.proofs.Math.Path.{transport}
pub use Rattle.std.proofs.Math.Seq.{map-set_same, take-append_seam, drop-nil, set-append_seam}
pub use Rattle.std.proofs.lemmas.Bool.{cases_lt, cases_eq, eqb-true, eqb-false, cases_Bool, lt-ltb, le-ltb, not-true, ne_eqb, eq-eqb, ltb-true, false≢true, le-leb, lt-leb}
pub use Rattle.std.proofs.lemmas.Bool.Decides.{nat_tests}
pub use Rattle.std.proofs.lemmas.Cmp.{nat_cmp_total}
pub use Rattle.std.proofs.lemmas.Grind.{common_steps, elements}
pub use Rattle.std.proofs.lemmas.Iterator.{YieldsList-from_slice}
pub use Rattle.std.proofs.lemmas.Iterator.Adapters.{YieldsList-from_rev_slice}
pub use Rattle.std.proofs.lemmas.Iterator.Consumers.{YieldsList-from_filter, count_from_yields_List, nth_from_yields_List}
pub use Rattle.std.proofs.lemmas.Iterator.Search.{any_from_yields_List, all_from_yields_List, find_from_yields_List}
pub use Rattle.std.proofs.lemmas.List.{length-map, map-set, length-set, length-reverse, get_or-map, get_or-set_other, get_or_past, map-append, get_or-set_same, get_or_default, with_items_is, drop_at, length-take-le, take-map, drop-map, reverse-append, reverse-reverse, drop-drop, length-drop, take_all, drop-set-lt, get_or_append_left, get_or_push, take_rest, get_or-reverse, append-nil, append_assoc, get_or_read, drop_more, get_or-append_right, get_or-drop, get_or-take, set-get_or, set-set, set_split, take-append-drop, take-set, take-set-le, take_at, take_more, map-id, take-append-le, take-take, ext_get_or, append_cancel_left}
pub use Rattle.std.proofs.lemmas.List.Edits.{length-insert, length-remove, swap_is, between_more, length-swap, swapped_from_swap}
pub use Rattle.std.proofs.lemmas.List.Elements.{All-append, All-drop, All-get_or, All-head, All-tail, All-take, filter-append, All-set, All-cons, All-filter, filter_passes}
pub use Rattle.std.proofs.lemmas.List.Filters.{dedup_is}
pub use Rattle.std.proofs.lemmas.List.Folds.{list_all-map, find_at, list_all_at, list_any_at, list_any_more, list_all-append}
pub use Rattle.std.proofs.lemmas.List.Kept.{IsStrictlySortedBy-dedup}
pub use Rattle.std.proofs.lemmas.List.Sorted.{list_any-IsPermutation}
pub use Rattle.std.proofs.lemmas.List.Sums.{get_or-le-sum_by, sum_by-cons, sum_by-insert, sum_by-le, sum_by-set, sum_by_more, sum_by_push}
pub use Rattle.std.proofs.lemmas.Map.Lookups.{btree_set_from_contains}
pub use Rattle.std.proofs.lemmas.Option.{slice_get_past, slice_get-map, cond_some, get_or_from_slice_get}
pub use Rattle.std.proofs.lemmas.Simd.{map-map}
pub use Rattle.std.specs.BTreeMap.{is_at}
pub use Rattle.std.specs.Cmp.{nat_cmp_is, unsigned_ties}
pub use Rattle.std.specs.FinMap.{nat_cmp-IsAntisymmetric}
pub use Rattle.std.specs.List.{sum_by, position, list_all, slice_get, find, list_any, All, swap, AllByRecursion, between, dedup, dedup_from}
pub use Rattle.std.specs.Option.{option_map, option_or, IfSome, is_some, option_map_or, option_and_then}
pub use Rattle.std.specs.Prelude.{nat_eq, bytes_eq, if◌then◌else◌}
pub use Rattle.std.specs.Vec.{with_items}
pub use Rattle.std.specs.declared.hash.DefaultHasher.{DefaultHasher}
