-- The names of other crates and of specs/ that the proofs cite, in one place.
pub use Rattle.hnodes.specs.Differing.{names_differ, names_end, names_of}
pub use Rattle.hnodes.specs.Edits.{Nodes, AreNodes, graft_last, move_all, with_text, with_attribute, AreCounted, place_node, graft, make, IsPlace, graft_before, before_place, if_text, text_before, with_char, char_into, add_chars, add_char}
pub use Rattle.hnodes.specs.Forest.{What, document, Forest, none, tree, size, times, join, tree_at, cut, children_of, change_children, IsOutside, Attribute, change_what, put_before, roots, text, element, comment}
pub use Rattle.hnodes.specs.Links.{parent_in, Row, Look, Linked, Loose, at_row, at_link, spliced, detached, with_place, with_ends, row_alone, whole, RowsStandIn, standing, hooked, last_in, previous_in, next_in, row_at, first_in, with_next, with_previous, is_loose, loose, with_what, with_last, after_link, before_link, with_first, seen, seen_each, leave}
pub use Rattle.hnodes.specs.Numbered.{attr_numbers, AreNumbered, inside_attributes}
pub use Rattle.hnodes.specs.Passed.{order, own_text, siblings_from, forest_texts, path_above, ancestors_of, way_up, after_each, is_among, following, trees_after, inside_from}
pub use Rattle.hnodes.specs.Rows.{look_in, row_of, contents_of, content_is, given_is, IsChanged, attribute_of, IsSeenAs, IsWithin, IsKept, AreKept, Holds, IsAmong}
pub use Rattle.hnodes.specs.Spots.{first_or, first_child_of, Spot, spot_below, spot_of, either_of, last_or, value_in, last_child_of, parent_of, what_of, previous_of, next_of, value_of, node_name}
pub use Rattle.hnodes.specs.Store.{run_in, stored_attribute, Adds, AreTexts, IsRun, IsText, IsGrown, IsLonger}
pub use Rattle.hnodes.specs.View.{nodes_in, inside_nodes, AreTree, IsTree, HasNode}
pub use Rattle.hnodes.specs.Vocabulary.{are_clean, elements_among, is_element, Makes, Memory, Place, Store}
pub use Rattle.hnodes.specs.declared.node.Node.{Node}
pub use Rattle.hnodes.specs.declared.node.NodeData.{NodeData}
pub use Rattle.hnodes.specs.declared.node.Place.TheVariants.{LastIn, Before}
pub use Rattle.hnodes.specs.declared.store.Run.{Run}
pub use Rattle.hnodes.specs.declared.store.StoredAttr.{StoredAttr}
pub use Rattle.hnodes.specs.declared.tree.Tree.TheInside.{Inside}
pub use Rattle.names.specs.declared.attr.Attr.{Attr}
pub use Rattle.std.proofs.Common.{◌≡◌, ◌≢◌, ℕ, zero, suc, ◌+◌, ◌<◌, ◌≤◌, Bool, true, false, eqb, cond, Some, None, refl, sym, ◌∙◌, ap, subst, arith, Option, not, ◌-◌, length, get_or, List, set, Vec, Global, ltb, if◌then◌else◌, ◌⊎◌, inl, inr, nat_eq, [], ◌∷◌, ◌++◌, length-drop, map, drop, take, option_and_then, IsSome, unwrap_or, rules, string_bytes, ◌||◌, ◌↔◌, Result, Ok, Err, ◌==◌, reverse, IsErrAnd, max, add-one}
pub use Rattle.std.proofs.lemmas.Bool.{eqb-true, eq-eqb, ne_eqb, cases_lt, lt-leb, lt-ltb, eqb-false, cases_Bool, false≢true, le-ltb, and_parts, not-true, cases_eq, false_from_ne_true, ltb-true, cond_both}
pub use Rattle.std.proofs.lemmas.Bool.Decides.{nat_tests}
pub use Rattle.std.proofs.lemmas.Grind.{flat_map-append, common_steps, elements}
pub use Rattle.std.proofs.lemmas.List.{take_all, map-append, append-nil, append_assoc, length-append, length-map, get_or-take, get_or_push, length-take, take-append-drop, take-append-le, length_push, reverse-append, length-reverse, set_split, take_at, drop_at, get_or-reverse, length-set, set-set, nil_from_length, drop-append-le, take_rest, drop-map, take-set-le, map_more}
pub use Rattle.std.proofs.lemmas.List.Elements.{All-cons, All-head, All-nil, All-rest, filter-append, All-push, All-set, All-append, All-drop, All-filter, All-tail, All-weaker, All-same}
pub use Rattle.std.proofs.lemmas.List.Folds.{list_any-append}
pub use Rattle.std.specs.Char.{encode_utf8}
pub use Rattle.std.specs.List.{list_any, All, flat_map, HoldsAt, filter, prefix_len, AllByRecursion, IsAllAdjacentAnswer, IsDistinct, insert, remove}
pub use Rattle.std.specs.Option.{option_map, is_some}
pub use Rattle.std.specs.Prelude.{IsTrue, IfSome, OnOk, OnErr, slice_get, find, position, ◌&&◌}
pub use Rattle.std.specs.Str.{chars, encode_utf8_all, IsUtf8}
pub use Rattle.std.specs.List.Sorted.{IsPermutation, IsNonDecreasing, IsStrictlyIncreasing}
pub use Rattle.std.proofs.lemmas.Nat.{and_le_r}
pub use Rattle.std.proofs.Math.Dec.{eqb-suc-suc}
pub use Rattle.hnodes.specs.IndexedList.{last_up}
pub use Rattle.std.proofs.lemmas.List.Sorted.{IsPermutation-sym, IsNonDecreasingBy-from_sort}
pub use Rattle.std.proofs.lemmas.Map.Keys.{IsDistinct-IsPermutation, IsDistinct-cons, IsDistinct-head, IsDistinct-tail, IsDistinct-from_sorted, IsStrictlyIncreasing-from_distinct, sorted_from_strictly_increasing}
pub use Rattle.std.specs.Cmp.{unsigned_tied}
pub use Rattle.std.specs.Ordering.{nat_cmp}
pub use Rattle.std.proofs.lemmas.Option.{slice_get-get_or, cond_some}
pub use Rattle.names.specs.declared.refusal.Refusal.{Refusal}
pub use Rattle.std.proofs.Math.ListN.{get_or-map}
pub use Rattle.std.proofs.Math.Seq.{map-set, map-set_same, drop-append_seam, take-suc, drop-cons, take-append-add, take-take}
pub use Rattle.std.proofs.lemmas.Str.{chars-nil, encodes-chars, IsUtf8-append, chars_past_char}
pub use Rattle.hnodes.specs.Mapped.{mapped_attribute, mapped_what, mapped, mapped_nodes, mapped_spot, EditsKnowNoNames, QuestionsKnowNoNames}
pub use Rattle.std.proofs.lemmas.Slice.{between_is}
pub use Rattle.std.proofs.lemmas.Fn.{always_returns_same}
pub use Rattle.hnodes.specs.AttrsView.{AreLent}
pub use Rattle.std.specs.Vec.{with_items}
pub use Rattle.std.proofs.lemmas.List.Filters.{FiltersInPlace-more_no, FiltersInPlace-more_set, FiltersInPlace}
pub use Rattle.hnodes.specs.declared.node.NodeData.TheVariants.{Text, Document}
pub use Rattle.names.specs.contracts.tag.Tag.{the_type}
pub use Rattle.names.specs.Tags.{tag_of}
