-- The words of the contracts that several files cite, in one place.
pub use Rattle.hnodes.specs.Attributes.{add_missing, is_present}
pub use Rattle.hnodes.specs.Clean.{are_clean, has_no_null_or_return}
pub use Rattle.hnodes.specs.Coding.{coded_nodes}
pub use Rattle.hnodes.specs.Differing.{names_differ, names_end}
pub use Rattle.hnodes.specs.Edits.{add_attribute, add_char, add_chars, graft, graft_before, graft_last, make, move_all, place_node, text_before}
pub use Rattle.hnodes.specs.Edits.{with_attribute, with_char, with_text, AreNodes, IsPlace, Nodes}
pub use Rattle.hnodes.specs.Elements.{elements_among, is_element}
pub use Rattle.hnodes.specs.Forest.{change_what, children_of, comment, doctype, document, element, none, roots, text, tree, Attribute, IsOutside}
pub use Rattle.hnodes.specs.Links.{after_link, row_alone, before_link, detached, hooked, next_in, parent_in, previous_in, with_place}
pub use Rattle.hnodes.specs.Makes.{Makes}
pub use Rattle.hnodes.specs.Numbered.{attr_numbers}
pub use Rattle.hnodes.specs.Passed.{after_each, ancestors_of, inside_from, is_among, order, own_text, siblings_from, forest_texts, way_up}
pub use Rattle.hnodes.specs.Rows.{attribute_of, content_is, doctype_texts, given_is, Holds, IsAmong, IsChanged, IsKept, IsSeenAs, IsWithin}
pub use Rattle.hnodes.specs.Mapped.{mapped_attribute}
pub use Rattle.hnodes.specs.Spots.{attributes_of, doctype_of, first_child_of, node_kind, last_child_of, node_name, next_of, parent_of, previous_of, text_of_node}
pub use Rattle.hnodes.specs.Spots.{value_of, what_of}
pub use Rattle.hnodes.specs.Store.{attributes_in_run, run_in, stored_attribute, Adds, AreStored, AreTexts, IsGrown, IsLonger, IsText}
pub use Rattle.hnodes.specs.View.{HasNode}
pub use Rattle.hnodes.specs.declared.node.Place.{Place}
pub use Rattle.hnodes.specs.declared.store.Store.{Store}
pub use Rattle.names.specs.declared.refusal.Refusal.TheVariants.{Memory, TooManyNodes}
