-- The names of other crates and of specs/ that the proofs cite, in one place.
pub use Rattle.hadopt.specs.Vocabulary.{WithFurthestBlock, AfterInnerLoop, Gives, AreDifferent, made, inserted, with_open, put, added, put_each, with_missing, listed, passes, place_in, is_fostering, foster_place, place, beside, entry_is, attribute_of, Place, open_of, Default, TreeInBody, Texts, AreNames, spelling}
pub use Rattle.hadopt.specs.Adopts.{InnerLoop, inner_loop, entries_for, inner_turn, node_replaced, adopted, outer_loop, left, is_unlisted, outer_turn, Ended, next_turn, with_formatting_element, after_inner_loop, with_furthest_block, popped_with, formatting_replaced, Turn, Next}
pub use Rattle.hadopt.specs.Closes.{other_end, closed, popped_past, without_implied, popped_to, is}
pub use Rattle.hadopt.specs.Soundness.{Each, IsSound, Pairs, PlaceStands, TellsTables}
pub use Rattle.hadopt.specs.Made.{AreMade}
pub use Rattle.hadopt.specs.Meets.{inner_loop_of, TurnGives, turn_of}
pub use Rattle.hadopt.specs.Naming.{numbers, Naming, texts, known_tag}
pub use Rattle.hadopt.specs.Reconstructs.{stops_going_back, reconstructed, renewed_each, renewed}
pub use Rattle.hadopt.specs.Site.{SiteOf, stack, Goes, Refused, trees, with_items, with_again, and_then, Outcome, with_stack, with_trees, open_node, error_unless, with_error, from_top, current_is}
pub use Rattle.hadopt.specs.Mapped.{Agree, mapped_site, outcome_map, OperationsKnowNoNames}
pub use Rattle.hnodes.specs.Nearest.{before, without, item_put_before, after, changed, changed_at}
pub use Rattle.hopen.specs.Formatting.{Listed, EntryOf, marker, entry, without_entry, entry_of, find_entry, for_node, entries, is_entry, entry_at, with_node, is_of_node, after_marker, cleared, is_equal, most_equal, without_earliest, with_room, has_bookmark, booked}
pub use Rattle.hopen.specs.declared.bookmark.Bookmark.{Bookmark}
pub use Rattle.hopen.specs.declared.bookmark.Bookmark.TheVariants.{InPlace, After}
pub use Rattle.hnodes.proofs.Counted.{at-most, deep-there, not-there, is-there, counted-new, counted-graft, times-new, NotBefore, below-document, in-document, counted-what, Begins, document-out, counted-move}
pub use Rattle.hnodes.proofs.Deep.{deep, deep-is, deep-self, deep-lower, children-deep, deep-trans}
pub use Rattle.hnodes.proofs.Outside.{graft-apart, deep-newest, deep-new, graft-below, graft-deep, deep-what}
pub use Rattle.hnodes.specs.Edits.{make, graft, AreCounted, Nodes, text_before, place_node, graft_last, with_char, char_into, IsPlace, AreNodes, add_char, move_all, with_attribute, add_attribute, add_chars}
pub use Rattle.hnodes.specs.Forest.{element, What, Forest, text, times, none, tree, Attribute, document, change_what, comment, join, tree_at, children_of}
pub use Rattle.hnodes.specs.Spots.{parent_of, attributes_of}
pub use Rattle.hnodes.specs.declared.node.Place.TheVariants.{LastIn, Before}
pub use Rattle.hopen.specs.Scopes.{is_named, stops_in_scope, is_of}
pub use Rattle.hopen.specs.Stack.{is_node, OpenNode, current, above, is_open, in_scope, furthest_block, OpenNodes, below, topmost_special}
pub use Rattle.names.proofs.Words.{some_same}
pub use Rattle.names.specs.Placed.{placed, characters}
pub use Rattle.names.specs.Sets.{is_special, has_implied_end, stops_scope}
pub use Rattle.names.specs.Tags.{number_of, tag_of, tag_text, tags, type_name}
pub use Rattle.names.specs.declared.error.ErrorCode.{ErrorCode}
pub use Rattle.names.specs.declared.placed.Placed.{Placed}
pub use Rattle.names.specs.declared.refusal.Refusal.{Refusal}
pub use Rattle.names.specs.declared.refusal.Refusal.TheVariants.{TooManyNodes, TooDeep, Memory}
pub use Rattle.names.specs.declared.tag.Tag.{Tag}
pub use Rattle.names.specs.declared.tag.Tag.TheVariants.{Table, Other}
pub use Rattle.std.proofs.Common.{◌≡◌, ℕ, sym, ◌∙◌, ap, arith, [], refl, false, List, rules, true, Some, length, Bool, ◌∷◌, subst, ◌+◌, cond, None, suc, ◌<◌, Option, zero, drop, ◌≤◌, leb, reverse, inl, find, inr, Ok, not, ◌≢◌, ◌⊎◌, ◌++◌, map, slice_get, ◌-◌, Err, nat_eq, eqb, ◌||◌, is_some, is_none, take, if◌then◌else◌, ◌*◌, filter, ltb, drop_of_length-le}
pub use Rattle.std.proofs.Math.Bool.{or-true}
pub use Rattle.std.proofs.lemmas.Bool.{cond_both, ne_eqb, eq-eqb, eqb-true, le-leb, lt-leb, cases_lt, leb-true, not-false, not-true}
pub use Rattle.std.proofs.lemmas.Grind.{reverse_onto, common_steps, elements}
pub use Rattle.std.proofs.lemmas.List.{reverse-append, nil_from_length, length-map}
pub use Rattle.std.specs.Char.{encode_utf8, len_utf8}
pub use Rattle.std.specs.List.{list_any}
pub use Rattle.std.specs.Option.{option_map, option_map_or, option_or}
pub use Rattle.std.specs.Prelude.{Result, ◌&&◌, OnOk, OnErr, ◌==◌, IfOk, IfSome, IfErr, IsTrue, ◌↔◌, min}
pub use Rattle.std.specs.Str.{chars, encode_utf8_all, IsUtf8}
pub use Rattle.names.proofs.KnownNumbers.{text_of_first, text_of_known}
pub use Rattle.hnodes.specs.Attributes.{is_present}
pub use Rattle.hnodes.proofs.Inside.{tree_at-among}
pub use Rattle.std.proofs.Math.Dec.{eqb-suc-zero}
pub use Rattle.names.specs.declared.error.ParseError.{ParseError}
pub use Rattle.std.proofs.lemmas.Slice.Eq.{bytes_eq-Decides}
pub use Rattle.hopen.proofs.Bookmarks.{any-is_entry, has_bookmark-after}
pub use Rattle.hopen.specs.declared.stack.Open.{Open}
pub use Rattle.std.proofs.lemmas.Str.{chars-nil, encodes-chars}
pub use Rattle.hnodes.proofs.Respots.{IsTextBefore, is-text_before, text_before-is, text_before-longer}
pub use Rattle.names.proofs.Handing.{slice_get-append}
pub use Rattle.std.specs.Cmp.{second_so}
pub use Rattle.hnodes.proofs.Forests.{children-apart}
pub use Rattle.hnodes.proofs.Counts.{emptied, times-emptied-apart}
pub use Rattle.hnodes.proofs.DeepEdits.{deep-hung, deep-hung-apart, deep-hung-below, deep-emptied, deep-emptied-apart}
pub use Rattle.hnodes.specs.Mapped.{mapped_attribute, mapped_what, mapped}
pub use Rattle.hnodes.proofs.Spellings.{edits, mapped-graft, mapped-text_before, questions}
pub use Rattle.hopen.specs.Mapped.{mapped_open, mapped_stack, StackKnowsNoNames}
pub use Rattle.hopen.specs.FormattingMapped.{mapped_entry, mapped_item, mapped_items, FormattingKnowsNoNames}
pub use Rattle.hopen.proofs.Spellings.{stack_mapped}
pub use Rattle.hopen.proofs.FormattingSpellings.{formatting_mapped}
pub use Rattle.hnodes.proofs.Images.{find-map, after-map, before-map}
pub use Rattle.std.specs.Vec.Iter.{into_iter_items}
pub use Rattle.hadopt.specs.declared.site.Site.TheInside.{Inside}
