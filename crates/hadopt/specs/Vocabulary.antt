-- The words of the contracts, in one place.
pub use Rattle.hadopt.specs.Adopts.{most_kept, node_replaced, inner_turn, inner_loop, after_inner_loop, with_furthest_block, with_formatting_element}
pub use Rattle.hadopt.specs.Adopts.{outer_turn, outer_loop, is_unlisted, adopted}
pub use Rattle.hadopt.specs.AfterInnerLoop.{AfterInnerLoop, WithFurthestBlock}
pub use Rattle.hadopt.specs.Closes.{closed, closed_p, other_end, popped_past, popped_to}
pub use Rattle.hadopt.specs.Creates.{Creates}
pub use Rattle.hadopt.specs.Gives.{Gives}
pub use Rattle.hadopt.specs.InnerLoops.{AreDifferent}
pub use Rattle.hadopt.specs.Inserts.{made, added, with_open, inserted, put, put_each, listed, with_missing}
pub use Rattle.hadopt.specs.Soundness.{IsSound, PlaceStands, OpenStands}
pub use Rattle.hadopt.specs.Meets.{inner_loop_of, InnerLoopGives, TurnGives}
pub use Rattle.hadopt.specs.Naming.{numbers, texts}
pub use Rattle.hadopt.specs.Passings.{passes}
pub use Rattle.hadopt.specs.Places.{is_fostering, beside, foster_place, place_in, place}
pub use Rattle.hadopt.specs.Reconstructs.{stops_going_back, renewed, reconstructed}
pub use Rattle.hadopt.specs.Site.{Goes, stack, trees, with_stack, with_trees, and_then, with_items, SiteOf, from_top, open_node, current_is, with_error, with_again}
pub use Rattle.hadopt.specs.Site.{error_unless}
pub use Rattle.hadopt.specs.Mapped.{Agree, OperationsKnowNoNames}
pub use Rattle.hnodes.specs.Nearest.{without, before, changed, item_put_before, changed_at}
pub use Rattle.hopen.specs.Formatting.{find_entry, EntryOf, entry_at, marker, cleared, is_entry, without_entry, with_node, for_node, booked, has_bookmark}
pub use Rattle.hopen.specs.Items.{entry_is}
pub use Rattle.hopen.specs.declared.bookmark.Bookmark.TheVariants.{InPlace}
pub use Rattle.hnodes.specs.Edits.{IsPlace, graft, place_node, move_all}
pub use Rattle.hnodes.specs.Forest.{document, none, element, IsOutside, comment, doctype, tree}
pub use Rattle.hnodes.specs.Rows.{attribute_of}
pub use Rattle.hnodes.specs.declared.node.Place.{Place}
pub use Rattle.hnodes.specs.declared.node.Place.TheVariants.{LastIn}
pub use Rattle.hopen.specs.Opens.{open_of}
pub use Rattle.hopen.specs.Scopes.{is_named, is_of, stops_in_scope as stops_node, stops_item}
pub use Rattle.hopen.specs.Stack.{is_node, is_open, furthest_block, above, current, current as current_of, in_scope as is_in_scope}
pub use Rattle.hopen.specs.declared.scope.Scope.TheVariants.{Default}
pub use Rattle.names.specs.Names.{Texts, AreNames}
pub use Rattle.names.specs.declared.error.ErrorCode.TheVariants.{TreeInBody}
pub use Rattle.names.specs.Placed.{placed}
pub use Rattle.names.specs.Sets.{may_stay_open}
pub use Rattle.names.specs.Spelling.{spelling}
pub use Rattle.names.specs.Tags.{number_of, tag_of}
