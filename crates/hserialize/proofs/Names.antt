-- The names of other crates and of specs/ that the proofs cite, in one place.
pub use Rattle.hnodes.proofs.ChildSpots.{child-spot, spot_among, root-spot}
pub use Rattle.hnodes.proofs.Counted.{is-there, was-made, at-most}
pub use Rattle.hnodes.proofs.Families.{spot-children, children-among, first_child-is, family, first-is}
pub use Rattle.hnodes.proofs.Forests.{some_inj, join-assoc, times-join}
pub use Rattle.hnodes.proofs.Levels.{level, Here, Below}
pub use Rattle.hnodes.proofs.TreeOrder.{own-inside, apart, Entered, entered, child-inside, first-inside, passes, still-inside}
pub use Rattle.hnodes.specs.Clean.{are_clean}
pub use Rattle.hnodes.specs.Differing.{names_differ, names_end}
pub use Rattle.hnodes.specs.Edits.{AreCounted}
pub use Rattle.hnodes.specs.Forest.{none, tree, Forest, text, comment, join, Attribute, element, times, roots, size}
pub use Rattle.hnodes.specs.Mapped.{mapped_what}
pub use Rattle.hnodes.specs.Passed.{way_up, trees_after}
pub use Rattle.hnodes.specs.Spots.{node_name, spot_of, Spot, first_child_of, name_in, next_of, first_or, parent_of}
pub use Rattle.hserialize.specs.Calls.{counted, counted_by_result}
pub use Rattle.hserialize.specs.ContentTable.{row, takes_comments}
pub use Rattle.hserialize.specs.DocumentTesting.{tree_in, trees_from, past_leaves, ArePassed, IsDoctypePassed, is_plain_doctype_at, is_leaf_at, is_text_alone, is_metadata_what, is_metadata_at, is_named_what, IsHeadAt}
pub use Rattle.hserialize.specs.Lines.{tree_lines, attribute_put_in, between_quotes}
pub use Rattle.hserialize.specs.Output.{Fails, AddsBytes, Taken, text_written, text_cut, EndsOutput, IsNewWriter, AppendsBeginning, no_buffer}
pub use Rattle.hserialize.specs.Plain.{Inside, inside_element, in_context_of, inside_node, is_plain_node, are_content, begins_with_text, is_plain_text, is_a, content_within, begins_with, has_part, is_plain_name, begins_with_line_feed, drops_line_feed, is_plain}
pub use Rattle.hserialize.specs.PlainDocument.{ends_document, is_leaf, leaves_then, comments_then, doctype_then, element_then, is_metadata, inside_head, are_metadata, are_in_html, body_on, html_on, is_plain_document}
pub use Rattle.hserialize.specs.Printing.{depth_after, visit_lines, attribute_count}
pub use Rattle.hserialize.specs.Regions.{without_form, begins_region, form_after, have_plain_regions, makes_form}
pub use Rattle.hserialize.specs.Testing.{tag_or_other, is_text_at, has_plain_name, ArePlainTo, alone, standing_of, inside_is, begins_at, is_plain_at, after_visit}
pub use Rattle.hserialize.specs.Vocabulary.{What, children_of, tree_at, ancestors_of, is_among, mapped_attribute, mapped, what_of, escaped, gathered, gathered_failures, what_is, written_so_far, Puts, WritesText, goes_in, visits, visits_from, stands_raw, opening_of, closing_of, start_tag_text, end_tag_text, attribute_text, written, Leave, Enter, text_of, Write, takes_role, texts_in, is_nested, are_plain_attributes, is_form_element, in_region, are_region_content, content_among, is_phrasing, marked, tag_at, texts_at_top, top_content, AreEntriesNumbered, pair_of, IsLine, attribute_line, indented, printed_lines, error_line, in_order, error_lines, tree_text, opening_in, closing_in, listed, outer_text}
pub use Rattle.hserialize.specs.Walk.{after_ends, inserts_marker, visits_inside, visited_node}
pub use Rattle.hserialize.specs.Writing.{opening, holds_raw, closing_tag, name_around, raw_in, visit_text}
pub use Rattle.hserialize.specs.Written.{written_among, has_no_references, is_raw_in, node_text}
pub use Rattle.hserialize.specs.declared.around.Around.{Around}
pub use Rattle.hserialize.specs.declared.content.Content.{Content}
pub use Rattle.hserialize.specs.declared.content.Role.{Role}
pub use Rattle.hserialize.specs.declared.escaping.Escaping.{Escaping}
pub use Rattle.hserialize.specs.declared.walk.Reach.{Reach}
pub use Rattle.hserialize.specs.declared.walk.Reach.TheVariants.{Whole, Written, Region}
pub use Rattle.hserialize.specs.declared.walk.Visit.{Visit}
pub use Rattle.names.proofs.KnownTags.{tag_of-named}
pub use Rattle.names.specs.Names.{Texts, AreNames}
pub use Rattle.names.specs.Sets.{is_void, is_button, raw_kind}
pub use Rattle.names.specs.Tags.{tag_named, tag_of, known, tags}
pub use Rattle.names.specs.declared.refusal.Refusal.{Refusal}
pub use Rattle.names.specs.declared.tag.Tag.{Tag}
pub use Rattle.std.proofs.Common.{ap, ◌∙◌, ◌≡◌, ℕ, ◌++◌, sym, List, [], refl, ◌∷◌, subst, ◌<◌, length, arith, rules, Some, cond, Option, true, drop, false, ◌+◌, Bool, None, map, eqb, ◌≤◌, option_and_then, length-append, codes, suc, zero, Ok, take, ◌-◌, Err, get_or, inl, Result, drop-cons, add-one, ◌⊎◌, inr, not, nat_eq, decimal, vec_capacity, ◌^◌, ◌≢◌, ◌*◌, take-append-drop}
pub use Rattle.std.proofs.KnownBytes.{Appends-trans, Appends-nil}
pub use Rattle.std.proofs.Math.Seq.{drop-append_seam, take-append-add, take-append_seam}
pub use Rattle.std.proofs.lemmas.Bool.{false≢true, cond_both, eq-eqb, and_parts, not-true, or_right, false_from_ne_true, cases_lt, ne_eqb, eqb-true}
pub use Rattle.std.proofs.lemmas.Bool.Decides.{Decides-eqb, nat_tests}
pub use Rattle.std.proofs.lemmas.Grind.{flat_map-append, common_steps, elements}
pub use Rattle.std.proofs.lemmas.List.{append_assoc, append-nil, take_rest, get_or_default, drop-drop, nil_from_length, get_or_past, length-take}
pub use Rattle.std.proofs.lemmas.List.Elements.{recursion_from_All, All-append, All-cons, All-nil}
pub use Rattle.std.proofs.lemmas.List.Sorted.{ranks_by, All-permutation, sum_by-IsPermutation, sorted_far, IsPermutation-refl, IsPermutation-trans, IsPermutation-insert, IsPermutation-cons}
pub use Rattle.std.proofs.lemmas.Option.{slice_get-get_or}
pub use Rattle.std.proofs.lemmas.Slice.Eq.{starts_is, bytes_eq-Decides}
pub use Rattle.std.specs.Borrow.{Bor}
pub use Rattle.std.specs.Char.{encode_utf8}
pub use Rattle.std.specs.Cmp.{IsStrictWeakOrder, IsTotalOrder}
pub use Rattle.std.specs.Io.KnownBytes.{Appends}
pub use Rattle.std.specs.List.{flat_map, repeat, AllByRecursion, All, list_all, list_any, sum_by}
pub use Rattle.std.specs.List.Sorted.{IsPermutation, IsSorted, IsSortedBy}
pub use Rattle.std.specs.Option.{option_map, is_none, option_map_or}
pub use Rattle.std.specs.Prelude.{slice_get, IsErrAnd, IsTrue, ◌||◌, ◌&&◌, IfSome, bytes_eq, is_some, IfErr, OnErr, OnOk}
pub use Rattle.std.proofs.lemmas.Str.{chars-nil, chars_past_char, IsUtf8-past_char}
pub use Rattle.std.specs.Str.{IsUtf8}
pub use Rattle.hserialize.specs.Escaping.{written_char}
pub use Rattle.hserialize.specs.declared.escaping.Setting.{Setting}
pub use Rattle.hserialize.specs.declared.writer.Writer.{Writer}
pub use Rattle.std.specs.Global.{Vec}
pub use Rattle.hserialize.specs.Gathered.{HoldsBytes, text_if}
pub use Rattle.hserialize.specs.declared.gathered.Gathered.{Gathered}
pub use Rattle.names.specs.declared.tag.Tag.TheVariants.{Other}
pub use Rattle.hnodes.proofs.WaysUp.{way-step}
pub use Rattle.std.proofs.lemmas.Cmp.{nat_cmp_total, nat_list_cmp_total, on_total, then_total, ranked}
pub use Rattle.std.specs.Cmp.Lexicographic.{slice_cmp}
pub use Rattle.std.specs.Ordering.{nat_cmp, is_lt, ordering_then, ordering_reverse}
pub use Rattle.std.specs.declared.cmp.Ordering.{Ordering}
pub use Rattle.std.specs.declared.cmp.Ordering.TheVariants.{Less, Equal, Greater}
pub use Rattle.hserialize.specs.declared.serializer.Listing.{Listing}
pub use Rattle.hserialize.specs.declared.node_view.NodeView.{NodeView}
pub use Rattle.std.proofs.Math.Nat.{le-max_left, le-max_right}
pub use Rattle.std.proofs.lemmas.List.Sums.{sum_by-cons}
pub use Rattle.std.proofs.lemmas.Fmt.{length-decimal-le}
pub use Rattle.names.specs.Codes.{code_text}
pub use Rattle.names.specs.declared.error.ParseError.{ParseError}
pub use Rattle.hserialize.specs.declared.error_line.ErrorLine.{ErrorLine}
pub use Rattle.hserialize.specs.ErrorLines.{printed_after_place}
pub use Rattle.names.specs.contracts.error.ErrorCode.{the_type}
pub use Rattle.std.specs.declared.str.CharIndices.{CharIndices}
pub use Rattle.std.proofs.lemmas.Str.Pattern.{contains_text}
pub use Rattle.std.specs.Str.Iter.{HasSubslice}
pub use Rattle.hserialize.specs.declared.escaping.Setting.TheVariants.{Value}
pub use Rattle.hnodes.proofs.Sizes.{inside-few}
