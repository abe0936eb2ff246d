-- The words of the contracts, in one place.
pub use Rattle.hnodes.specs.Clean.{are_clean}
pub use Rattle.hnodes.specs.Differing.{names_end}
pub use Rattle.hnodes.specs.Edits.{AreNodes}
pub use Rattle.hnodes.specs.Forest.{What, children_of, tree_at, element}
pub use Rattle.hnodes.specs.Passed.{ancestors_of, is_among}
pub use Rattle.hnodes.specs.Rows.{attribute_of}
pub use Rattle.hnodes.specs.Mapped.{mapped, mapped_attribute, mapped_what}
pub use Rattle.hnodes.specs.Spots.{node_name, what_of, attributes_of, first_child_of, next_of, parent_of}
pub use Rattle.hserialize.specs.Calls.{Writes, counted_by, counted_by_result, counted_unless}
pub use Rattle.hserialize.specs.ContentTable.{takes_comments, takes_role, texts_in}
pub use Rattle.hserialize.specs.DocumentTesting.{is_leaf_at, is_metadata_at, is_metadata_what, is_named_what, is_plain_doctype_at, is_text_alone, trees_from, ArePassed, IsDoctypePassed, IsHeadAt, IsLastAt}
pub use Rattle.hserialize.specs.Entries.{AreEntriesNumbered, pair_of}
pub use Rattle.hserialize.specs.ErrorLines.{IsLine}
pub use Rattle.hserialize.specs.Escaping.{escaped, written_char}
pub use Rattle.hserialize.specs.Gathered.{HoldsBytes, gathered_failures, gathered}
pub use Rattle.hserialize.specs.NodeViews.{what_is}
pub use Rattle.hserialize.specs.Lines.{attribute_line, error_line, error_lines, identifiers, in_order, indented, node_lines, tree_text}
pub use Rattle.hserialize.specs.Output.{AppendsBeginning, IsFlushed, Puts, PutsTo, WritesText, written_so_far}
pub use Rattle.hserialize.specs.Plain.{are_plain_attributes, begins_with, drops_line_feed, has_part, is_a, is_among_texts, is_form_element, is_plain_name_byte, is_nested, is_plain, is_plain_comment, is_plain_name, is_plain_text}
pub use Rattle.hserialize.specs.PlainDocument.{are_in_html, body_on, html_on, is_metadata, is_plain_document}
pub use Rattle.hserialize.specs.Printing.{attribute_count, printed_lines}
pub use Rattle.hserialize.specs.Regions.{are_region_content, form_after, in_region}
pub use Rattle.hserialize.specs.Testing.{after_visit, alone, begins_at, content_among, has_plain_name, inside_is, is_phrasing, is_plain_at, is_plain_element, is_text_at, marked, standing_at_top, standing_in, standing_of, tag_at, texts_at_top, top_content, ArePlainTo}
pub use Rattle.hserialize.specs.Walk.{goes_in, inserts_marker, visited_node, visits, visits_from}
pub use Rattle.hserialize.specs.Words.{is_empty_text}
pub use Rattle.hserialize.specs.Writing.{closing_in, closing_of, holds_raw, listed, name_around, opening_in, opening_of, outer_text, stands_raw, visit_text}
pub use Rattle.hserialize.specs.Written.{attribute_text, end_tag_text, has_no_references, start_tag_text, written, written_among}
pub use Rattle.hserialize.specs.declared.escaping.Setting.TheVariants.{Text}
pub use Rattle.hserialize.specs.declared.walk.Visit.TheVariants.{Enter, Leave}
pub use Rattle.names.specs.Names.{text_of}
pub use Rattle.names.specs.Sets.{is_button, raw_kind}
pub use Rattle.names.specs.Tags.{tag_of}
pub use Rattle.names.specs.declared.refusal.Refusal.TheVariants.{Write}
