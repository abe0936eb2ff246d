-- The names of other crates and of specs/ that the proofs cite, in one place.
pub use Rattle.charref.specs.Reference.{Entities, IsTable, HasCore, longest, ends_in_semicolon, Piece, named_piece, Entry, is_key, is_key_name, IsReference, named, core}
pub use Rattle.hadopt.specs.Closes.{is_table_context, is_body_context, is_row_context, is}
pub use Rattle.hadopt.specs.Naming.{texts, Naming}
pub use Rattle.hadopt.specs.Places.{is_fostering}
pub use Rattle.hadopt.specs.Reconstructs.{reconstructed}
pub use Rattle.hadopt.specs.Site.{Goes, Outcome, Refused, stack, with_error, trees}
pub use Rattle.hlaws.specs.Building.{BuildsForest, fits_mode, fits_current, is_flow_mode, numbered_forest, holds_list_items, is_dl, takes_space, under, EntriesOpen, Thinned, same, kept, lost, EntriesLower, IsQuiet, is_colgroup, depth, ActsAs, is_character_token, closes_p, AllLower, IsBuiltForest}
pub use Rattle.hlaws.specs.ComesBack.{decoded_text, HoldsUtf8, AreRead, PlainTokens, FitsForest, GivesForest, PlainComesBack, PlainBuilds, AreUtf8}
pub use Rattle.hlaws.specs.DocumentComesBack.{PlainDocumentTokens, PlainDocumentBuilds, PlainDocumentComesBack, GivesDocument, without_identifiers, ComesBackWithoutIdentifiers}
pub use Rattle.hlaws.specs.OneAnswer.{ExactlyOne, OneAnswer, OneParse}
pub use Rattle.hlaws.specs.PlainTokens.{plain_tokens}
pub use Rattle.hmodes.specs.Beginning.{fragment_begins, Limits, document_begins}
pub use Rattle.hmodes.specs.Body.{void_in_text, character_in_body, block, close_block, end_item}
pub use Rattle.hmodes.specs.Erased.{erased, node, no_tree}
pub use Rattle.hmodes.specs.Families.{family_of}
pub use Rattle.hmodes.specs.Perform.{perform, flow_of, each_of}
pub use Rattle.hmodes.specs.Programs.{void, raw}
pub use Rattle.hmodes.specs.Reset.{open_mode, reset_mode, context_mode}
pub use Rattle.hmodes.specs.Rules.{rule_of, mode_error}
pub use Rattle.hmodes.specs.State.{State, PlacedToken, eof, Done, Token, start, end, character, Control, kind_of, comment, Again, is_self_closing, Flow, flow_then}
pub use Rattle.hmodes.specs.Step.{Steps, Rule, step_begun, ends, Step, goes, and, goes_again, Chain, is_dropped, finished, refused}
pub use Rattle.hmodes.specs.Words.{insert_comment, put, Do}
pub use Rattle.hmodes.specs.declared.family.Family.{Family}
pub use Rattle.hmodes.specs.declared.mode.Mode.{Mode}
pub use Rattle.hmodes.specs.declared.mode.Mode.TheVariants.{InBody, InCaption, InCell, InTable, InTableBody, InRow, InColumnGroup, Text, InTableText, Initial, BeforeHtml, BeforeHead, InHead, AfterHead, AfterBody, AfterAfterBody}
pub use Rattle.hmodes.specs.declared.token_kind.TokenKind.{TokenKind}
pub use Rattle.hmodes.specs.declared.token_kind.TokenKind.TheVariants.{Comment, Start, End, Ws, Nul, Char}
pub use Rattle.hnodes.proofs.Forests.{join-none, last_or-join, join-assoc, change_children-absent, children_of-changed}
pub use Rattle.hnodes.specs.Clean.{has_no_null_or_return}
pub use Rattle.hnodes.specs.Edits.{graft_last, if_text, text_before, with_char}
pub use Rattle.hnodes.specs.Forest.{Forest, none, tree, size, children_of, element, text, What, times, join, Attribute, change_children, change_what, doctype}
pub use Rattle.hnodes.specs.Spots.{name_in, Spot, spot_of, last_or, what_of}
pub use Rattle.hnodes.specs.declared.node.Place.TheVariants.{LastIn}
pub use Rattle.hopen.specs.Formatting.{Listed, marker, entry, entry_of, find_entry, without_entry, cleared, EntryOf, with_room, after_marker, without_earliest, is_equal, most_equal}
pub use Rattle.hopen.specs.Scopes.{stops_item, stops_in_scope}
pub use Rattle.hopen.specs.Stack.{OpenNode, in_scope, is_open}
pub use Rattle.hparse.proofs.Sorting.{in_order, order-permutes, order-sorted}
pub use Rattle.hparse.specs.Answer.{error_cmp, Answers, read_text, refused_text}
pub use Rattle.hparse.specs.Input.{reads_in, input_text, Manner, how_of, settled_in}
pub use Rattle.hparse.specs.Parse.{ParseOptions, fragment, manner, policy, Parse, Parses, accepted, is_context, start_of, refused_token, refused_tag, ParseCase, first_state, document, refused_bytes}
pub use Rattle.hparse.specs.Taken.{token_placed, token_taken}
pub use Rattle.hserialize.specs.ContentTable.{row, texts_in, takes_role, takes_comments}
pub use Rattle.hserialize.specs.Escaping.{written_char, escaped, escapes_quote, escapes_angles}
pub use Rattle.hserialize.specs.Plain.{are_content_if, in_context_of, is_form_element, Inside, are_content, is_a, drops_line_feed, is_nested, inside_element, inside_node, is_plain_node, are_plain_attributes, is_plain_text, is_plain_comment, is_among_texts, begins_with, begins_with_text, begins_with_line_feed, has_part, is_plain_name_byte, is_plain, is_plain_name, content_within}
pub use Rattle.hserialize.specs.PlainDocument.{is_leaf, leaves_then, comments_then, doctype_then, element_then, is_metadata, inside_head, are_metadata, body_on, are_in_html, html_on, is_plain_document, ends_document}
pub use Rattle.hserialize.specs.Walk.{inserts_marker}
pub use Rattle.hserialize.specs.Words.{is_empty_text}
pub use Rattle.hserialize.specs.Written.{start_tag_text, end_tag_text, written, written_among, node_text, is_raw_in, attribute_text, has_no_references}
pub use Rattle.hserialize.specs.declared.content.Content.{Content}
pub use Rattle.hserialize.specs.declared.content.Role.{Role}
pub use Rattle.hserialize.specs.declared.content.Texts.{Texts}
pub use Rattle.hserialize.specs.declared.escaping.Escaping.{Escaping}
pub use Rattle.htag.specs.Tag.{parts_text, attributes_after, ends_name, is_known, ends_attribute_name, tag_errors, end_tag_errors, Part, attribute_part, value_errors, is_sign, space, quoted, AreParts, kept_attribute}
pub use Rattle.htag.specs.Value.{plain_piece, plain, pieces_text, AreValue, value_bytes}
pub use Rattle.htext.specs.Items.{input_errors}
pub use Rattle.htext.specs.Text.{Policy, read_len, refusal_of, character_of, decoded, Read, Whole, normalized}
pub use Rattle.htext.specs.declared.Bom.{Bom}
pub use Rattle.htext.specs.declared.Bom.TheVariants.{Keep, Drop}
pub use Rattle.htoken.proofs.InData.{in_data}
pub use Rattle.htoken.proofs.InRaw.{in_raw, after_characters}
pub use Rattle.htoken.proofs.OneCut.{one_list_of_tokens, no_tokens_of_refused, one_refusal, refused_parts, one_is_front, first}
pub use Rattle.htoken.proofs.SomeCut.{some_answer}
pub use Rattle.htoken.specs.Data.{character_span, comment_span}
pub use Rattle.htoken.specs.Raw.{is_raw_end, is_end_tag_of, may_end, level, end_errors, is_raw}
pub use Rattle.htoken.specs.SomeCut.{HasAnswer, gives, refuses}
pub use Rattle.htoken.specs.Spans.{IsSpan, raw_character, has_references, raw_reference, raw_end}
pub use Rattle.htoken.specs.Standing.{start_kind, Standing, next, standing_after, at_start}
pub use Rattle.htoken.specs.Token.{Tok, Eof, Gives, Span, piece_span}
pub use Rattle.htoken.specs.Tokens.{Tokens, spans_text, AreFront, eof_of, Cut, has_refused, IsRefused, tokens_in, tokens_of, is_refused_tag}
pub use Rattle.names.proofs.Words.{first_is, all-characters, all_weaker, heads, tails, or_second}
pub use Rattle.names.specs.Codes.{code_rank}
pub use Rattle.names.specs.Placed.{begins, is_space, is_alphanumeric, characters, place, spells, all, is_letter, without_null, name_bytes, null_errors, is_greater, lowered, stops, before, Avoids, text_bytes, spells_in_any_case, error_if, placed}
pub use Rattle.names.specs.Sets.{raw_kind, is_button, is_refused, is_void, is_heading, has_implied_end, stops_button_scope, stops_scope}
pub use Rattle.names.specs.Tags.{tag_named, tags, tag_text, tag_among}
pub use Rattle.names.specs.declared.error.ErrorCode.{ErrorCode}
pub use Rattle.names.specs.declared.error.ParseError.{ParseError}
pub use Rattle.names.specs.declared.placed.Placed.{Placed}
pub use Rattle.names.specs.declared.raw.RawKind.{RawKind}
pub use Rattle.names.specs.declared.raw.RefusedName.{RefusedName}
pub use Rattle.names.specs.declared.refusal.Refusal.{Refusal}
pub use Rattle.names.specs.declared.refusal.Refusal.TheVariants.{OutOfProfile}
pub use Rattle.names.specs.declared.tag.Tag.{Tag}
pub use Rattle.std.proofs.Common.{◌≡◌, ℕ, ◌≤◌, List, ◌++◌, length, map, None, Ok, refl, sym, ap, ◌∙◌, subst, Bool, true, not, ◌&&◌, ◌||◌, ◌+◌, false, [], ◌∷◌, Some, arith, ◌⊎◌, inl, inr, Option, zero, suc, ◌<◌, eqb, cond, Result, Err, append-nil, append_assoc, nat_eq, true≢false, drop, nat_lt, take, option_and_then, filter, Contains, rules, IsPermutation, IsSorted, chars, encode_utf8, IsUtf8, nat_le, bytes_eq, codes, encode_utf8_all, ◌==◌, flat_map, slice_get, max, IsAscii, unwrap_or, option_map, nat_cmp, is_lt, Equal}
pub use Rattle.std.proofs.Math.Utf8.{scalar, scalars, low_scalar}
pub use Rattle.std.proofs.lemmas.Bool.{false≢true, ne_eqb, and_parts, eqb-true, lt-leb, not-true, eq-eqb, or_right, and_right, or_from, or_parts, and_from, false_from_ne_true, cond_both, or_left}
pub use Rattle.std.proofs.lemmas.Bool.Decides.{nat_tests}
pub use Rattle.std.proofs.lemmas.Grind.{flat_map-append}
pub use Rattle.std.proofs.lemmas.List.{map-append}
pub use Rattle.std.proofs.lemmas.List.Folds.{list_all-append, list_any-append, list_all-map}
pub use Rattle.std.proofs.lemmas.List.Sorted.{IsPermutation-sym, IsPermutation-trans, ranks_by}
pub use Rattle.std.proofs.lemmas.Slice.Eq.{bytes_eq-Decides}
pub use Rattle.std.proofs.lemmas.Str.{encodes-chars, encode_ascii, scalars-chars, encodes-IsAscii, chars_from_encodes, chars-encodes, encodes-append, len_utf8_bounds, chars-nil, IsUtf8-nil}
pub use Rattle.std.specs.Char.{to_ascii_lowercase, is_ascii_whitespace, len_utf8}
pub use Rattle.std.specs.List.{list_all, list_any, starts_with}
pub use Rattle.std.proofs.Math.Seq.{take-length}
pub use Rattle.htext.specs.declared.BadBytes.{BadBytes}
pub use Rattle.hadopt.specs.Inserts.{added}
pub use Rattle.hmodes.specs.Doctypes.{forces_quirks}
pub use Rattle.hnodes.proofs.Counts.{times-hung}
pub use Rattle.hnodes.proofs.ChildSpots.{child-spot, spot_among}
pub use Rattle.hnodes.proofs.Families.{last_child-is}
pub use Rattle.hnodes.proofs.Placed.{graft-made, what-placed}
pub use Rattle.names.proofs.KnownTags.{different}
pub use Rattle.std.specs.Cmp.{IsTotalOrder}
pub use Rattle.std.proofs.lemmas.Cmp.{then_total, on_total, nat_cmp_total}
pub use Rattle.std.proofs.lemmas.Map.Lookups.{exact_pairs, exact_unsigned}
pub use Rattle.names.specs.CodeRows.{input_codes, token_codes, tree_codes}
pub use Rattle.hmodes.specs.Reached.{Reached, after}
pub use Rattle.hmodes.proofs.Between.{texts-all, reached-orderly}
pub use Rattle.hmodes.proofs.Ends.{some-step}
pub use Rattle.hmodes.proofs.OfTable.{steps-one}
pub use Rattle.htoken.proofs.OneFront.{one_front, one_front_of_refused}
pub use Rattle.hmarkup.proofs.Characters.{space_not_null}
pub use Rattle.charref.specs.Table.{IsOver}
pub use Rattle.charref.proofs.Keys.{longest-over}
pub use Rattle.charref.proofs.Core.{has_found}
pub use Rattle.charref.proofs.Naming.{is_key_of}
pub use Rattle.hserialize.specs.declared.escaping.Setting.{Setting}
pub use Rattle.htoken.proofs.RawEnds.{other_goes_on}
pub use Rattle.hmarkup.specs.Doctype.{IsDoctype}
pub use Rattle.hmarkup.specs.Comment.{IsComment, closed, closes_comment, closes_at_once}
pub use Rattle.hmarkup.proofs.Marks.{before-avoids, before-here}
pub use Rattle.htoken.specs.Tag.{IsTag, start_tag, end_tag}
pub use Rattle.hmarkup.specs.CommentWalk.{backwards}
pub use Rattle.hserialize.specs.declared.escaping.Escaping.TheVariants.{One}
pub use Rattle.names.specs.declared.error.ErrorCode.TheVariants.{MissingWhitespaceBetweenAttributes}
pub use Rattle.htext.proofs.Parts.{reads_of_text}
pub use Rattle.htext.proofs.Texts.{goes_on}
pub use Rattle.htoken.specs.Settled.{AreSettled}
pub use Rattle.htoken.proofs.OneSpan.{some_span}
pub use Rattle.hparse.specs.Into.{as_document}
pub use Rattle.hparse.specs.Unrefused.{AreSettledIn, settled_text}
pub use Rattle.hparse.proofs.Unrefused.{leads_on}
pub use Rattle.hlaws.specs.Unrefused.{FrontsOfAnswered, FrontsOfParsed, RulesRefuse, ProfileRefuses}
