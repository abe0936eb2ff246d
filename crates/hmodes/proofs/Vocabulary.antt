-- The names of other crates and of specs/ that the proofs cite, in one place.
pub use Rattle.hmodes.specs.Vocabulary.{Gives, character_in_body, text, conforms, doctype_node, forces_quirks, family_of, html_again, raw, void, context_mode, open_mode, reset_mode, root_mode, mode_error, rule_of, state_of, in_table, in_table_text, other_in_table, Placed, ended, spelling, is_clean, attribute_of}
pub use Rattle.hadopt.proofs.Choices.{by_test, cond-map, or-map}
pub use Rattle.hadopt.proofs.Agreeing.{numbers-agree}
pub use Rattle.hadopt.proofs.Climbing.{OnGoes, Plain, PlainEntries, goes-then, goes-map, plain-without, made-goes, turn-goes, inserted-goes}
pub use Rattle.hadopt.proofs.Inserting.{added-well, among-room, first-fits, here-fits, inserted-well, missing-well, place-fits, plain-cleared, put-well, reconstructed-well, root-fits}
pub use Rattle.hadopt.proofs.Keeping.{from-well, numbers-tell, texts-tell}
pub use Rattle.hadopt.proofs.Settling.{Well}
pub use Rattle.hadopt.proofs.Turning.{adopted-well, among-drop, among-past, closed-well, erred, fewer, listed-as, other-well}
pub use Rattle.hadopt.specs.Adopts.{Ended, InnerLoop, Next, Turn, adopted, after_inner_loop, inner_loop, inner_turn, is_unlisted, most_turns, next_turn, outer_loop, outer_turn, popped_with, with_formatting_element, with_furthest_block}
pub use Rattle.hadopt.specs.Closes.{is, is_body_context, is_row_context, is_table_context, popped_while_not, without_implied}
pub use Rattle.hadopt.specs.Inserts.{added, inserted, listed, made, with_open, put_each, with_missing}
pub use Rattle.hadopt.specs.Soundness.{Each, IsSound, Pairs, TellsTables}
pub use Rattle.hadopt.specs.Naming.{Naming, numbers, texts}
pub use Rattle.hadopt.specs.Places.{is_fostering, place, place_in}
pub use Rattle.hadopt.specs.Reconstructs.{reconstructed, renewed, renewed_each, stops_going_back}
pub use Rattle.hadopt.specs.Site.{Goes, Outcome, SiteOf, and_then, current_is, error_unless, from_top, open_node, stack, trees, with_error, with_items, with_stack, with_trees}
pub use Rattle.hnodes.specs.Nearest.{before, changed_at}
pub use Rattle.hopen.specs.Formatting.{EntryOf, Listed, cleared, entries, entry, entry_at, find_entry, for_node, marker, with_room, without_entry, pushed}
pub use Rattle.hmarkup.specs.Quirks.{QuirkLine}
pub use Rattle.hmodes.specs.Beginning.{Limits, document_begins, fragment_begins, control_in, form_of}
pub use Rattle.hmodes.specs.Building.{Building, ChainGives, HasBegun, IsReprocessed, BuilderStands, BuilderStaysRefused, StepGives, TakesTokenAt, BuilderTakesOn, TakesToken, refused_by}
pub use Rattle.hmodes.specs.Flows.{FlowGives, StateGives, performed_for}
pub use Rattle.hmodes.specs.Head.{after_head, before_head, body_unwritten, head_ends, head_unwritten, in_head, in_head_noscript, late, noscript_ends}
pub use Rattle.hmodes.specs.Perform.{adopted_listed, completed, current_node, each_of, flow_of, forgotten, head_pushed, inserted_here, on_site, perform, removed, with_control, with_foster, with_site}
pub use Rattle.hmodes.specs.Questions.{answer_of, has, is_hidden, is_token_name}
pub use Rattle.hmodes.specs.RawFollows.{ComesToText, Inserts, IsInText, IsLimit, RawFollows, RulesInsert, at_once, by_next, by_rule, in_first, in_fostered, in_second, is_ended}
pub use Rattle.hmodes.specs.Reached.{Reached, after, fragment}
pub use Rattle.hmodes.specs.Runs.{AreSome, before_text, char_rule, is_for_text, keeps, pends_each, put_all, puts_each, puts_in, takes_char, pending_rule}
pub use Rattle.hmodes.specs.Mapped.{StepsKnowNoNames, mapped_flow, mapped_placed, mapped_state, mapped_token}
pub use Rattle.hmodes.specs.State.{Again, Control, Done, Flow, PlacedToken, Refused, State, Token, character, doctype, end, flow_map, flow_then, is_self_closing, kind_of, renamed, start, token_attrs, token_char, token_name, token_text}
pub use Rattle.hmodes.specs.Step.{Chain, Rule, Step, Steps, and, step_begun, drops, ends, finished, goes, goes_again, is_dropped, none, refused, refuses}
pub use Rattle.hmodes.specs.Tokens.{token_at, token_of}
pub use Rattle.hmodes.specs.Words.{Char, Comment, Do, Doctype, End, Eof, Nul, Start, Test, TokenKind, Ws, add_missing_to_first, add_missing_to_second, adopt, adopt_listed, again, again_as, all_may_stay_open, choose, clear_to_body, clear_to_marker, clear_to_row, clear_to_table, close_p, comment_in_document, comment_in_first, current_is_form, current_is_fostering, current_is_group, current_is_name, doctype_conforms, drop_lf, each_pending, error, form_is_set, form_pointer, fostered, has_form_in_scope, has_group_in, has_in, has_name_in, head_pointer, implied, implied_except, implied_except_name, input_is_hidden, insert, insert_comment, insert_doctype, insert_named, insert_root, insert_root_named, is_fragment, is_in_quirks, item_is_near, judge_quirks, name_is_listed, nothing, other_end, pend, pending_is_ws, pop, pop_to, pop_to_group, pop_to_name, push_head, push_to_list, put, reconstruct, remove_form, remove_head, reset, save_mode, second_is_body, to, to_saved, unless, when, ◌▸◌}
pub use Rattle.hmodes.specs.declared.family.Family.{Family}
pub use Rattle.hmodes.specs.declared.mode.Mode.{Mode}
pub use Rattle.hmodes.specs.declared.mode.Mode.TheVariants.{AfterAfterBody, AfterBody, AfterHead, BeforeHead, BeforeHtml, InBody, InCaption, InCell, InColumnGroup, InHead, InHeadNoscript, InRow, InTable, InTableBody, InTableText, Initial, Text}
pub use Rattle.hmodes.specs.declared.tree_construction.Flow.{Flow as Answer}
pub use Rattle.hnodes.proofs.Counted.{at-most, counted-new, deep-there, not-there}
pub use Rattle.hnodes.proofs.Deep.{deep, deep-is}
pub use Rattle.hnodes.specs.Attributes.{is_present}
pub use Rattle.hnodes.specs.Edits.{AreNodes, IsPlace, Nodes, add_attribute, add_char, char_into, graft, make, text_before, with_attribute, with_char}
pub use Rattle.hnodes.specs.Forest.{Attribute, Forest, What, change_what, element, join, tree}
pub use Rattle.hnodes.specs.Mapped.{mapped, mapped_attribute, mapped_what}
pub use Rattle.hnodes.specs.Spots.{attributes_of}
pub use Rattle.hnodes.specs.declared.node.Place.{Place}
pub use Rattle.hnodes.specs.declared.node.Place.TheVariants.{LastIn}
pub use Rattle.hopen.specs.Scopes.{is_named, is_of, is_of_group, stops_in_scope, stops_in, stops_item, tells_mode}
pub use Rattle.hopen.specs.Stack.{OpenNode, above, current, furthest_block, in_scope, is_node, is_open}
pub use Rattle.hopen.specs.declared.scope.Scope.TheVariants.{Default}
pub use Rattle.htext.proofs.Wide.{has_characters, one_more, one_refused}
pub use Rattle.htoken.specs.Run.{IsTextWithReferences, StartsAt, replacement_run, run_tokens, is_not_null}
pub use Rattle.htoken.specs.Token.{Alone, Handed, token_in}
pub use Rattle.htoken.specs.declared.token.Token.{Token as Given}
pub use Rattle.names.specs.Placed.{characters, is_space, placed}
pub use Rattle.names.specs.Sink.{Hands}
pub use Rattle.names.specs.declared.error.ErrorCode.TheVariants.{NonVoidHtmlElementStartTagWithTrailingSolidus, TreeInBody, TreeInTable}
pub use Rattle.names.specs.declared.refusal.Refusal.{Refusal}
pub use Rattle.names.specs.declared.refusal.Refusal.TheVariants.{Memory, TooDeep, TooManyNodes}
pub use Rattle.names.specs.declared.tag.Tag.{Tag}
pub use Rattle.std.proofs.Common.{Bool, Err, List, None, Ok, Option, Result, Some, [], ap, ap₂, arith, cond, drop, eqb, false, get_or, if◌then◌else◌, inl, inr, is_none, leb, length, ltb, map, max, nat_eq, not, refl, reverse, rules, subst, suc, sym, true, unwrap_or, zero, ℕ, ◌&&◌, ◌++◌, ◌+◌, ◌-◌, ◌<◌, ◌||◌, ◌∙◌, ◌∷◌, ◌≡◌, ◌≢◌, ◌≤◌, ◌⊎◌, take}
pub use Rattle.std.proofs.lemmas.Bool.{and_parts, cond_both, eq-eqb, eqb-true, false≢true, leb-true, lt-leb, ltb-true, ne_eqb, true≢false}
pub use Rattle.std.proofs.lemmas.Bool.Decides.{nat_tests}
pub use Rattle.std.proofs.lemmas.Grind.{common_steps, elements}
pub use Rattle.std.proofs.lemmas.Result.{err_from_is_err_and}
pub use Rattle.std.proofs.lemmas.Str.{IsUtf8-append, IsUtf8-encode, IsUtf8-nil, IsUtf8-past_char, chars-nil, chars_past_char, chars-IsAscii, encodes-IsAscii, length-encode}
pub use Rattle.std.specs.Char.{len_utf8}
unfoldable pub use Rattle.std.specs.Char.{encode_utf8}
pub use Rattle.std.specs.List.{list_all, list_any, repeat, find}
pub use Rattle.std.specs.Option.{option_map, option_map_or}
pub use Rattle.std.specs.Prelude.{IfSome, MatchOption, codes, is_some, nat_le, slice_get, ◌==◌, OnOk, IfErr, encode_utf8_all, string_bytes}
pub use Rattle.std.specs.Result.{IsErrAnd, result_err}
pub use Rattle.std.specs.Str.{IsUtf8, chars, str_eq_ignore_ascii_case, IsAscii}
pub use Rattle.std.specs.Vec.Iter.{into_iter_items}
pub use Rattle.hopen.specs.declared.bookmark.Bookmark.TheVariants.{InPlace}
pub use Rattle.hadopt.proofs.Lists.{each-both, each-among, here, among-all, among-after, among-without}
pub use Rattle.hnodes.proofs.Outside.{deep-what, deep-new, deep-newest, graft-apart}
pub use Rattle.names.specs.Sets.{is_special, may_stay_open, raw_kind}
pub use Rattle.hopen.proofs.Spellings.{scope-map, stack_mapped}
pub use Rattle.std.proofs.lemmas.Option.{slice_get-map}
pub use Rattle.hnodes.proofs.Spellings.{edits, questions}
pub use Rattle.hopen.specs.declared.scope.Scope.{Scope}
pub use Rattle.hopen.specs.Mapped.{mapped_open, mapped_stack, StackKnowsNoNames}
pub use Rattle.hopen.specs.FormattingMapped.{mapped_entry, mapped_items, FormattingKnowsNoNames}
pub use Rattle.hopen.proofs.Bookmarks.{is_some-option_map}
pub use Rattle.hopen.proofs.FormattingSpellings.{formatting_mapped}
pub use Rattle.hadopt.specs.Mapped.{Agree, mapped_site, outcome_map}
pub use Rattle.hnodes.proofs.Images.{any-map, all-map}
pub use Rattle.hnodes.proofs.Nearest.{reverse-map}
pub use Rattle.hnodes.specs.Named.{AttributesAreOf, NodeIsOf, AreOf}
pub use Rattle.names.specs.Names.{Texts, AreNames, IsOf}
pub use Rattle.names.specs.Tags.{number_of, tag_of}
pub use Rattle.names.proofs.Longer.{longer, longer-names, known-within, spelled-alike, alike-within}
pub use Rattle.hmodes.specs.OfTable.{TokenIsOf, TokensAreOf}
pub use Rattle.hmodes.specs.Uses.{uses_after, uses_each, uses, Uses}
pub use Rattle.std.proofs.lemmas.List.{append_assoc, append-nil, reverse-append, length-append, nil_from_length}
pub use Rattle.std.proofs.lemmas.Str.Ascii.{IsAscii-cons, IsAscii-nil}
pub use Rattle.htag.proofs.InRun.{characters_placed}
pub use Rattle.hmodes.specs.declared.family.Family.TheVariants.{Title, Noframes, Style, Script, Textarea, Xmp, Iframe}
pub use Rattle.names.proofs.Handing.{slice_get-append, Continues-all}
pub use Rattle.hadopt.proofs.Searching.{last-behind}
pub use Rattle.names.specs.declared.tag.Tag.TheVariants.{Html, Nobr, Br}
pub use Rattle.hadopt.proofs.Putting.{each-same}
pub use Rattle.hmodes.specs.Trial.{Tried, Came, Stopped, TooLong, tried_then, after_rule, chained, stepped, stepped_all}
pub use Rattle.hmodes.specs.declared.family.TheConstants.{FAMILIES}
pub use Rattle.names.specs.declared.attr.Attr.{Attr}
pub use Rattle.hmodes.specs.declared.tree_construction.TreeConstruction.{TreeConstruction}
pub use Rattle.hopen.specs.Opens.{open_of}
