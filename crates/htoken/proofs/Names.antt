-- The names of other crates and of specs/ that the proofs cite, in one place.
pub use Rattle.charref.proofs.Keeping.{kept_none, kept_all, kept_nothing, is_other, drop-kept, drop-kept-end}
pub use Rattle.charref.proofs.KeyTexts.{encode_utf8_all-append}
pub use Rattle.charref.proofs.OneReference.{one_of}
pub use Rattle.charref.proofs.SomeReference.{some_of}
pub use Rattle.charref.specs.Held.{is_number, IsHeldReference as IsWalkHeld, IsSign, in_name, after_sign, after_x, in_number, number_sign, small_x, capital_x, held_characters}
pub use Rattle.charref.specs.Number.{is_digit_of}
pub use Rattle.charref.specs.Pieces.{errors_of, IsRead, characters_of}
pub use Rattle.charref.specs.Reference.{Entities, named, kept, unknown, Piece, IsReference, IsTable, alone, ampersand, decimal, hexadecimal, no_digits, Entry, longest, longer_entry, is_empty_list}
pub use Rattle.charref.specs.Walk.{WalkHasTaken, LeavesLast}
pub use Rattle.charref.specs.declared.number.Base.{Base}
pub use Rattle.charref.specs.declared.number.Base.TheVariants.{Decimal, Hexadecimal}
pub use Rattle.charref.specs.declared.reference.Reference.{Reference}
pub use Rattle.charref.specs.declared.reference_state.ReferenceState.{ReferenceState as WalkState}
pub use Rattle.charref.specs.declared.walk.Walk.{Walk as CharWalk}
pub use Rattle.hmarkup.proofs.Characters.{no_null_error, quote_is, quote_not_space}
pub use Rattle.hmarkup.proofs.Fronts.{same_front}
pub use Rattle.hmarkup.proofs.Handing.{hand_one}
pub use Rattle.hmarkup.proofs.Marks.{and_no, and_parts, and_both, null_errors-append, eqb_self, first_is, neither, or_none, or_left}
pub use Rattle.hmarkup.specs.Comment.{is_plain_in_bogus, is_only_data, closed_bogus, IsBogus, closes_bogus, unclosed_bogus}
pub use Rattle.hmarkup.specs.CommentWalk.{HasReadOf, IsCommentSpan as IsCommentOf, backwards, Progress, IsCommentSpan}
pub use Rattle.hmarkup.specs.Doctype.{IsDoctype, nameless, Found}
pub use Rattle.hmarkup.specs.DoctypeWalk.{HasReadDoctype, is_data, Reading}
pub use Rattle.hmarkup.specs.Walk.{EndsMarkup as WalkEnds, TakesRun, TakesMarkup as WalkTakes, ran_out as walk_ran_out, sink_refused, goes_on as walk_goes_on, ended as walk_ended, run_ran_out, run_refused, run_goes_on}
pub use Rattle.hmarkup.specs.declared.comment.CommentKind.{CommentKind}
pub use Rattle.hmarkup.specs.declared.comment.CommentKind.TheVariants.{Bogus}
pub use Rattle.htag.proofs.Ascii.{ascii_chars, ascii_cut, ascii_placed, ascii_taken, each_ascii, edge_of, cut_at}
pub use Rattle.htag.proofs.AtOnce.{named_alone, named_plain, named_within, bare_bytes, bare_front, bare_no_errors, bare_placed, bare_plain, bare_within}
pub use Rattle.htag.proofs.InRun.{begins_with, characters_placed, none_cut, prefix_all}
pub use Rattle.htag.proofs.Keeping.{looks_ahead as tag_ahead, attributes_grow, names_grow}
pub use Rattle.htag.proofs.Naming.{attrs_kept}
pub use Rattle.htag.proofs.Parts.{begins_stops, begins-more, parts_text-snoc, AreParts-snoc}
pub use Rattle.htag.specs.AtOnce.{IsBareName, IsTagName}
pub use Rattle.htag.specs.Attributes.{AttrsMean}
pub use Rattle.htag.specs.Tag.{ends_name, parts_text, space, solidus, bare, unquoted, quoted, unclosed, IsTagFront, attributes_after, tag_errors, end_tag_errors, Part, IsPart, IsAttributeName, ends_attribute_name, ends_unquoted, is_sign, value_errors, unquoted_errors, attribute_part, no_value, AreParts, tag_close}
pub use Rattle.htag.specs.TagWalk.{IsInTag, IsWholeTag, IsCutTag, HasAttributes, HasName, PastAttributeName, InAttributeName, InAttributeValueQuoted, InAttributeValueUnquoted, PastAttributeValueQuoted, HasPhase, IsPast}
pub use Rattle.htag.specs.Value.{plain, plain_piece, AreValue, pieces_text, value_bytes, IsValuePiece}
pub use Rattle.htag.specs.declared.kind.TagKind.{TagKind}
pub use Rattle.htag.specs.declared.walk.TagWalk.{TagWalk}
pub use Rattle.htext.proofs.Clean.{clean_rest, text_front, nothing_front, front_of_test}
pub use Rattle.htext.proofs.Handing.{next_bad}
pub use Rattle.htext.proofs.Runs.{front_of, all_placed, plain_take, plain_chars, counted, take_more}
pub use Rattle.htext.proofs.Wide.{cut_more, placed_cut, placed_more, last_char, chars_cut, has_characters, cut_last, one_more, one_refused, none_left, no_characters, first_cut, first_char}
pub use Rattle.htext.specs.Run.{is_plain_byte, is_text_byte, IsCut, is_clean, is_plain_character}
pub use Rattle.htext.specs.Text.{character_of}
pub use Rattle.htoken.proofs.Results.{err_is}
pub use Rattle.htoken.specs.Beginning.{inside, IsBeginning}
pub use Rattle.htoken.specs.Data.{is_declaration, IsDataSpan, character_span, less_span, character, bogus_declaration, tag, is_cdata, less_than_last, less_than_solidus_last, is_no_markup, less_than, nothing, comment, doctype, bogus_end_tag, bogus_question, bogus_cdata, comment_span, reference, doctype_span}
pub use Rattle.htoken.specs.Front.{all_at, bare_errors, EndsFront, first_placed, IsBare, IsFront, IsWhole, AddsReferences, IsGathered, TellsText, events_with_references, IsTakenFront, GivesTextWithReferences}
pub use Rattle.htoken.specs.Giving.{items_of, known_errors, piece_events, read_events, token_items, raises}
pub use Rattle.htoken.specs.Handing.{HandsEvents}
pub use Rattle.htoken.specs.HeldFrom.{HoldsFrom, from_of, IsCutAt}
pub use Rattle.htoken.specs.MarkupDeclarationOpen.{OpensNothing, OpensAs, folded_as, spells_as}
pub use Rattle.htoken.specs.Raw.{is_script, end_errors, is_raw, may_end, is_raw_end, name_ends, level, ends_by, is_end_tag_of}
pub use Rattle.htoken.specs.Run.{run_tokens, run_events, replacement_run, IsTextWithReferences, is_not_null, StartsAt, TakesTextWithReferences}
pub use Rattle.htoken.specs.Script.{FollowsAll, level_number, HasFront, level_after, next_level, byte_of, last_bytes}
pub use Rattle.htoken.specs.SomeCut.{IsLastName, HasTag, ExactlyOneCut, OneFront, OneFrontOfRefused, begins_letter, HasCut, HasAnswer, gives, refuses, SomeSpan, SomeCut, SomeAnswer}
pub use Rattle.htoken.specs.SomeEnd.{CanEnd, TagsCanEnd}
pub use Rattle.htoken.specs.Spans.{IsSpan, raw_character, raw_reference, raw_end, IsSpanOf, has_references, IsRawSpan}
pub use Rattle.htoken.specs.Standing.{next, Standing, at_start, standing_after, after_tokens}
pub use Rattle.htoken.specs.Steps.{IsFollowed, Stays, Keeps, BeginsBogus, GivesSpan, is_out, start_given, EndsTag, start_ended, end_ended, cut_ran_out, cut_given, TakesPart, KeepsFaults, held_in_raw, script_errors, CutsOff, EndsDoctype, doctype_ran_out, doctype_given, BeginsTag, BeginsReference, Finds, EndsStartTag, start_ran_out, tag_ran_out, BeginsNamed, EndsSpan}
pub use Rattle.htoken.specs.Tag.{start_tag, end_tag, unfinished, tag_mark, IsTag}
pub use Rattle.htoken.specs.Token.{Span, Event, Tok, is_tag, Handed, Alone, WithNames, token_in, HandedMeans, Item, ItemToken, ItemError, Gives, Reports, Char, Mean, gives_item, Doctype, doctype_token, Start, End, Comment, TokenMeans, Eof, piece_span}
pub use Rattle.htoken.specs.Tokenizing.{Stands, Reads, IsHeld, IsStateOf, after_place, next_from, after_last, HasTaken, holds, Takes, take_ran_out, take_refused, take_sink_refused, take_took, IsLast, IsBetween, less, EndsHeld, held_ran_out, held_ended, later_errors, IsInMarkup, in_ambiguous_ampersand, IsInMarkedTag, IsInAmbiguousAmpersand, Finishes, finish_ran_out, finish_sink_refused, finish_took, IsInRcdataLessThanSign, IsInRcdataEndTagName, IsInReference}
pub use Rattle.htoken.specs.Tokens.{events_of, has_refused, tokens_in, IsRefused, AreFront, eof_of, tokens_of, spans_text, Cut, errors_in, is_refused_tag, Tokens, span_errors, IsOut}
pub use Rattle.htoken.specs.declared.front.Front.{Front}
pub use Rattle.htoken.specs.declared.front.WholeReference.{WholeReference}
pub use Rattle.htoken.specs.declared.markup_declaration_open.Opens.{Opens}
pub use Rattle.htoken.specs.declared.script.Level.{Level}
pub use Rattle.htoken.specs.declared.script.Script.{Script}
pub use Rattle.htoken.specs.declared.state.Raised.{Raised}
pub use Rattle.htoken.specs.declared.state.State.{State}
pub use Rattle.htoken.specs.declared.token.Token.{Token}
pub use Rattle.htoken.specs.declared.tokenizer.Tokenizer.{Tokenizer}
pub use Rattle.htoken.specs.declared.with_references.TextWithReferences.{TextWithReferences}
pub use Rattle.names.proofs.Handing.{Hands-append, text_kept, grows_not, grows_on}
pub use Rattle.names.proofs.TableLemmas.{bytes_eq-true}
pub use Rattle.names.proofs.Words.{all_weaker, all-append, all-characters, all-one, begins-append, implied, some_same, not_second, or_second}
pub use Rattle.names.specs.Names.{Texts, Grows}
pub use Rattle.names.specs.Placed.{characters, lowered, all, is_letter, begins, place, spells_in_any_case, placed, error, is_greater, null_errors, past, is_alphanumeric, error_if, without_null, name_bytes, spells, stops, is_empty, RunsTo, is_space, is_equals, is_quote, before, text_bytes}
pub use Rattle.names.specs.Sets.{raw_kind, refused_name, is_refused}
pub use Rattle.names.specs.Sink.{Hands, Continues}
pub use Rattle.names.specs.Tags.{tag_named, tag_of, tag_text, tags, tag_among}
pub use Rattle.names.specs.declared.error.ErrorCode.TheVariants.{MissingEndTagName, UnexpectedNullCharacter, IncorrectlyOpenedComment, UnknownNamedCharacterReference, EndTagWithAttributes, EndTagWithTrailingSolidus, EofInScriptHtmlCommentLikeText, EofBeforeTagName, EofInTag, InvalidFirstCharacterOfTagName, UnexpectedQuestionMarkInsteadOfTagName, CdataInHtmlContent, MissingAttributeValue, MissingWhitespaceBetweenAttributes, UnexpectedSolidusInTag}
pub use Rattle.names.specs.declared.error.ParseError.{ParseError}
pub use Rattle.names.specs.declared.placed.Placed.{Placed}
pub use Rattle.names.specs.declared.raw.RawKind.{RawKind}
pub use Rattle.names.specs.declared.raw.RefusedName.{RefusedName}
pub use Rattle.names.specs.declared.refusal.Refusal.{Refusal}
pub use Rattle.names.specs.declared.refusal.Refusal.TheVariants.{Memory}
pub use Rattle.names.specs.declared.tag.Tag.{Tag}
pub use Rattle.std.proofs.Common.{◌≡◌, ℕ, true, false, List, [], ◌++◌, sym, ap, ◌∙◌, subst, append-nil, ◌∷◌, refl, Result, Ok, Err, Option, append_assoc, suc, ◌+◌, ◌-◌, ◌<◌, map, length, get_or, drop, arith, zero, take, Bool, ◌&&◌, ◌||◌, eqb, Some, is_some, None, inl, not, ◌≤◌, reverse, cond, IfSome, true≢false, rules, inr, ◌≢◌, if◌then◌else◌, Vec, ◌*◌, ◌%◌, ◌^◌, lit≤, OnOk}
pub use Rattle.std.proofs.Math.Seq.{drop-cons, drop-length, get_or-append_seam, take-suc, drop-append_seam, take-append_seam, drop-nil, take-append-add}
pub use Rattle.std.proofs.lemmas.Bool.{eqb-true, eq-eqb, and_from, false_from_ne_true, false≢true, or_parts, not-true}
pub use Rattle.std.proofs.lemmas.Bool.Decides.{nat_tests}
pub use Rattle.std.proofs.lemmas.Grind.{elements, common_steps, flat_map-append}
pub use Rattle.std.proofs.lemmas.List.{get_or-drop, length-append, length-drop, length-take-le, take-append-drop, take_all, take_at, drop_at, drop-drop, reverse-append, drop-append-le, take-append-le, map-append, nil_from_length, length-map, with_items_is, take-take, drop_min}
pub use Rattle.std.proofs.lemmas.List.Folds.{list_all-append, list_any-append}
pub use Rattle.std.proofs.lemmas.List.Sums.{prefix_len-le-length, prefix_len_stops}
pub use Rattle.std.proofs.lemmas.Str.{chars-IsAscii, encode_ascii, len_utf8_ascii, IsUtf8-from_ascii, chars-nil, IsUtf8-past_char, chars_past_char, IsCharBoundary-from_drop, IsAscii-take, IsAscii-drop, chars_from_encodes, encodes-chars, IsUtf8-string_bytes, len_utf8_bounds, IsUtf8-nil, IsCharBoundary-before_ascii, IsUtf8-had, IsUtf8-encode, IsUtf8-append, IsCharBoundary-from_rest}
pub use Rattle.std.proofs.lemmas.Str.Ascii.{lowercase_ascii}
pub use Rattle.std.specs.Char.{to_ascii_lowercase, is_ascii, len_utf8, encode_utf8}
pub use Rattle.std.specs.List.{list_all, prefix_len, slice_range, starts_with, flat_map}
pub use Rattle.std.specs.Prelude.{MatchResult, codes, slice_get, slice_index, encode_utf8_all, nat_lt, option_to_list, ◌⊎◌, IfOk, ◌==◌, bytes_eq, nat_eq, unwrap_or, bit_and, min}
pub use Rattle.std.specs.Str.{chars, IsUtf8, IsAscii, IsCharBoundary}
pub use Rattle.std.specs.String.{string_bytes}
pub use Rattle.htag.proofs.QuietValues.{length-placed, first_amp}
pub use Rattle.std.specs.Vec.{with_items}
pub use Rattle.charref.proofs.Opening.{open_taken}
pub use Rattle.hmarkup.proofs.Closing.{closed_span, closed_doctype}
pub use Rattle.htoken.specs.Held.{HeldBegins, HoldsBeginning}
pub use Rattle.names.specs.declared.error.ErrorCode.{ErrorCode}
pub use Rattle.htoken.specs.OneCut.{OneCut, OneListOfTokens, NoTokensOfRefused, OneRefusal}
pub use Rattle.hmarkup.proofs.Reading.{one_doctype}
pub use Rattle.std.proofs.lemmas.Nat.{and_mask, mod-mul-add}
pub use Rattle.htoken.specs.Settled.{AreSettled, AreTaken, SettledAreTaken}
pub use Rattle.hmarkup.proofs.SomeSpan.{some_span, some_doctype}
pub use Rattle.htag.specs.declared.tag_state.TagState.{TagState}
pub use Rattle.htag.proofs.Values.{spaces_sign, sign_stops}
pub use Rattle.hmarkup.proofs.Endings.{not_either}
pub use Rattle.htext.proofs.Beginnings.{two_bytes, three_bytes, four_bytes}
