-- The names of other crates and of specs/ that the proofs cite, in one place.
pub use Rattle.charref.proofs.Core.{longest_among}
pub use Rattle.charref.proofs.Naming.{all-append, is_key_of}
pub use Rattle.charref.specs.Pieces.{IsRead, characters_of, errors_of}
pub use Rattle.charref.specs.Reference.{Entities, Piece, IsReference, ampersand, IsTable, is_hex_digit, is_key, is_key_name, is_empty_list, is_semicolon_if_any, ends_in_semicolon, is_kept_as_text, named, kept, unknown, decimal, hexadecimal, no_digits, alone}
pub use Rattle.charref.specs.declared.reference.Reference.{Reference}
pub use Rattle.hmarkup.proofs.Marks.{and_parts, and_both, eqb_self, null_errors-append}
pub use Rattle.hmarkup.proofs.Parts.{name_bytes-append}
pub use Rattle.htag.specs.Attributes.{AttrsMean}
pub use Rattle.htag.specs.Seen.{HasSeen, has_number, stamp}
pub use Rattle.htag.specs.Steps.{KeepsTag, EndsAttribute, walked_attribute, IsBegun, AddsToName, BeginsAttribute, EndsAs}
pub use Rattle.htag.specs.Tag.{is_odd, AreParts, parts_text, tag_errors, ends_name, ends_attribute_name, ends_unquoted, attribute_name_errors, name_errors_here, Part, attributes_after, Attribute, IsPart, part_errors_after, has_attribute, named_by, kept_attribute, repeated, tag_close, attribute_part, value_errors, unquoted_errors, is_known, IsTagFront, is_sign, IsAttributeName}
pub use Rattle.htag.specs.TagWalk.{NoValue, HasName, HasPhase, IsPast, IsInTag, HasAttributes, names_after, NumbersMean, InAttributeName, IsWholeTag, WholeOrNot, IsCutTag, PastAttributeName, is_in_attribute}
pub use Rattle.htag.specs.Value.{IsValuePiece, AreValue, pieces_text, plain_piece, value_bytes}
pub use Rattle.htag.specs.ValueWalk.{BeginsPiece, pieces_errors, plain_pieces, IsInValue, reference_errors, HasHeld, EndsValue, InReference, InAmbiguousAmpersand, IsWholeValue, TellsReference, TakesInValue}
pub use Rattle.htag.specs.declared.piece.Pending.{Pending}
pub use Rattle.htag.specs.declared.seen.Seen.{Seen}
pub use Rattle.htag.specs.declared.tag_state.TagState.{TagState}
pub use Rattle.htag.specs.declared.piece.ValueWalk.{ValueWalk}
pub use Rattle.htag.specs.declared.walk.TagWalk.{TagWalk}
pub use Rattle.htext.proofs.Runs.{all_placed, front_of, placed-append, counted, plain_bytes, take_more}
pub use Rattle.htext.specs.Run.{is_plain_byte, is_unquoted_byte, is_word_byte, IsCut, is_clean, is_quoted_byte}
pub use Rattle.names.proofs.Handing.{grows_not, grows_on, text_kept}
pub use Rattle.names.proofs.Words.{all_weaker, all-characters}
pub use Rattle.names.specs.Names.{Texts, Grows, AreNames, text_of}
pub use Rattle.names.specs.Placed.{characters, all, is_alphanumeric, error_if, null_errors, without_null, begins, place, is_equals, name_bytes, lowered, past, is_space, error, is_letter, stops, is_greater, placed, is_quote, is_digit, errors_at}
pub use Rattle.names.specs.declared.attr.Attr.{Attr}
pub use Rattle.names.specs.declared.error.ErrorCode.{ErrorCode}
pub use Rattle.names.specs.declared.error.ErrorCode.TheVariants.{UnexpectedCharacterInUnquotedAttributeValue, UnexpectedEqualsSignBeforeAttributeName, MissingSemicolonAfterCharacterReference, UnknownNamedCharacterReference, MissingWhitespaceBetweenAttributes, DuplicateAttribute, UnexpectedSolidusInTag, MissingAttributeValue}
pub use Rattle.names.specs.declared.error.ParseError.{ParseError}
pub use Rattle.names.specs.declared.placed.Placed.{Placed}
pub use Rattle.std.proofs.Common.{◌≡◌, ℕ, Bool, true, false, not, ◌&&◌, ◌||◌, eqb, List, [], ◌∷◌, ◌++◌, sym, refl, ap, ◌∙◌, subst, append_assoc, append-nil, arith, drop, zero, suc, ◌-◌, ◌≤◌, true≢false, length, take, map, slice_get, Option, Some, None, bytes_eq, is_some, Vec, Global, ◌+◌, ◌<◌, get_or, inl, inr, rules, replicate, cond, add-one, get_or-set_same, get_or-set_other, set}
pub use Rattle.std.proofs.Math.Path.{transport}
pub use Rattle.std.proofs.lemmas.Bool.{eqb-true, and_from, and_right}
pub use Rattle.std.proofs.lemmas.Bool.Decides.{nat_tests}
pub use Rattle.std.proofs.lemmas.Grind.{flat_map-append, common_steps}
pub use Rattle.std.proofs.lemmas.List.{take-append-drop, length-drop, take_all, length-take-le, drop-drop, take_at, length-append, drop_at, nil_from_length, take-append-le, drop-append-le, drop-map, drop_all, length-map, map-append, get_or_past}
pub use Rattle.std.proofs.lemmas.Result.{on_ok_weaker, MatchResult-weaker, err_from_is_err_and, MatchResult-from_both}
pub use Rattle.std.proofs.lemmas.Str.{encodes-append, chars-nil, encodes-chars, len_utf8_ascii, chars-IsAscii, chars_past_char, encode_ascii, IsUtf8-from_ascii, IsUtf8-past_char, IsUtf8-take, IsUtf8-drop, IsCharBoundary-from_drop, chars-append, IsCharBoundary-before_ascii}
pub use Rattle.std.specs.Char.{encode_utf8, to_ascii_lowercase, len_utf8, is_ascii, is_ascii_lowercase}
pub use Rattle.std.specs.List.{flat_map, list_all, prefix_len, slice_range}
pub use Rattle.std.specs.Prelude.{encode_utf8_all, if◌then◌else◌, option_to_list, codes, slice_index, Ok, Result, Err}
pub use Rattle.std.specs.String.{string_bytes}
pub use Rattle.htag.specs.AtOnce.{IsPlainValue, IsQuietFront, is_no_reference, IsPlainAttribute, IsWritten, IsBareName, IsTagName, IsNameBefore}
pub use Rattle.htag.specs.Run.{next_at, IsValueRun, TakesFront, EndsOrNot, not_ended}
pub use Rattle.htext.proofs.Clean.{clean_rest, front_of_test}
pub use Rattle.std.proofs.lemmas.List.Folds.{list_all-append}
pub use Rattle.std.specs.Str.{IsUtf8, chars, IsCharBoundary, IsAscii}
pub use Rattle.names.proofs.TableLemmas.{bytes_eq-true, bytes_eq-same}
pub use Rattle.htext.proofs.Wide.{has_characters, chars_cut, cut_more, first_char, first_cut, placed_more, placed_cut}
pub use Rattle.htag.specs.declared.at_once.PlainValue.{PlainValue}
pub use Rattle.std.proofs.Math.Bool.{or-true, or-false}
pub use Rattle.std.proofs.lemmas.List.Sums.{prefix_len_stops, prefix_len_is, prefix_len_passes}
pub use Rattle.std.proofs.Math.Seq.{drop-cons, get_or-append_seam, drop-length, take-suc}
pub use Rattle.charref.specs.declared.number.Base.{Base}
pub use Rattle.charref.specs.declared.number.Base.TheVariants.{Decimal, Hexadecimal}
pub use Rattle.charref.specs.declared.reference_state.ReferenceState.{ReferenceState}
pub use Rattle.charref.specs.Number.{is_digit_of}
pub use Rattle.charref.specs.Held.{IsHeldReference, IsSign, is_number, held_characters}
pub use Rattle.names.specs.declared.refusal.Refusal.{Refusal}
pub use Rattle.names.specs.declared.refusal.Refusal.TheVariants.{Memory}
pub use Rattle.charref.specs.declared.walk.Walk.{Walk}
pub use Rattle.charref.specs.Walk.{WalkHasTaken, LeavesLast}
pub use Rattle.charref.proofs.Keeping.{kept_all, kept_nothing, is_other, drop-kept, drop-kept-end, kept_none}
pub use Rattle.htag.specs.declared.kind.TagKind.{TagKind}
pub use Rattle.std.proofs.lemmas.Option.{slice_get_within, slice_get-get_or}
