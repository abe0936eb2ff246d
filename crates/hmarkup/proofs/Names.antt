-- The names of other crates and of specs/ that the proofs cite, in one place.
pub use Rattle.hmarkup.specs.Comment.{closes_comment, closes_at_once, closes_bogus, errors_here, comment_errors_after, IsComment, closed_at_once, closed_with_bang, unclosed, IsBogus, closed_bogus, unclosed_bogus, is_ending, is_plain_in_bogus, is_only_data, ends_with_opening}
pub use Rattle.hmarkup.specs.CommentWalk.{Progress, IsInComment, IsInBogus, HasReadOf, IsCommentSpan, backwards, is_whole, comment_begun, holds_nothing, closing_mark, IsHeldEnding, holds_dash, holds_dashes, holds_bang, IsOpening}
pub use Rattle.hmarkup.specs.Doctype.{closed, Found, IsDoctype, force, IsEnd, cut_off, IsSkipped, AfterName, name_ends, name_skips, names_identifier, FollowsName, with_name, AfterSpace, AfterOpening, begins_name, nameless, unfinished, identified, IsInside, quoted, abrupt, AfterSystemIdentifier, system_ends, system_skips, AfterPublicIdentifier, public_ends, public_skips, second, Follows, AfterKeyword, identifier, missing, keyword_skips, keyword_cut_off, DoctypeRelation, Skips, is_keyword, keyword, FollowsKeyword, IsDoctypeName, lengthened, no_space_after_keyword, no_identifier, no_quote, abrupt_identifier, IsIdentifier, FollowsSystem, nothing}
pub use Rattle.hmarkup.specs.DoctypeSteps.{next_letter, step, after_name, begins_keyword, first_letter, goes_on_with, in_keyword, letters_after, step_errors, found_by, before_name, in_name, fault_errors, end_fault, found_at_end, after_keyword, follows, in_quotes, after_public, after_system, in_skipped, ends_doctype, skips, with_run, identifier_begun, faulty, goes_to, refuses}
pub use Rattle.hmarkup.specs.DoctypeWalk.{Reading, FitsState, HasReadDoctype, IsInKeyword, whole, fails, identifier_of, DoctypeGoesOn, is_data, letters_left}
pub use Rattle.hmarkup.specs.Quirks.{lines, AreQuirkLines, QuirkLine, quirk_word, IsQuirkLine, IsNoQuirkLine, ReadsQuirks, bad_line, read_all, IsWordless, Lacks, HasParts}
pub use Rattle.hmarkup.specs.Steps.{next_progress, next_ending, decided, with_char, closing, comment_step, greater_step, is_nested_comment, with_data, next_opening}
pub use Rattle.hmarkup.specs.Walk.{BeginsMarkup, BeginsSpans, IsOpenMarkup, IsOneSpan, ran_out, sink_refused, goes_on, ended, run_ran_out, run_goes_on, ClosedBy, HasMarkupSpan, run_refused}
pub use Rattle.hmarkup.specs.declared.comment.CommentKind.{CommentKind}
pub use Rattle.hmarkup.specs.declared.comment.CommentKind.TheVariants.{Comment, Bogus}
pub use Rattle.hmarkup.specs.declared.doctype_state.DoctypeState.{DoctypeState}
pub use Rattle.hmarkup.specs.declared.doctype_state.Step.{Step}
pub use Rattle.hmarkup.specs.declared.keyword.Identifier.{Identifier}
pub use Rattle.hmarkup.specs.declared.keyword.Identifier.TheVariants.{Public, System}
pub use Rattle.hmarkup.specs.declared.keyword.Letters.{Letters}
pub use Rattle.hmarkup.specs.declared.tail.Ending.{Ending}
pub use Rattle.hmarkup.specs.declared.tail.Ending.TheVariants.{Plain, Dash, Dashes, Bang}
pub use Rattle.names.specs.Placed.{characters, place, spells, is_front, error, null_errors, without_null, is_space, is_greater, is_quote, placed, begins, is_empty, all, is_greater_or_end, before, Avoids, text_bytes, spells_in_any_case, name_bytes, error_if, lowered, stops}
pub use Rattle.names.specs.Sink.{Hands}
pub use Rattle.names.specs.declared.error.ErrorCode.{ErrorCode}
pub use Rattle.names.specs.declared.error.ErrorCode.TheVariants.{AbruptClosingOfEmptyComment, EofInComment, IncorrectlyClosedComment, EofInDoctype, InvalidCharacterSequenceAfterDoctypeName, MissingDoctypeName, MissingWhitespaceBeforeDoctypeName, MissingWhitespaceBetweenDoctypePublicAndSystemIdentifiers, UnexpectedCharacterAfterDoctypeSystemIdentifier, UnexpectedNullCharacter, NestedComment, AbruptDoctypePublicIdentifier, AbruptDoctypeSystemIdentifier, MissingDoctypePublicIdentifier, MissingDoctypeSystemIdentifier, MissingQuoteBeforeDoctypePublicIdentifier, MissingQuoteBeforeDoctypeSystemIdentifier, MissingWhitespaceAfterDoctypePublicKeyword, MissingWhitespaceAfterDoctypeSystemKeyword}
pub use Rattle.names.specs.declared.error.ParseError.{ParseError}
pub use Rattle.names.specs.declared.placed.Placed.{Placed}
pub use Rattle.names.specs.declared.refusal.Refusal.TheVariants.{BadQuirks}
pub use Rattle.std.proofs.Common.{◌≡◌, ℕ, ◌≤◌, true, false, ◌&&◌, ◌||◌, eqb, List, [], ◌∷◌, ◌++◌, length, sym, refl, ap, ◌∙◌, subst, codes, arith, append_assoc, append-nil, ◌+◌, Bool, cond, nat_lt, ◌<◌, None, Some, Result, Ok, not, take, Err, suc, drop, get_or, if◌then◌else◌, Option, map, length-append, inl, inr, zero, nat_le, ◌≢◌, Bor}
pub use Rattle.std.proofs.Math.Path.{transport}
pub use Rattle.std.proofs.lemmas.Bool.{false≢true, eqb-true, and_parts, or_left, or_right, and_from, not-true, or_from, or_parts, and_right, false_from_ne_true, eqb-false, cases_eq, ne_eqb, not_from_false, and_left}
pub use Rattle.std.proofs.lemmas.Bool.Decides.{nat_tests}
pub use Rattle.std.proofs.lemmas.List.{map-append, append_cancel_left, drop_all, drop_at, length-map, nil_from_length, drop_more}
pub use Rattle.std.proofs.lemmas.Result.{err_from_is_err_and}
pub use Rattle.std.proofs.lemmas.Str.{encodes-append, encode_ascii, encodes-chars, chars-nil, len_utf8_bounds, length-encode, length-le-encodes}
pub use Rattle.std.specs.Char.{encode_utf8, to_ascii_lowercase, len_utf8}
pub use Rattle.std.specs.List.{list_all, list_any, prefix_len}
pub use Rattle.std.specs.Prelude.{encode_utf8_all, is_some, option_map, MatchOption, OnOk}
pub use Rattle.std.specs.Str.{IsUtf8, chars}
unfoldable pub use lib.Utf8.{encode}
pub use Rattle.std.proofs.lemmas.List.Folds.{list_all-append}
pub use Rattle.std.proofs.Math.Seq.{take-append_seam}
pub use Rattle.names.proofs.Words.{heads, tails, not_second}
pub use Rattle.std.specs.Option.{unwrap_or}
pub use Rattle.std.proofs.lemmas.Str.Pattern.{IsSplitOnceResult, split_parts}
pub use Rattle.hmarkup.specs.declared.quirks.QuirkKind.{QuirkKind}
pub use Rattle.hmarkup.specs.declared.quirks.QuirkKind.TheVariants.{PublicIs}
pub use Rattle.std.proofs.lemmas.Grind.{common_steps, flat_map-append}
pub use Rattle.std.proofs.Math.Bool.{or-true, or-false}
pub use Rattle.hmarkup.specs.declared.tail.Opening.{Opening}
