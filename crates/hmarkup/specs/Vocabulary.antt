-- The words of the contracts, in one place.
pub use Rattle.hmarkup.specs.Comment.{errors_here, is_only_data, is_plain_in_bogus}
pub use Rattle.hmarkup.specs.CommentWalk.{Progress, comment_begun, HasReadOf, IsInComment, IsCommentSpan, closing_mark, is_whole}
pub use Rattle.hmarkup.specs.Doctype.{IsDoctype, force, lengthened, keyword, no_space_after_keyword, no_identifier, no_quote, abrupt_identifier}
pub use Rattle.hmarkup.specs.DoctypeSteps.{goes_to, ends_doctype, faulty, refuses, skips, step, before_name, in_name, after_name, in_keyword, after_keyword, in_quotes, after_public, after_system, first_letter, next_letter, letters_after, end_fault, fault_errors, found_by, with_run}
pub use Rattle.hmarkup.specs.DoctypeWalk.{Reading, HasReadDoctype, is_data, optional_text}
pub use Rattle.hmarkup.specs.Quirks.{quirk_word, IsWordless, IsQuirkLine, IsNoQuirkLine, lines, HasParts, Lacks, same_as, begins_as, line_matches, list_matches, ReadsQuirks}
pub use Rattle.hmarkup.specs.Steps.{with_char, with_data, is_nested_comment, closing, comment_step, next_opening, next_ending, decided_text, held_ending_text}
pub use Rattle.hmarkup.specs.Walk.{BeginsSpans, IsOpenMarkup, ClosedBy, HasMarkupSpan, IsOneSpan, TakesMarkup, TakesRun, EndsMarkup}
pub use Rattle.hmarkup.specs.declared.comment.CommentKind.{CommentKind as Kind}
pub use Rattle.hmarkup.specs.declared.comment.CommentKind.TheVariants.{Comment, Bogus}
pub use Rattle.names.specs.Placed.{all, characters, placed, error, error_if, null_errors, text_bytes, without_null, is_space, is_greater, is_quote}
pub use Rattle.names.specs.Sink.{Hands}
pub use Rattle.names.specs.declared.error.ParseError.{ParseError as Error}
pub use Rattle.names.specs.declared.placed.Placed.{Placed}
pub use Rattle.names.specs.declared.refusal.Refusal.{Refusal as Refused}
