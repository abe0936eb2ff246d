-- The words of the contracts, in one place.
pub use Rattle.charref.specs.Pieces.{characters_of}
pub use Rattle.charref.specs.Reference.{Entities, IsTable}
pub use Rattle.hmarkup.specs.Comment.{is_only_data, is_plain_in_bogus}
pub use Rattle.hmarkup.specs.CommentWalk.{backwards}
pub use Rattle.htag.specs.AtOnce.{IsBareName, IsTagName}
pub use Rattle.htag.specs.Tag.{ends_name}
pub use Rattle.htag.specs.TagWalk.{IsInTag}
pub use Rattle.htext.specs.Run.{IsCut, is_clean, is_text_byte}
pub use Rattle.htext.specs.declared.decoder.TheConstants.{MAX_INPUT}
pub use Rattle.htoken.specs.Calls.{FeedsRun, FeedsText, TakesNext, TakesNextNamed}
pub use Rattle.htoken.specs.Data.{is_no_markup}
pub use Rattle.htoken.specs.MarkupDeclarationOpen.{OpensAs, folded_as, spells_as}
pub use Rattle.htoken.specs.Front.{AddsReferences, EndsFront, GivesTextWithReferences, IsBare, IsGathered, IsWhole, ShowsAmpersand, TakesOn, TellsText, bare_errors, first_placed}
pub use Rattle.htoken.specs.Giving.{items_of, known_errors, piece_events, raises, read_events}
pub use Rattle.htoken.specs.Handing.{HandsEvents}
pub use Rattle.htoken.specs.HeldFrom.{HoldsFrom, from_of}
pub use Rattle.htoken.specs.Raw.{ends_by, is_raw, is_script}
pub use Rattle.htoken.specs.Run.{IsTextWithReferences, TakesTextWithReferences, is_not_null, replacement_run, run_events, run_tokens}
pub use Rattle.htoken.specs.Script.{FollowsAll, HasFront, byte_of, level_number, next_level}
pub use Rattle.htoken.specs.Spans.{has_references}
pub use Rattle.htoken.specs.Standing.{start_kind}
pub use Rattle.htoken.specs.Steps.{BeginsBogus, BeginsNamed, BeginsReference, BeginsTag, CutsOff, EndsDoctype, EndsSpan, EndsStartTag, EndsTag, Finds, GivesSpan, IsFollowed, KeepsFaults, held_in_raw, script_errors}
pub use Rattle.htoken.specs.Token.{Alone, Char, Comment, End, Eof, Event, Gives, Handed, HandedMeans, Reports, WithNames, gives_item, token_at}
pub use Rattle.htoken.specs.Tokenizing.{EndsHeld, Finishes, HasTaken, IsInAmbiguousAmpersand, Reads, Takes, after_place, after_last}
pub use Rattle.htoken.specs.declared.token.Token.{Token as Given}
pub use Rattle.htoken.specs.declared.token.Token.TheVariants.{Char as CharToken}
pub use Rattle.names.specs.Names.{Grows, Texts}
pub use Rattle.names.specs.Placed.{all, error, error_if, place, placed}
pub use Rattle.names.specs.Sink.{Hands}
pub use Rattle.names.specs.declared.error.ErrorCode.TheVariants.{EofBeforeTagName}
pub use Rattle.names.specs.declared.error.ParseError.{ParseError as Error}
pub use Rattle.names.specs.declared.placed.Placed.{Placed as Character}
pub use Rattle.names.specs.declared.raw.RawKind.{RawKind as Kind}
pub use Rattle.names.specs.declared.refusal.Refusal.{Refusal as Refused}
pub use Rattle.std.specs.List.{list_all, prefix_len}
pub use Rattle.std.specs.Str.{chars}
