-- The words of the contracts, in one place.
pub use Rattle.htext.specs.Decoding.{Advances, EndsDecoding, Feeds, HasFed, DecoderHasRead, HandsOn, IsReading, IsUndecided, ReadsOn, Stops}
pub use Rattle.htext.specs.Items.{CharItem, Character, InputError, items, read_items, bad_each, characters_among, errors_among, input_errors}
pub use Rattle.htext.specs.Next.{next_front, AreBad, IsAhead, IsBadAlone}
pub use Rattle.htext.specs.Run.{is_run_byte, is_not_of, is_quoted_byte, is_text_byte, is_word_byte, is_unquoted_byte, is_clean, run_items, shares_no_bit, IsCleanFront}
pub use Rattle.htext.specs.Text.{Policy, Read, Whole, Bad, PlacesRise, read_as, read_len, decoded, settled, reads, reads_at, bad_len, refusal_of, normalized, ends_in_return, text, BeginsNoCharacter, IsBadPart, character_of}
pub use Rattle.htext.specs.declared.BadBytes.TheVariants.{Refuse, Replace}
pub use Rattle.htext.specs.declared.decoder.TheConstants.{MAX_INPUT}
pub use Rattle.names.specs.Placed.{placed, is_alphanumeric}
pub use Rattle.names.specs.Sink.{Hands}
pub use Rattle.names.specs.declared.refusal.Refusal.{Refusal as Refused}
pub use Rattle.names.specs.declared.refusal.Refusal.TheVariants.{NotUtf8, TooLarge}
