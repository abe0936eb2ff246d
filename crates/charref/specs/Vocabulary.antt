-- The words of the contracts, in one place.
pub use Rattle.charref.specs.AtOnce.{HasSign, HasWhole, IsOpenKeyOf, Settles, SettlesNothing}
pub use Rattle.charref.specs.Flat.{flat_character, flat_characters, flat_entry, flat_of, is_one_or_two, IsReadable, IsRefusedFlat}
pub use Rattle.charref.specs.Front.{BeginsWith, BeginsWithNone, HasNoKey, is_table_entry, IsEntity, IsEntryTo, IsOnlyKey}
pub use Rattle.charref.specs.Held.{is_number, IsHeldReference, IsSign, key_bytes}
pub use Rattle.charref.specs.Last.{goes_on_name, is_kept_before, is_letter_or_digit, IsSettled, last_of}
pub use Rattle.charref.specs.Number.{is_digit_of, radix, sign_size}
pub use Rattle.charref.specs.Open.{HasReference, IsOpenReference}
pub use Rattle.charref.specs.Pieces.{characters_of, IsRead, number_reference, text_reference, unknown_of}
pub use Rattle.charref.specs.Reading.{codepoint, codepoints, entities_of, entry_of_json, entry_of_characters, fields, is_character, IsRefusedWith, table_of_json, table_of_members}
pub use Rattle.charref.specs.Reference.{digit_value, ends_in_semicolon, Entities, Entry, is_control, is_key, is_key_name, is_surrogate, IsReference, IsTable, longest, number_fault, numbered, Piece}
pub use Rattle.charref.specs.Table.{AreEnds, AreMarked, best_entry, code_at, entries, EntryGoesOn, HasNone, SearchHasRead, is_inside, is_search_within, has_read_key, IsAfterKey, IsIndex, IsOpenKey, IsOver, IsParted, IsRange, IsRising, IsSortedTable, IsStart, key_at}
pub use Rattle.charref.specs.Walk.{WalkHasTaken, is_next_within, LeavesLast, NextIs, StaysNumber, TakesCharacter}
pub use Rattle.charref.specs.declared.walk.Walk.{Walk as WalkOf}
pub use Rattle.names.specs.Placed.{all, is_alphanumeric, is_empty, is_space, placed}
pub use Rattle.names.specs.declared.placed.Placed.{Placed}
pub use Rattle.names.specs.declared.refusal.TableFault.{TableFault}
pub use Rattle.serde_json.specs.Errors.{IsMemory}
pub use Rattle.serde_json.specs.Find.{as_array, as_str, get}
pub use Rattle.serde_json.specs.View.{items_view, members_view, view}
pub use Rattle.std.specs.Char.{is_ascii}
pub use Rattle.std.specs.Cmp.Lexicographic.{slice_cmp}
pub use Rattle.std.specs.List.{All, list_all, starts_with}
pub use Rattle.std.specs.List.Sorted.{IsStrictlySortedBy}
pub use Rattle.std.specs.Map.{keys_of}
pub use Rattle.std.specs.Ordering.{is_lt, nat_cmp}
pub use Rattle.std.specs.String.{string_cmp}
