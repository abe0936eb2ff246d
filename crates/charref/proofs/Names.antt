-- The names of other crates and of specs/ that the proofs cite, in one place.
pub use Rattle.charref.specs.AtOnce.{IsOpenKeyOf, HasWalked, Settles, SettlesNothing, HasWhole, HasSign}
pub use Rattle.charref.specs.Flat.{is_one_or_two, IsReadable, flat_character, flat_characters, flat_entry, flat_of, IsRefusedFlat}
pub use Rattle.charref.specs.Front.{is_count, ends_key, is_table_entry, BeginsWith, BeginsWithNone, HasNoKey, IsOnlyKey, IsEntity, IsEntryTo, entity_to, next_start}
pub use Rattle.charref.specs.Held.{key_bytes, IsSign, IsHeldReference, in_name, after_sign, after_x, in_number, number_sign, is_number, held_characters, small_x, capital_x}
pub use Rattle.charref.specs.Last.{IsSettled, last_of, is_letter_or_digit, is_kept_before, goes_on_name}
pub use Rattle.charref.specs.Number.{is_digit_of, radix, sign_size}
pub use Rattle.charref.specs.Open.{IsOpenReference, HasReference}
pub use Rattle.charref.specs.Pieces.{IsRead, number_reference, characters_of, errors_of, text_reference, unknown_of}
pub use Rattle.charref.specs.Reading.{is_character, codepoints, entry_of_json, entities_of, IsRefusedWith, fields, and_entry, table_of_json}
pub use Rattle.charref.specs.Reference.{Entry, Entities, is_hex_digit, digit_value, IsTable, longest, is_key, is_key_name, is_empty_list, ends_in_semicolon, is_kept_as_text, named, named_piece, longer_entry, IsReference, kept, unknown, begins_number, is_semicolon_if_any, decimal, hexadecimal, no_digits, alone, Piece, core, number_from, numbered, number_fault, ampersand, numeric_piece}
pub use Rattle.charref.specs.Table.{code_at, IsSortedTable, IsRange, IsRising, IsStart, IsIndex, SearchHasRead, best_entry, has_read_key, IsOver, EntryGoesOn, HasNone, IsParted, entry, entries, numbers_in, characters_in, key_at, IsAfterKey, IsOpenKey, AreEnds, AreMarked, character_code, is_as_long}
pub use Rattle.charref.specs.Walk.{WalkHasTaken, NextIs, TakesCharacter}
pub use Rattle.charref.specs.declared.entries.Entity.{Entity}
pub use Rattle.charref.specs.declared.last.Last.TheVariants.{Alphanumeric, Semicolon, Equals, Other}
pub use Rattle.charref.specs.declared.number.Base.{Base}
pub use Rattle.charref.specs.declared.number.Base.TheVariants.{Decimal, Hexadecimal}
pub use Rattle.charref.specs.declared.open_keys.OpenKey.{OpenKey}
pub use Rattle.charref.specs.declared.reference.Characters.{Characters}
pub use Rattle.charref.specs.declared.reference.Characters.TheVariants.{One}
pub use Rattle.charref.specs.declared.reference.Reference.{Reference}
pub use Rattle.charref.specs.declared.reference_state.ReferenceState.{ReferenceState}
pub use Rattle.charref.specs.declared.reference_state.ReferenceState.TheVariants.{Sign, Number, Name}
pub use Rattle.charref.specs.declared.search.Search.{Search}
pub use Rattle.charref.specs.declared.walk.Walk.{Walk}
pub use Rattle.names.proofs.Words.{some_same, begins-append, all-one, all-append}
pub use Rattle.names.specs.Placed.{is_digit, characters, all, is_empty, is_alphanumeric, is_equals, begins, past, error_if, stops, error, placed, lowered, RunsTo}
pub use Rattle.names.specs.declared.error.ErrorCode.TheVariants.{MissingSemicolonAfterCharacterReference, UnknownNamedCharacterReference, AbsenceOfDigitsInNumericCharacterReference}
pub use Rattle.names.specs.declared.placed.Placed.{Placed}
pub use Rattle.names.specs.declared.refusal.Refusal.{Refusal}
pub use Rattle.names.specs.declared.refusal.Refusal.TheVariants.{Memory}
pub use Rattle.names.specs.declared.refusal.TableFault.{TableFault}
pub use Rattle.serde_json.specs.View.{view, members_view, items_view}
pub use Rattle.serde_json.specs.declared.value.Value.{Value}
pub use Rattle.std.proofs.Common.{arith, ◌≡◌, inl, inr, ℕ, ◌+◌, ◌≤◌, ◌<◌, Bool, true, false, nat_lt, List, [], ◌∷◌, ◌++◌, length, slice_get, get_or, Option, Some, None, nat_le, refl, sym, ap, ◌∙◌, subst, length-append, not, ◌||◌, nat_eq, true≢false, ◌&&◌, ◌==◌, cond, bytes_eq, codes, map, option_map, encode_utf8_all, Result, Ok, Err, string_bytes, Less, append_assoc, ◌-◌, drop, zero, suc, take, ◌⊎◌, ◌*◌, min, is_lt, Equal, Greater, rules, take-take, w8, ◌^◌, ◌%◌, Contains, set, IfOk, IfErr, ◌≢◌, String, Global, option_to_list, Ordering, ◌/◌, vec_capacity}
pub use Rattle.std.proofs.lemmas.Bool.{and_from, agree_below_at, and_parts, false≢true, cases_lt, cases_Bool, not-true, not-false, or_parts, or_cases, cases_order, eqb-true}
pub use Rattle.std.proofs.lemmas.Bool.Decides.{nat_tests}
pub use Rattle.std.proofs.lemmas.List.{append-nil, map-append, length-map, take-append-drop, take_more, take_rest, drop-drop, length-drop, length-take, length-take-le, get_or-take, get_or-set_other, drop_all, take_all, drop_at, take_at, drop_more, get_or-drop, drop-append-le, length-set}
pub use Rattle.std.proofs.lemmas.Option.{slice_get_within, slice_get-get_or, get_or_from_slice_get, slice_get_past, slice_get_cases, slice_get-map}
pub use Rattle.std.proofs.lemmas.Slice.Eq.{bytes_eq-Decides}
pub use Rattle.std.specs.Char.{is_ascii, to_ascii_lowercase, encode_utf8, len_utf8}
pub use Rattle.std.specs.Cmp.Lexicographic.{slice_cmp}
pub use Rattle.std.specs.List.{starts_with, list_all, AllByRecursion, IsDistinct, flat_map, All, prefix_len, slice_range, slice_index_or}
pub use Rattle.std.specs.Ordering.{nat_cmp, ordering_then}
pub use Rattle.std.specs.Prelude.{slice_index}
pub use Rattle.std.proofs.lemmas.List.Folds.{list_all_at, list_all_more, list_all-append}
pub use Rattle.htext.proofs.Parts.{placed-append}
pub use Rattle.std.proofs.lemmas.Simd.{first_set_mask_l, length-zip2, tops_compared, mask_l-mod, length-chunk}
pub use Rattle.std.proofs.lemmas.List.Sums.{prefix_len-le-length}
pub use Rattle.charref.specs.declared.number.TheConstants.{DIGITS, C1_CONTROLS}
pub use Rattle.std.proofs.lemmas.Grind.{elements, common_steps, get_or-set_at}
pub use Rattle.std.specs.Cmp.{both_ways, nat_cmp_is}
pub use Rattle.names.proofs.Handing.{slice_get-append}
pub use Rattle.std.proofs.Math.Bool.{and-false, or-true, and_assoc}
pub use Rattle.std.proofs.lemmas.Nat.{from_le_bytes-to_le_bytes_4}
pub use Rattle.std.proofs.lemmas.List.Concat.{flat_map-append}
pub use Rattle.std.specs.Int.{w32, from_le_bytes}
pub use Rattle.std.proofs.Math.Seq.{drop-append_seam, take-append_seam, drop-cons}
pub use Rattle.std.proofs.lemmas.Map.Keys.{IsDistinct-from_sorted}
pub use Rattle.std.proofs.lemmas.Map.Text.{is_eq-slice_cmp}
pub use Rattle.std.specs.Map.{keys_of}
pub use Rattle.std.specs.String.{string_cmp}
pub use Rattle.serde_json.specs.Data.{Data, Items}
pub use Rattle.std.proofs.Math.Nat.{zero-mul}
pub use Rattle.std.proofs.lemmas.Cmp.{nat_list_cmp_total}
pub use Rattle.std.proofs.lemmas.List.Elements.{All-push, All-get_or}
pub use Rattle.names.specs.declared.error.ParseError.{ParseError}
pub use Rattle.charref.specs.declared.last.Last.{Last}
pub use Rattle.std.proofs.lemmas.Result.{err_from_is_err_and}
pub use Rattle.charref.specs.declared.walking.Next.TheVariants.{Goes}
