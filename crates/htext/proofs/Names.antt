-- The names of other crates and of specs/ that the proofs cite, in one place.
pub use Rattle.std.proofs.lemmas.Grind.{common_steps}
pub use Rattle.htext.specs.Decoding.{DecoderHasRead, IsReading, DecodingIsRefusedFrom, IsUndecided, HandsOn, Feeds, sink_refused, took_all, HasFed, ReadsOn, DecoderState, Stops, by_sink, by_bytes, EndsDecoding, end_refused, end_reached, answer_at_end, ran_out}
pub use Rattle.htext.specs.Items.{CharItem, items, bad_each, Character, InputError, read_items, read_errors, input_errors, characters_among, errors_among}
pub use Rattle.htext.specs.Next.{next_front, AreBad, IsAhead, IsBadAlone, AreReplaced}
pub use Rattle.htext.specs.Run.{is_plain_byte, is_plain_character, is_clean, is_of_clean_bytes, is_clean_byte, is_text_byte, IsCut, IsCleanFront, run_items, is_not_of, is_run_byte, shares_no_bit}
pub use Rattle.htext.specs.Text.{Policy, Read, Whole, Bad, reads, normalized, ends_in_return, text as text_of, valid_len, front_len, decoded, settled, refusal_of, reads_at, BeginsNoCharacter, or_rest, bad_len, BeginsCharacter, refusal_with, DecodingStaysRefused, fitting, after_part, read_as, character_of, PlacesRise, text, read_len, IsBadPart, is_dropped_mark}
unfoldable pub use Rattle.htext.specs.Text.{fitting_within, reads_within}
pub use Rattle.htext.specs.declared.BadBytes.{BadBytes}
pub use Rattle.htext.specs.declared.BadBytes.TheVariants.{Refuse, Replace}
pub use Rattle.htext.specs.declared.Bom.{Bom}
pub use Rattle.htext.specs.declared.Bom.TheVariants.{Keep}
pub use Rattle.htext.specs.declared.progress.Front.{Front}
pub use Rattle.htext.specs.declared.progress.Front.TheVariants.{Bad as NextBad, Waits, Refused}
pub use Rattle.names.proofs.Words.{some_same, all_weaker}
pub use Rattle.names.specs.Placed.{placed, error, all}
pub use Rattle.names.specs.Sink.{Hands, Continues}
pub use Rattle.names.specs.declared.placed.Placed.{Placed}
pub use Rattle.names.specs.declared.refusal.Refusal.{Refusal}
pub use Rattle.names.specs.declared.refusal.Refusal.TheVariants.{NotUtf8, TooLarge, Memory}
pub use Rattle.std.proofs.Common.{◌≡◌, ℕ, zero, suc, ◌<◌, ◌≤◌, ◌+◌, ◌-◌, Bool, true, false, List, [], ◌∷◌, ◌++◌, length, map, take, drop, sym, refl, ap, ◌∙◌, subst, arith, append_assoc, append-nil, None, Some, Result, Ok, Err, ◌/◌, ◌%◌, inl, inr, not, cond, Option, ◌*◌, eqb, ◌&&◌, get_or, replicate, bit_and, rules, bit_or, slice_index_or, ◌^◌, ap₂, w8, Fits, ◌||◌}
pub use Rattle.std.proofs.Math.Seq.{take-append-add, drop-append-add, take-add, get_or-append_seam}
pub use Rattle.std.proofs.Math.Utf8.{low_scalar, scalar_cases}
pub use Rattle.std.proofs.lemmas.Bool.{cases_lt, cases_eq, lt-ltb, le-ltb, le-leb, leb-true, eqb-true, and_parts, and_from, agree_below, agree_below_at}
pub use Rattle.std.proofs.lemmas.Bool.Decides.{nat_tests}
pub use Rattle.std.proofs.lemmas.List.{drop_at, take_at, take-take, take-append-le, length-append, length-take-le, take-append-drop, length-drop, drop-drop, take_all, length-take, nil_from_length, length-map, drop-append-le, take_rest, get_or-map, ext_get_or, map-append, take_more}
pub use Rattle.std.proofs.lemmas.List.Folds.{list_all-append, prefix_len-append}
pub use Rattle.std.proofs.lemmas.List.Sums.{prefix_len-le-length}
pub use Rattle.std.proofs.lemmas.Nat.{and_le_r}
pub use Rattle.std.proofs.lemmas.Result.{err_from_is_err_and, on_ok_weaker}
pub use Rattle.std.proofs.lemmas.Simd.{zip2_splat, map-map, zip2_of_maps, chunk-drop, length-chunk, mask_l-mod, leading_from_mask_l, trailing_mask_l, swz_l, SwzOk, SwzOk-from_below, length-swz_l, get_or-swz_l_below, length-zip2, Each1-all, Each1-weaker, Each1-zip2, Each1-get_or, Each2-splat, below_from_Fits, pick_l_whole}
pub use Rattle.std.proofs.lemmas.Str.{IsUtf8-nil, encode_ascii, encodes-chars, chars-nil, length-encode, encode_same, utf8_valid_len_le, utf8_valid_len-IsUtf8, IsUtf8-encode, IsUtf8-append, chars_past_char, chars-append, IsUtf8-past_char, len_utf8_bounds, IsUtf8-drop, chars-encodes, encodes-append, chars-IsAscii, encodes-IsAscii, IsCharBoundary-from_take, IsUtf8-from_is_utf8, is_utf8-from_IsUtf8, scalars-chars, IsUtf8-take, IsCharBoundary-from_drop}
pub use Rattle.std.specs.Char.{IsScalar, len_utf8}
unfoldable pub use Rattle.std.specs.Char.{encode_utf8}
pub use Rattle.std.specs.Int.{is_in_range}
pub use Rattle.std.specs.List.{list_all, prefix_len, slice_range}
pub use Rattle.std.specs.Option.{unwrap_or}
pub use Rattle.std.specs.Prelude.{◌↔◌, ◌⊎◌, nat_lt, encode_utf8_all, nat_le, IsTrue}
pub use Rattle.std.specs.Str.{chars, IsUtf8, all_scalars as scalars, IsAscii, is_utf8, IsCharBoundary}
pub use Rattle.std.specs.Str.Lossy.{utf8_invalid_len, second_byte_min, second_byte_max, valid_len_up_to}
unfoldable pub use Rattle.std.specs.Str.Lossy.{utf8_valid_len, utf8_error_len}
pub use lib.Count.{count_trailing_zeros}
pub use lib.Lanes.{zip2}
pub use Rattle.names.specs.declared.error.ErrorCode.TheVariants.{ReplacedBytes}
pub use Rattle.names.proofs.Handing.{Hands-append, Continues-more}
pub use Rattle.std.proofs.Math.Bool.{not-not}
pub use Rattle.names.specs.declared.error.ParseError.{ParseError}
pub use Rattle.htext.specs.declared.run.RunBytes.TheVariants.{Clean, Alphanumeric, Word, Unquoted, Quoted}
pub use Rattle.htext.specs.declared.run.TheConstants.{CLEAN, ALPHANUMERIC, WORD, UNQUOTED}
