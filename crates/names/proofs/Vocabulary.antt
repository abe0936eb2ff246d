-- The names of other crates and of specs/ that the proofs cite, in one place.
pub use Rattle.names.specs.Names.{Texts, text_of, AreDistinct, AreNames, Grows, interned}
pub use Rattle.names.specs.Spelling.{text_total, spelling, IsSpelled}
pub use Rattle.names.specs.Table.{AreOthers, letter_of, is_other}
pub use Rattle.names.specs.Tags.{known, tag_text, tags, tag_of, tag_named, tag_among, type_name, number_of}
pub use Rattle.names.specs.declared.tag.Tag.{Tag}
pub use Rattle.names.specs.declared.tag.Tag.TheVariants.{Other, A}
pub use Rattle.std.proofs.Common.{◌≡◌, ℕ, zero, suc, ◌+◌, ◌<◌, ◌≤◌, true, false, List, [], ◌∷◌, ◌++◌, length, map, get_or, Option, Some, None, sym, refl, ap, ◌∙◌, arith, append_assoc, append-nil, zero-add, cond, nat_lt, not, ◌&&◌, string_bytes, inl, inr, ◌⊎◌, subst, replicate, Bool, ◌||◌, drop, Result, Ok, Err, take, ◌-◌, ◌^◌, true≢false, rules, IsUtf8, Global, Bor, String, option_map, slice_get, bytes_eq, unwrap_or, nat_le, nat_eq, MatchOption, string_eq}
pub use Rattle.std.proofs.lemmas.Bool.{cases_lt, and_parts, leb-true, lt-ltb, le-ltb, both_ways, agree_below_at, or_parts, cases_order, false≢true, ltb-true, cases_Bool, and_from}
pub use Rattle.std.proofs.lemmas.List.{length-append, length-replicate, take-append-drop, get_or_past, get_or-map, length-take, get_or_default, get_or_append_left, take-append-le, length-map, map-append, get_or_push}
pub use Rattle.std.proofs.lemmas.List.FromFn.{get_or-range_with_len}
pub use Rattle.std.proofs.lemmas.Option.{slice_get-get_or, slice_get-map, get_or_from_slice_get, slice_get_within, unwrap_or-slice_get}
pub use Rattle.std.proofs.lemmas.Slice.Eq.{bytes_eq-Decides}
pub use Rattle.std.specs.List.{position, list_all, list_any, range_with_len, position_or_len, IsDistinct}
pub use Rattle.std.proofs.lemmas.Bool.Decides.{eqb_tells, nat_tests}
pub use Rattle.names.specs.Sink.{Hands, Continues}
pub use Rattle.std.proofs.lemmas.List.Folds.{list_any_none, list_all-append, list_any-append, list_any_at, list_all_at}
pub use Rattle.names.specs.declared.known.TheConstants.{FIRST}
pub use Rattle.std.proofs.Math.Seq.{get_or-append_right, take-append_seam}
pub use Rattle.std.proofs.lemmas.Map.Keys.{apart_from_distinct}
pub use Rattle.std.proofs.lemmas.List.Quantifiers.{position-Some}
pub use Rattle.indexmap.specs.IndexMap.{IndexMap, insert_entry, keys}
pub use Rattle.std.specs.Map.{keys_of}
pub use Rattle.names.specs.declared.placed.Placed.{Placed}
pub use Rattle.names.specs.Placed.{characters, all, begins}
pub use Rattle.names.specs.declared.error.ErrorCode.{ErrorCode}
pub use Rattle.names.specs.declared.error.ErrorCode.TheVariants.{TreeText}
pub use Rattle.names.specs.Codes.{code_text}
pub use Rattle.names.specs.CodeRows.{input_codes, token_codes, tree_codes}
pub use Rattle.std.specs.Bool.{then_some}
pub use Rattle.std.proofs.lemmas.Grind.{elements, common_steps, get_or_head}
pub use Rattle.std.proofs.lemmas.Str.{IsUtf8-had, IsUtf8-append}
pub use Rattle.std.proofs.lemmas.Slice.{take-put_mid, overwrites}
pub use Rattle.std.proofs.lemmas.Map.Entries.{length-keys_of}
pub use Rattle.std.proofs.Math.Bool.{beq}
pub use Rattle.std.specs.Cmp.{booleans_Decides}
pub use Rattle.names.specs.declared.sets.TheConstants.{SETS, SPECIAL, FORMATTING, IMPLIED_END, SCOPE, LIST_ITEM_SCOPE, BUTTON_SCOPE, TABLE_SCOPE, ITEM_STOP, MAY_STAY_OPEN, HEADING, TABLE_SECTION, CELL, TELLS_MODE, VOID}
pub use Rattle.names.specs.Sets.{has_implied_end, is_cell, is_formatting, is_heading, is_special, is_table_section, is_void, may_stay_open, stops_button_scope, stops_item, stops_list_item_scope, stops_scope, stops_table_scope, tells_mode}
pub use Rattle.names.specs.TagSets.{has_set}
