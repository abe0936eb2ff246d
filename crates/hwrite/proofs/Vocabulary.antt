-- The names of other crates and of specs/ that the proofs cite, in one place.
pub use Rattle.hnodes.specs.Forest.{Forest, Attribute, What, element, none, tree, children_of}
pub use Rattle.hnodes.specs.Mapped.{mapped, mapped_attribute, mapped_what}
pub use Rattle.hparse.specs.Parse.{Parses, Parse, ParseCase, root_of, document, manner, policy, fragment, is_context, ParseOptions}
pub use Rattle.hparse.specs.Parsing.{AnswersParse, IsParse, HasParsed}
pub use Rattle.hparse.specs.Reader.{ReadsInput, reading_ran_out, reading_failed, reading_stopped, read_to_end, Gave}
pub use Rattle.hwrite.specs.Vocabulary.{Answers, of_document, counted, as_document, options_of, TokensMean, IsUnrefusedText, WritesText, Doctype, Tok, own_context, case_in, drafted, draft_table, draft_attribute, tok_of, Prints, tokens_text, plain_line, escaped_byte, quote_escaped, Runs, ParserBeginsIn, quoted_or_none, line_of, line_text, token_lines, attribute_words}
pub use Rattle.hparse.specs.declared.parsed.Parsed.{Parsed}
pub use Rattle.hserialize.specs.Lines.{error_lines, tree_text}
pub use Rattle.hserialize.specs.Output.{AppendsBeginning, no_buffer, text_cut, text_written}
pub use Rattle.hserialize.specs.declared.escaping.Escaping.{Escaping}
pub use Rattle.htoken.specs.declared.token.Token.{Token}
pub use Rattle.hwrite.specs.Draft.{to_write, tok_handed, DraftsToken, PassesError, AddsText, Drafts, after_characters, beginning_of_characters, end_of_characters}
pub use Rattle.hwrite.specs.Prints.{printed, not_printed, is_plain_in, parse_text, parsed_text, task_text}
pub use Rattle.hwrite.specs.Quoted.{is_unescaped}
pub use Rattle.hwrite.specs.Running.{RunsIn, ran, RunsTask, WritesNothing, run_ran_out, read_failed, stopped, refused, write_failed, wrote, context_refused}
pub use Rattle.hwrite.specs.TokenLines.{lines_of, Line, Characters, joined, Words}
pub use Rattle.names.specs.Names.{Texts, IsOf, text_of, AreNames}
pub use Rattle.names.specs.Spelling.{spelling}
pub use Rattle.names.specs.declared.refusal.Refusal.{Refusal}
pub use Rattle.names.specs.declared.refusal.Refusal.TheVariants.{Memory, Write, BadContext}
pub use Rattle.std.proofs.Common.{◌≡◌, ℕ, zero, suc, ◌<◌, Bool, true, false, List, [], ◌∷◌, ◌++◌, refl, ◌∙◌, arith, codes, decimal, Option, None, Some, if◌then◌else◌, ◌⊎◌, inl, inr, Result, Ok, ap, subst, sym, append-nil, Err, append_assoc, ◌≢◌, ◌+◌, ◌≤◌, length, get_or, drop, add-one, ap₂, string_bytes, rules, map, ◌-◌, ◌^◌, ◌*◌, ◌/◌, ◌%◌, ◌==◌, ◌||◌, ◌&&◌, not, bit_and, bit_or, option_map, MatchResult, take, vec_len, get_or-set_other, get_or-set_same}
pub use Rattle.std.proofs.lemmas.Bool.Decides.{nat_tests}
pub use Rattle.std.proofs.lemmas.Grind.{elements, common_steps}
pub use Rattle.std.proofs.lemmas.List.{drop_all, at_drop_more, get_or_append_left, length_push, with_items_is}
pub use Rattle.std.proofs.lemmas.Result.{err_from_is_err_and, on_ok_weaker}
pub use Rattle.std.specs.Io.KnownBytes.{Appends, Keeps, IsAtEnd}
pub use Rattle.std.specs.List.{list_all, flat_map}
pub use Rattle.std.specs.Prelude.{nat_lt, IsErrAnd}
pub use Rattle.hnodes.specs.Named.{AttributesAreOf, NodeIsOf, AreOf}
pub use Rattle.std.proofs.KnownBytes.{Appends-nil, Appends-trans, Keeps-refl, Appends-kept}
pub use Rattle.hwrite.specs.Calls.{WritesAll}
pub use Rattle.names.specs.Sink.{Hands}
pub use Rattle.htext.specs.declared.BadBytes.{BadBytes}
pub use Rattle.charref.specs.Reference.{Entities}
pub use Rattle.htoken.specs.Token.{Item, ItemToken, ItemError, gives_item, Alone, End, Handed, HandedMeans, TokenMeans, WithNames, is_tag}
pub use Rattle.hparse.specs.Input.{IsTaken, ItemsMean}
pub use Rattle.hparse.specs.Into.{began_with, ComesInto, HasSettled, ReadsInto}
pub use Rattle.hparse.proofs.Refusing.{RefusesForMemory, answers_refused, answers_taken, errors_taken}
pub use Rattle.hparse.proofs.Sorting.{in_order}
pub use Rattle.hparse.proofs.Turns.{shown_as, or_memory, but_for_memory}
pub use Rattle.hwrite.specs.declared.lines.Draft.{Draft}
pub use Rattle.std.proofs.lemmas.List.Concat.{flat_map-append}
pub use Rattle.std.proofs.lemmas.Option.{get_or_from_slice_get, slice_get-get_or}
pub use Rattle.names.specs.declared.attr.Attr.{Attr}
pub use Rattle.htag.specs.Attributes.{AttrsMean}
pub use Rattle.std.specs.Fmt.{padded_integral, format_spec}
pub use Rattle.std.proofs.Math.Decide.{dec_lt}
pub use Rattle.std.proofs.lemmas.Str.{inside_one, encode_ascii}
pub use Rattle.std.proofs.lemmas.Fmt.{hex_byte}
pub use Rattle.std.proofs.lemmas.Bool.{cases_eq}
pub use Rattle.std.proofs.Math.Seq.{get_or-append_seam}
pub use Rattle.hwrite.specs.Columns.{begins_character, column_at, ends_line, is_end, line_at, AreMarks}
pub use Rattle.hwrite.specs.Indexed.{IndexHasRead}
pub use Rattle.hwrite.specs.ByteKinds.{AreAlikeBytes, kind_at, kind_of}
pub use Rattle.hwrite.specs.declared.line_index.LineIndex.{LineIndex}
pub use Rattle.std.proofs.lemmas.Nat.{and_mask, mod_below, one_shl, or_comm, or_shifted, pow_pos, shl_whole, shr_high}
pub use Rattle.names.specs.declared.tag.Tag.{Tag}
pub use Rattle.names.specs.Sets.{raw_kind}
pub use Rattle.hnodes.specs.Spots.{node_name}
pub use Rattle.hserialize.specs.Written.{has_no_references, is_raw_in, written_among}
pub use Rattle.hserialize.proofs.KnownNames.{tags-agree}
pub use Rattle.hparse.specs.PageText.{page_name, page_trees}
pub use Rattle.hnodes.proofs.Spellings.{questions, mapped-children_of}
pub use Rattle.hparse.specs.Unrefused.{IsUnrefused}
pub use Rattle.hwrite.specs.declared.command.Task.{Task}
pub use Rattle.hparse.specs.declared.parser.Parser.{Parser}
pub use Rattle.hserialize.specs.Calls.{counted_unless}
pub use Rattle.std.specs.Global.{Vec}
pub use Rattle.hmarkup.specs.DoctypeWalk.{optional_text}
unfoldable pub use Rattle.std.specs.Char.{encode_utf8}
unfoldable pub use Rattle.std.specs.Fmt.{digits}
