-- The names of other crates and of specs/ that the proofs cite, in one place.
pub use Rattle.hparse.specs.Vocabulary.{Entities, token_of, of_document, HasRead, FeedsPiece, EndsInput, WasRead, HoldsItems, EndsText, Refuses, Manner, Began, Comes, as_document, ParseCase, ParseOptions, document, fragment, HasParsed, AnswersParse, options_of, TakesTokenWithOrigins, ShowsRun, HasReadTokens, IsUnrefusedText, IsUnrefused, CharItem, bad_each, input_errors, gives_item, Given, AreNames, Hands, Memory}
pub use Rattle.hadopt.proofs.Agreeing.{numbers-agree}
pub use Rattle.hadopt.specs.Naming.{numbers, texts, Naming}
pub use Rattle.hadopt.specs.Site.{Goes, Refused, Outcome}
pub use Rattle.hmodes.proofs.Names.{steps_mapped}
pub use Rattle.hmodes.specs.Building.{Building, TakesToken, BuilderTakesOn, TakesError, TakesParseError, BuilderStaysRefused}
pub use Rattle.hmodes.specs.OfTable.{TokensAreOf, TokenIsOf}
pub use Rattle.hmodes.specs.Mapped.{mapped_placed, mapped_state, StepsKnowNoNames, mapped_token}
pub use Rattle.hmodes.specs.State.{State, PlacedToken, end, start, character, comment, doctype, eof}
pub use Rattle.hmodes.specs.Step.{Steps, and, Step, refused}
pub use Rattle.hmodes.specs.Tokens.{token_at}
pub use Rattle.hnodes.specs.Forest.{none, tree, Attribute, element, Forest, join, children_of}
pub use Rattle.hnodes.specs.Named.{AreOf, AttributesAreOf}
pub use Rattle.hnodes.specs.Rows.{attribute_of}
pub use Rattle.hparse.specs.Answer.{Answers, accepted, refused_text, refused_bytes, error_cmp}
pub use Rattle.hparse.specs.Fed.{piece_refused, piece_read}
pub use Rattle.hparse.specs.Holding.{TakesItems, items_stopped, items_taken, Proceeds, text_stopped, text_taken, WasFed}
pub use Rattle.hparse.specs.Input.{tokens_handed, errors_handed, settled_in, reads_in, WasHanded, IsRefusedFor, by_sink, by_tag, by_bytes, by_memory, IsTaken, ItemsMean, end_in, input_text, how_of, bom_of}
pub use Rattle.hparse.specs.Intake.{Intake}
pub use Rattle.hparse.specs.Parse.{first_state, manner, Parses, refused_token, refused_tag, root_of, is_context}
pub use Rattle.hparse.specs.Parsing.{takes_item_with_origins, BeginsIn, TellsPlaces, a_document, a_fragment, FeedsParser, feed_ran_out, feed_refused, feed_read, IsBuilt, ShowsParse, parse_ran_out, parse_answered, IsMadeOf, places_in}
pub use Rattle.hparse.specs.Taken.{token_placed}
pub use Rattle.hparse.specs.TokenRun.{TokensMean}
pub use Rattle.hparse.specs.declared.collect.Collected.{Collected}
pub use Rattle.hparse.specs.declared.origins.Origin.{Origin}
pub use Rattle.hparse.specs.declared.parsed.Parsed.{Parsed}
pub use Rattle.hparse.specs.declared.parser.Parser.{Parser}
pub use Rattle.hparse.specs.declared.builder_with_origins.BuilderWithOrigins.{BuilderWithOrigins}
pub use Rattle.hparse.specs.declared.reading.Reading.{Reading}
pub use Rattle.hparse.specs.declared.token_run.TokenRun.{TokenRun}
pub use Rattle.htag.specs.Attributes.{AttrsMean}
pub use Rattle.htext.proofs.Texts.{characters_among-items, items-append, errors_among-items, goes_on}
pub use Rattle.htext.specs.Decoding.{HasFed, Feeds, sink_refused, took_all, EndsDecoding, end_refused, end_reached, HandsOn, answer_at_end, DecoderState, IsUndecided}
pub use Rattle.htext.specs.Items.{items, characters_among, errors_among, Character, InputError}
pub use Rattle.htext.specs.Run.{run_items}
pub use Rattle.htext.specs.Text.{Policy, Read, decoded, character_of, read_len, refusal_of, refusal_with, settled_len}
pub use Rattle.htext.specs.declared.BadBytes.{BadBytes}
pub use Rattle.htoken.specs.Handing.{HandsEvents}
pub use Rattle.htoken.specs.Run.{replacement_run, run_tokens, TakesTextWithReferences}
pub use Rattle.htoken.specs.Standing.{start_kind}
pub use Rattle.htoken.specs.Token.{Item, ItemToken, ItemError, Tok, Event, Reports, TokenMeans, Handed, token_in, Alone, Gives, HandedMeans, Mean, WithNames, Span}
pub use Rattle.htoken.specs.Tokenizing.{HasTaken, holds, in_ambiguous_ampersand, Takes, take_ran_out, take_refused, take_sink_refused, take_took, Finishes, finish_ran_out, finish_sink_refused, finish_took, later_errors}
pub use Rattle.htoken.specs.Tokens.{IsRefused, AreFront, tokens_in, errors_in, eof_of, Tokens, tokens_of}
pub use Rattle.htoken.specs.declared.token.Token.{Token}
pub use Rattle.names.proofs.Handing.{grows_not, grows_on, Hands-append, text_kept}
pub use Rattle.names.specs.Codes.{code_rank}
pub use Rattle.names.specs.Names.{Texts, Grows, IsOf}
pub use Rattle.names.specs.Sink.{Continues}
pub use Rattle.names.specs.Spelling.{spelling}
pub use Rattle.names.specs.Tags.{tag_named, tag_of}
pub use Rattle.names.specs.declared.attr.Attr.{Attr}
pub use Rattle.names.specs.declared.error.ParseError.{ParseError}
pub use Rattle.names.specs.declared.placed.Placed.{Placed}
pub use Rattle.names.specs.declared.raw.RawKind.{RawKind}
pub use Rattle.names.specs.declared.refusal.Refusal.{Refusal}
pub use Rattle.std.proofs.Common.{◌≡◌, List, [], ◌∷◌, ◌++◌, map, sym, ap, ◌∙◌, subst, Option, None, Result, Ok, Err, append-nil, append_assoc, inl, inr, ℕ, ◌-◌, Bool, true, false, cond, eqb, length, Some, refl, ◌<◌, arith, zero, suc, ◌+◌, ◌≤◌, take, drop, Bor, rules, nat_lt, option_and_then, nat_eq, get_or, take-append-drop, length-append, not, length-drop, vec_len}
pub use Rattle.std.proofs.lemmas.List.Sorted.{IsPermutation-refl, IsPermutation-append_right, IsPermutation-append_comm, IsPermutation-trans, IsPermutation-append_left, ranks_by, answers_always}
pub use Rattle.std.proofs.lemmas.Result.{err_from_is_err_and}
pub use Rattle.std.specs.Io.KnownBytes.{Consumes, IsAtEnd, Keeps}
pub use Rattle.std.specs.List.Sorted.{IsPermutation, IsSorted}
pub use Rattle.std.specs.Prelude.{◌⊎◌, MatchResult, option_map, slice_get, MatchOption, bytes_eq, is_err, slice_set, is_some, ◌&&◌}
pub use Rattle.std.specs.Str.{chars}
pub use Rattle.hnodes.specs.Spots.{value_in, node_name, attributes_of, value_of}
pub use Rattle.hparse.specs.ByText.{stands_for}
pub use Rattle.std.proofs.lemmas.Bool.Decides.{Decides-eqb, Decides-like, same_from_decides, nat_tests}
pub use Rattle.std.proofs.lemmas.Bool.{false_from_ne_true, cond_both, eqb-true}
pub use Rattle.std.proofs.lemmas.List.Quantifiers.{position-Some}
pub use Rattle.std.proofs.lemmas.List.Sums.{fails_before_first}
pub use Rattle.std.proofs.lemmas.Option.{get_or_from_slice_get, slice_get-get_or, slice_get_within, slice_get_past}
pub use Rattle.std.proofs.lemmas.Slice.Eq.{bytes_eq-Decides}
pub use Rattle.std.specs.Bool.{Decides, ◌==◌}
pub use Rattle.std.specs.List.{position, position_or_len, flat_map, range_with_len}
pub use Rattle.std.specs.Option.{option_eq, option_map_or}
pub use Rattle.hparse.specs.Collecting.{KeepsError, KeepsToken, IsRunOf}
pub use Rattle.htoken.proofs.Fronts.{handed_means, token_kept}
pub use Rattle.std.specs.Char.{len_utf8}
pub use Rattle.names.specs.Placed.{placed, error}
pub use Rattle.names.specs.declared.error.ErrorCode.TheVariants.{ReplacedBytes}
pub use Rattle.names.specs.declared.refusal.Refusal.TheVariants.{OutOfProfile, NotUtf8, TooLarge}
pub use Rattle.htoken.proofs.Handing.{reports_given, error_given}
pub use Rattle.htoken.specs.declared.tokenizer.Tokenizer.{Tokenizer}
pub use Rattle.htoken.proofs.Cutting.{tokens_in-append, errors_in-append, tokens_in-map, errors_in-map}
pub use Rattle.std.proofs.lemmas.List.{take_more, map-append, length-take-le, take_all}
pub use Rattle.std.proofs.lemmas.Grind.{elements, common_steps, flat_map-append}
pub use Rattle.hparse.specs.Shown.{ran_out, refuses, accepts}
pub use Rattle.names.specs.declared.tag.Tag.{Tag}
pub use Rattle.hnodes.specs.Edits.{Nodes}
pub use Rattle.hparse.specs.Origins.{element_name, making, noted, with_made, MakesNodes, again_laid, first_makings, first_of, own_name, are_same, making_of, after_token}
pub use Rattle.names.specs.declared.tag.Tag.TheVariants.{Html}
pub use Rattle.hnodes.specs.Mapped.{mapped_attribute, mapped, mapped_nodes}
pub use Rattle.hadopt.specs.Mapped.{Agree, outcome_map}
pub use Rattle.hmodes.specs.Beginning.{Limits, fragment_begins, form_of, control_in}
pub use Rattle.hmodes.specs.Reset.{context_mode}
pub use Rattle.hparse.specs.BuilderWithOrigins.{makings_if, makings_of}
pub use Rattle.std.specs.Str.Lossy.{utf8_valid_len}
pub use Rattle.hnodes.proofs.Spellings.{questions}
pub use Rattle.hparse.specs.Into.{began_with, ComesInto, HasSettled, ReadsInto, AreOfFront}
pub use Rattle.hparse.specs.Reader.{ReadsInput, IsRefusedFrom, ReadsTo, reading_ran_out, reading_failed, reading_stopped, read_to_end}
pub use Rattle.std.specs.Cmp.{IsStrictWeakOrder}
pub use Rattle.std.specs.Ordering.{is_lt}
pub use Rattle.std.proofs.lemmas.Cmp.{nat_cmp_total, on_total, then_total}
pub use Rattle.hserialize.proofs.Sorting.{inserted, inserted-permutes, inserted-sorted}
pub use Rattle.hmodes.proofs.OfTable.{document-of, fragment-of}
pub use Rattle.std.proofs.Math.Seq.{take-append_seam}
pub use Rattle.std.proofs.KnownBytes.{Consumes-nil, Consumes-trans, Consumes-kept}
pub use Rattle.htext.proofs.Fronts.{front_le}
pub use Rattle.hserialize.specs.Calls.{counted}
pub use Rattle.htoken.specs.Settled.{AreTaken}
pub use Rattle.htoken.proofs.Settled.{settled_are_taken}
pub use Rattle.hparse.specs.Unrefused.{AreSettledIn, settled_text}
pub use Rattle.htext.proofs.Wide.{has_characters, no_characters}
pub use Rattle.htext.proofs.Handing.{next_bad}
pub use Rattle.names.specs.Sets.{raw_kind}
pub use Rattle.htext.specs.declared.decoder.TheConstants.{MAX_INPUT}
pub use Rattle.htext.proofs.Advancing.{nothing_settled}
