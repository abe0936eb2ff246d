-- The names of other crates and of specs/ that the proofs cite, in one place.
pub use Rattle.charref.specs.Reading.{table_of_json, IsRefusedWith}
pub use Rattle.html_c.specs.Vocabulary.{PutsAt, ReadsQuirks, children_of, mapped, ParseOptions, options_of, ComesToNone, IsPieceSize, Tells, context_told, kind_number, link_to, rows_of, words_of, ReadsTableBytes, ComesToParse, GivesParse, own_context, AllowsContext, context_of, prints_of, Memory, ended_attribute, mapped_attribute}
pub use Rattle.hnodes.specs.Forest.{Forest, none, tree, What, document, doctype, element, comment, text}
pub use Rattle.hnodes.specs.Spots.{kind_in, what_of, first_or}
pub use Rattle.hparse.specs.declared.parsed.Parsed.{Parsed}
pub use Rattle.html_c.specs.Exports.{none_for_memory, none_of_bytes, no_command, unmet_rows, GivesText, GivesNone, case_given, comes_to_none, GivesNoRows, no_rows, prints, GivesRows, none_answered, text_answered, no_tree_answered, tree_answered}
pub use Rattle.html_c.specs.Given.{no_size, of_size, unmet, IsCommand, escaping_told, may_be_in, GivesNothing, AreSameButTables, bad_told, misplaced, no_escaping, no_quirks, no_table, quirks_refused}
pub use Rattle.html_c.specs.Input.{left_in}
pub use Rattle.html_c.specs.Parts.{page_parts}
pub use Rattle.html_c.specs.declared.answer.Given.{Given}
pub use Rattle.html_c.specs.declared.fault.CallFault.{CallFault}
pub use Rattle.html_c.specs.declared.fitted.Fitted.{Fitted}
pub use Rattle.hwrite.specs.Context.{case_in}
pub use Rattle.names.specs.Names.{text_of, Texts}
pub use Rattle.names.specs.declared.refusal.Refusal.{Refusal}
pub use Rattle.std.proofs.Common.{◌≡◌, ℕ, ◌<◌, List, [], ◌∷◌, ◌++◌, Some, map, refl, sym, ap, ap₂, subst, ◌∙◌, Bool, true, Result, Ok, Err, inl, inr, length, ◌+◌, take, Option, None, arith, rules, false, length-append, suc, MatchResult, ◌≤◌, set, zero, ◌^◌}
pub use Rattle.std.proofs.lemmas.Grind.{elements, common_steps, flat_map-append}
pub use Rattle.std.proofs.lemmas.List.{append-nil, map-append, take-append-drop}
pub use Rattle.std.specs.List.{flat_map}
pub use Rattle.std.specs.Prelude.{IsErrAnd, if◌then◌else◌, ◌↔◌, nat_le, ◌⊎◌}
pub use base.Logic.{SProp, ent, emp, via, fst∗}
pub use contract.Monad.{Fun}
pub use contract.Running.{tables, tables_of}
pub use denote.RattleType.{owns}
pub use denote.Shadow.{pure_i}
pub use denote.Triple.Entry.{on_entry, alive}
pub use denote.Triple.Spec.{Meets, triple_of}
pub use denote.Triple.Table.{entered}
pub use denote.Triple.Walked.{says, Stays, walk_of, Walks, ends_at, walked, walk_Meets}
pub use mir.Val.{vstruct, vnil}
pub use prog.Routine.{Routine}
pub use prog.Wp.{Calls, Loops, WpFn, Tables}
pub use seplogic.Ra.Ura.{Ura}
pub use sound.WpLaws.{WpFn-mono}
pub use types.ByLocal.{alloc_all, pass_all, free_all, look_at, sets}
pub use types.Kit.{‵, raw, ◌$◌, ◌∵◌, !, qed, move, suffices, done}
pub use types.Logic.{Logic}
pub use types.Part.{agg}
pub use types.Run.{no_more, returns, enter}
pub use Rattle.hparse.specs.Parsing.{TellsPlaces, places_in, AnswersParse}
pub use Rattle.hparse.specs.declared.origins.Origin.{Origin}
pub use Rattle.hserialize.specs.declared.escaping.Escaping.{Escaping}
pub use Rattle.hwrite.specs.Prints.{parsed_text}
pub use Rattle.hwrite.specs.declared.command.Command.{Command}
pub use Rattle.hwrite.specs.declared.command.Task.{Task}
pub use Rattle.hwrite.proofs.Printed.{children_are}
pub use Rattle.hwrite.proofs.Tasks.{parsed_printed}
pub use Rattle.html_c.specs.Page.{GivesErrors, GivesPage, GivesOrigins, GivesWanted, error_row, wants_told, no_page_answered, page_answered, no_tree, unescaped}
pub use Rattle.html_c.specs.Rows.{origins_of, node_words_at, origin_at, row_at, tree_row}
pub use Rattle.html_c.specs.Trees.{parsed_parts, origins_by, parsed_rows, parsed_words}
pub use Rattle.html_c.specs.declared.page.Wants.{Wants}
pub use Rattle.std.specs.Option.{option_map, option_map_or}
pub use Rattle.hnodes.specs.Edits.{AreCounted}
pub use Rattle.hnodes.specs.Passed.{order}
pub use Rattle.hserialize.proofs.Seen.{Seen, seen}
pub use Rattle.html_c.specs.declared.answer.NodeRow.{NodeRow}
pub use Rattle.std.proofs.lemmas.Slice.{overwrites}
pub use Rattle.html_c.specs.Room.{over_at, put_over, room_answer}
pub use Rattle.names.specs.declared.refusal.TableFault.{TableFault}
pub use Rattle.htext.specs.declared.decoder.TheConstants.{MAX_INPUT}
pub use Rattle.charref.specs.Flat.{flat_of, IsReadable}
pub use Rattle.charref.specs.Reference.{Entities}
pub use Rattle.hmodes.specs.Bounds.{AreLimits, Bounds}
pub use Rattle.html_c.specs.Table.{AnswersTable, Core, Flat, IsTableOf, Json, TableForm, table_form, table_answered, table_read, table_ran_out, no_flat, no_json, no_text, no_table_answered}
pub use Rattle.html_c.specs.declared.answer.Answer.{Answer}
pub use Rattle.names.specs.declared.refusal.Refusal.TheVariants.{Write, BadContext}
pub use Rattle.hwrite.specs.Running.{Runs, RunsIn, context_refused, ran, run_ran_out, read_failed, stopped, refused, write_failed, wrote}
pub use Rattle.html_c.specs.Fitted.{fitted_contents, fitted_failures, fitted_text}
pub use Rattle.html_c.specs.declared.input.Input.{Input}
pub use Rattle.hnodes.specs.Mapped.{mapped_what}
pub use Rattle.hparse.specs.Parse.{Parses}
pub use Rattle.hparse.specs.Reader.{ReadsInput, reading_ran_out, reading_failed, reading_stopped, read_to_end}
pub use Rattle.html_c.specs.declared.fitted.History.{History}
