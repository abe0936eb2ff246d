-- The names of other crates and of specs/ that the proofs cite, in one place.
pub use Rattle.htmlp.specs.Vocabulary.{Text, app_of, with_rule, fault_of, found_of, takes, fields_of, IsRefusalOf, SaysLine, task_of, option_value, choice_rule, named_reads, with_commands, with_rules, bad_bytes_of, range_of, FindsQuirks, WritesAll}
pub use Rattle.clap.specs.Words.{HasKind, Row, is_simple_and_free, rows_of, AddsArg, AddsSubcommand, App, Rule, rule_of, with_subcommand, HasMatchesOf, IsAmong, Shape, built, first_of, first_value, is_simple, kind_of, subcommand_name_of, subcommand_of, subcommand_rows_of, new_app}
pub use Rattle.clap.specs.declared.builder.command.Command.{Command}
pub use Rattle.clap.specs.declared.parser.matches.ArgMatches.{ArgMatches}
pub use Rattle.hmarkup.specs.Quirks.{ReadsQuirks, no_memory, bad_line, read_all, QuirkLine}
pub use Rattle.htmlp.specs.Fault.{fault_of_error, fault_by_kind, IsLimitFault}
pub use Rattle.htmlp.specs.Program.{words_without, line_missing, FindsFile, FindsTable, FirstFault, no_table, no_quirks, no_limits, no_context, TellsOptions, CommandOptions, limits_of, IsOutcome, line_for_version, line_answered, words_refused, file_answered, file_missing, words_with_file, words_without_file, with_words, without_words, ReadsTable}
pub use Rattle.htmlp.specs.declared.fault.Fault.{Fault}
pub use Rattle.htmlp.specs.declared.numeric.Numeric.{Numeric}
pub use Rattle.htmlp.specs.declared.said.Line.{Line}
pub use Rattle.hwrite.proofs.CallLemmas.{WritesAll-stops, WritesAll-then, WritesAll-nil}
pub use Rattle.names.specs.declared.refusal.Refusal.{Refusal}
pub use Rattle.std.proofs.Common.{◌≡◌, ◌∙◌, ◌<◌, ◌+◌, ℕ, List, [], ◌∷◌, ◌++◌, Option, Result, Ok, Err, ap, sym, length, drop, take, get_or, refl, ◌⊎◌, inl, inr, ap₂, subst, codes, option_map, false, Some, None, MatchResult, map, string_bytes, IfSome, ◌≤◌, Bool, zero, suc, true, is_some, IfOk, IfErr, OnOk, option_and_then, rules, arith, take_all}
pub use Rattle.std.proofs.lemmas.Result.{IfOk-weaker}
pub use Rattle.std.specs.Borrow.{Bor}
pub use Rattle.std.specs.List.{concat, flat_map, list_all}
pub use Rattle.std.specs.Prelude.{IsErrAnd, IsSome, find}
pub use Rattle.std.proofs.lemmas.List.{at_drop_more, at_drop_all, flat_map_more, take_more, append_assoc}
pub use Rattle.clap.specs.declared.builder.arg.Arg.{Arg}
pub use Rattle.htmlp.specs.declared.commands.Choice.{Choice}
pub use Rattle.htmlp.specs.declared.commands.CommandEntry.{CommandEntry}
pub use Rattle.htmlp.specs.Line.{command_app, AreGood, AreNumbers, FaultOf, NumberFault, OptionFault, numeric_options, program, context_rules, each_rules, file_rule, asks_explanation, escaping_of}
pub use Rattle.clap.specs.Simple.{argument_words, entered, label_of, names_of, rows_at}
pub use Rattle.clap.specs.Walk.{answers_to, stop_after}
pub use Rattle.clap.specs.declared.parser.matches.ArgMatches.TheViews.{out-ArgMatches}
pub use Rattle.clap.proofs.WalkLemmas.{first_value-rows}
pub use Rattle.clap.specs.declared.error.Error.{Error}
pub use Rattle.clap.specs.declared.error.kind.ErrorKind.{ErrorKind}
pub use Rattle.clap.specs.declared.error.kind.ErrorKind.TheVariants.{OutOfMemory}
pub use Rattle.hwrite.specs.Command.{task_named}
pub use Rattle.hwrite.specs.declared.command.Task.{Task}
pub use Rattle.names.specs.declared.refusal.Refusal.TheVariants.{Memory, BadContext}
pub use Rattle.htmlp.specs.declared.fault.Fault.TheVariants.{Refused, Limit}
pub use Rattle.htmlp.specs.World.{World}
pub use Rattle.std.proofs.Math.Nat.{le_refl}
pub use Rattle.charref.specs.Reference.{Entities, core}
pub use Rattle.htext.specs.declared.decoder.TheConstants.{MAX_INPUT}
pub use Rattle.hmodes.specs.Bounds.{AreLimits, Bounds}
pub use Rattle.hwrite.specs.Context.{AllowsContext}
pub use Rattle.htmlp.specs.declared.numeric.Numeric.TheVariants.{Nodes, Open}
pub use Rattle.htmlp.specs.Numeric.{IsInRange}
pub use Rattle.hwrite.specs.Calls.{EndsWith}
pub use Rattle.htmlp.specs.Ending.{ending_text, explained, ending_line}
pub use Rattle.htmlp.specs.Message.{message_text}
pub use Rattle.names.specs.RefusalText.{number_text}
pub use Rattle.std.proofs.lemmas.Grind.{common_steps}
pub use Rattle.std.specs.Fmt.{HasWritten, IsPlainFormatter}
pub use Rattle.clap.proofs.TakesLemmas.{passed_up}
