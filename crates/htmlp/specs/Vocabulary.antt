-- The words of the contracts, in one place.
pub use Rattle.clap.specs.Words.{Text, app_of, fault_of, first_value, found_of, new_app, rule_of, takes, with_rule}
pub use Rattle.clap.specs.declared.builder.command.Command.TheViews.{out-Command as fields_of}
pub use Rattle.hmodes.specs.Bounds.{AreLimits, Bounds}
pub use Rattle.htmlp.specs.Ending.{around_name, ending_text, explained, explanation, fault_line, fault_status, fault_text, limit_line, ending_line, name_line}
pub use Rattle.htmlp.specs.Ending.{number_line, refusal_line, exit_status}
pub use Rattle.htmlp.specs.Fault.{IsLimitFault, IsRefusalOf, IsUnread}
pub use Rattle.htmlp.specs.Line.{AreGood, FaultOf, IsNumber, IsNumberFault, OptionFault, SaysLine, asks_explanation, asks_version, bad_bytes_of, bare_program}
pub use Rattle.htmlp.specs.Line.{choice_rule, command_app, context_rules, escaping_of, explain_rule, file_rule, named_reads, number_or, program, task_of}
pub use Rattle.htmlp.specs.Line.{option_value, with_commands, with_rules}
pub use Rattle.htmlp.specs.Message.{message_text}
pub use Rattle.htmlp.specs.Numeric.{IsInRange, accepted, numeric_name, range_of, range_text}
pub use Rattle.htmlp.specs.Program.{ProgramAnswers, AnswersFile, AnswersInput, AnswersWords, EndsProgram, FindsQuirks, FindsTable, HasRun, IsExplained, WritesVersion}
pub use Rattle.htmlp.specs.Program.{told_of}
pub use Rattle.hwrite.specs.Calls.{EndsWith, WritesAll}
pub use Rattle.hwrite.specs.Command.{task_named}
pub use Rattle.hwrite.specs.Context.{AllowsContext}
pub use Rattle.names.specs.RefusalText.{detail_text, number_text, refusal_text}
