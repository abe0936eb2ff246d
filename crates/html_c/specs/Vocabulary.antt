-- The words of the contracts, in one place.
pub use Rattle.charref.specs.Flat.{IsReadable, flat_of}
pub use Rattle.charref.specs.Reference.{Entities}
pub use Rattle.hmarkup.specs.Quirks.{ReadsQuirks}
pub use Rattle.hnodes.specs.Forest.{children_of}
pub use Rattle.hnodes.specs.Rows.{attribute_of}
pub use Rattle.hnodes.specs.Mapped.{mapped, mapped_attribute}
pub use Rattle.hnodes.specs.Spots.{what_of}
pub use Rattle.hparse.specs.Parse.{ParseOptions}
pub use Rattle.hparse.specs.Parsing.{options_of}
pub use Rattle.html_c.specs.Exports.{AnswersText, AnswersTree, ComesToNone, GivesNoRows, GivesNone, GivesRows, GivesText, fit}
pub use Rattle.html_c.specs.Fitted.{IsFitted, fitted_text, fitted_text as written_in}
pub use Rattle.html_c.specs.Given.{AreSameButTables, GivesNothing, HasLists, HasSettings, IsCommand, IsPieceSize, IsSize, NoCommand, NoEscaping, Tells, Unmet, bad_told, context_told, escaping_told, keys_told, may_be_in, task_told}
pub use Rattle.html_c.specs.Page.{AnswersPage, GivesNoPage, GivesPage, all_fit, error_row, page_answer, page_fault, as_parts, put_parts, wants_told}
pub use Rattle.html_c.specs.Room.{PutsAt, fault_answer, fit_status, greatest, put_over, room_answer}
pub use Rattle.html_c.specs.Rows.{ended_attribute, ended_word, kind_number, link_to, origin_at, origin_row, origins_of, row_at, rows_of, words_at, words_of}
pub use Rattle.html_c.specs.Table.{AnswersTable, ReadsTableBytes}
pub use Rattle.html_c.specs.Trees.{ComesToParse, GivesParse, parsed_parts, parsed_origins, parsed_rows, parsed_words}
pub use Rattle.html_c.specs.Version.{version}
pub use Rattle.html_c.specs.declared.answer.Given.{Given as Told}
pub use Rattle.html_c.specs.declared.given.Settings.{Settings}
pub use Rattle.hwrite.specs.Command.{own_context}
pub use Rattle.hwrite.specs.Context.{AllowsContext}
pub use Rattle.hwrite.specs.Prints.{context_of, parsed_text, prints_of}
pub use Rattle.names.specs.declared.refusal.Refusal.TheVariants.{Memory}
