-- The words of the contracts, in one place.
pub use Rattle.hparse.specs.Answer.{Answers, of_document}
pub use Rattle.hparse.specs.Calls.{ReadsCall}
pub use Rattle.hparse.specs.Into.{as_document}
pub use Rattle.hparse.specs.PageText.{page_trees}
pub use Rattle.hparse.specs.Parsing.{options_of}
pub use Rattle.hparse.specs.TokenRun.{TokensMean}
pub use Rattle.hparse.specs.Unrefused.{IsUnrefusedText}
pub use Rattle.hserialize.specs.Calls.{Writes, counted, counted_by, counted_unless}
pub use Rattle.hserialize.specs.Output.{IsFlushed, WritesText}
pub use Rattle.htoken.specs.Token.{Char, Comment, Doctype, End, Start, Tok, doctype_token}
pub use Rattle.hwrite.specs.Command.{own_context}
pub use Rattle.hwrite.specs.Context.{AllowsContext, case_in}
pub use Rattle.hwrite.specs.Counted.{CalledOnce, counted_failures, inner_of, taken_of}
pub use Rattle.hwrite.specs.Draft.{AddsText, draft_attribute, beginning_of_characters, drafted, Drafts, end_of_characters, draft_table, tok_of}
pub use Rattle.hwrite.specs.Prints.{Prints, is_plain_in, parsed_text, plain_line, tokens_text}
pub use Rattle.hwrite.specs.Quoted.{quote_escaped, escaped_byte, quoted}
pub use Rattle.hwrite.specs.Running.{ParserBeginsIn, Runs, RunsTask}
pub use Rattle.hwrite.specs.TokenLines.{Line, attribute_words, line_of, line_text, quoted_or_none, token_lines}
pub use Rattle.names.specs.Names.{text_of}
pub use Rattle.names.specs.declared.refusal.Refusal.TheVariants.{BadContext}
