-- The words of the contracts, in one place.
pub use Rattle.charref.specs.Reference.{Entities, IsTable}
pub use Rattle.hadopt.specs.Naming.{numbers}
pub use Rattle.hmodes.specs.Tokens.{token_at, token_of}
pub use Rattle.hparse.specs.Answer.{of_document}
pub use Rattle.hparse.specs.Collecting.{IsRunOf}
pub use Rattle.hparse.specs.Fed.{EndsInput, FeedsPiece, HasRead, WasRead}
pub use Rattle.hparse.specs.Holding.{EndsText, HoldsItems, Refuses}
pub use Rattle.hparse.specs.Input.{Began, Comes, Manner, bom_of}
pub use Rattle.hparse.specs.Into.{ReadsInto, as_document}
pub use Rattle.hparse.specs.Origins.{again_laid, are_same, element_name, first_of, implied, is_own, making, making_of, noted, own_name, with_made}
pub use Rattle.hparse.specs.Parse.{ParseCase, ParseOptions, document, fragment, is_context}
pub use Rattle.hparse.specs.Parsing.{AnswersParse, FeedsParser, IsUnfed, HasParsed, IsBuilt, IsMadeOf, ShowsParse, options_of}
pub use Rattle.hparse.specs.BuilderWithOrigins.{TakesTokenWithOrigins, makings_if, makings_of}
pub use Rattle.hparse.specs.Reader.{ReadsInput, ReadsTo}
pub use Rattle.hparse.specs.Shown.{HasReadTokens, ShowsRun}
pub use Rattle.hparse.specs.Unrefused.{IsUnrefused, IsUnrefusedText}
pub use Rattle.htext.specs.Items.{CharItem, bad_each, input_errors}
pub use Rattle.htext.specs.declared.BadBytes.{BadBytes as Bad}
pub use Rattle.htext.specs.declared.decoder.TheConstants.{MAX_INPUT}
pub use Rattle.htoken.specs.Token.{Alone, gives_item}
pub use Rattle.htoken.specs.declared.token.Token.{Token as Given}
pub use Rattle.names.specs.Names.{AreNames}
pub use Rattle.names.specs.Sink.{Hands}
pub use Rattle.names.specs.Tags.{tag_of}
pub use Rattle.names.specs.declared.refusal.Refusal.{Refusal as Refused}
pub use Rattle.names.specs.declared.refusal.Refusal.TheVariants.{BadContext, Memory}
