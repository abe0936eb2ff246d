-- The words of the contracts, in one place.
pub use Rattle.charref.specs.Reference.{Entities}
pub use Rattle.charref.specs.declared.walk.Walk.{Walk as Handed}
pub use Rattle.htag.specs.AtOnce.{IsBareName, IsTagName, IsPlainValue, is_no_reference, IsQuietFront}
pub use Rattle.htag.specs.Run.{IsValueRun, not_ended, TakesFront, TakesTagRun}
pub use Rattle.htag.specs.Steps.{AddsToName, BeginsAttribute, EndsAs, EndsAttribute, IsBegun, StepsInAttribute}
pub use Rattle.htag.specs.Tag.{Attribute, ends_name, is_odd}
pub use Rattle.htag.specs.TagWalk.{IsCutTag, IsInTag, is_in_attribute, NoValue, StepsInTag, TakesInTag}
pub use Rattle.htag.specs.Value.{plain_piece}
pub use Rattle.htag.specs.ValueWalk.{EndsValue, GivesBack, TakesInValue, TellsReference, pieces_errors}
pub use Rattle.htag.specs.declared.kind.TagKind.TheVariants.{End, Start}
pub use Rattle.htext.specs.Run.{is_clean, is_quoted_byte, IsCut}
pub use Rattle.htext.specs.declared.decoder.TheConstants.{MAX_INPUT}
pub use Rattle.names.specs.Names.{AreNames, Grows, Texts}
pub use Rattle.names.specs.Placed.{all, begins, error_if, is_letter, is_quote, name_bytes, null_errors, placed, without_null}
pub use Rattle.names.specs.declared.placed.Placed.{Placed as Character}
pub use Rattle.names.specs.declared.refusal.Refusal.TheVariants.{Memory}
