-- What the walk's own functions do.
use Rattle.std.specs.Prelude.{◌≡◌, Bool, List, [], ◌∷◌, ◌++◌, Some, true, false, Result, IfOk}
use Rattle.std.specs.declared.alloc.AllocError.{AllocError}
use Rattle.std.specs.Char.{encode_utf8, to_ascii_lowercase}
use Rattle.std.specs.String.{string_bytes}
use Rattle.names.specs.declared.error.ErrorCode.TheVariants.{UnexpectedEqualsSignBeforeAttributeName}
use Rattle.names.specs.declared.error.ParseError.{ParseError}
use Rattle.names.specs.declared.placed.Placed.{Placed}
use Rattle.names.specs.Names.{Texts}
use Rattle.names.specs.Placed.{is_equals, error_if, without_null}
use Rattle.charref.specs.Reference.{Entities}
use Rattle.htag.specs.declared.kind.TagKind.{TagKind}
use Rattle.htag.specs.declared.tag_state.TagState.TheVariants as phase
use Rattle.htag.specs.declared.walk.TagWalk.{TagWalk}
use Rattle.htag.specs.Seen.{HasSeen}
use Rattle.htag.specs.Tag.{Attribute, Part, repeated, name_errors_here}
use Rattle.htag.specs.TagWalk.{NoValue, names_after, HasAttributes, IsInTag}

-- A tag of this kind has begun; its name is in the walk already.
pub record IsBegun (kind : TagKind) (walk : TagWalk) : Type 0 where
  pub kind_is : walk.kind ≡ kind
  pub in_name : walk.phase ≡ phase.TagName
  pub seen : HasSeen walk.seen []
  pub none : walk.attrs.items ≡ []
  pub not_any : walk.any ≡ false

-- the attribute that is being read
abbrev pub walked_attribute : TagWalk → Attribute
walked_attribute walk = record { name = string_bytes walk.attribute; value = string_bytes walk.value.text; at = walk.at }

-- An attribute has been read to its end: this one is kept, or reported as a duplicate.
pub record EndsAs (it : Attribute) (before after : Texts) (old : TagWalk) (errors : List ParseError) (new : TagWalk) (later : List ParseError) : Type 0 where
  pub kind_is : new.kind ≡ old.kind
  pub phase_is : new.phase ≡ phase.BeforeAttributeName
  pub name_is : new.name ≡ old.name
  pub ends : (parts : List Part) (part : Part) → part.attribute ≡ Some it → HasAttributes before old parts
      → HasAttributes after new (parts ++ part ∷ []) × (later ≡ errors ++ repeated (names_after [] parts) part.attribute)

abbrev pub EndsAttribute : Texts → Texts → TagWalk → List ParseError → TagWalk → List ParseError → Type 0
EndsAttribute before after old = EndsAs (walked_attribute old) before after old

-- what stays while an attribute is read
pub record KeepsTag (old new : TagWalk) : Type 0 where
  pub kind_is : new.kind ≡ old.kind
  pub name_is : new.name ≡ old.name
  pub attrs_are : new.attrs ≡ old.attrs
  pub seen_is : new.seen ≡ old.seen
  pub any_is : new.any ≡ old.any

pub record AddsToName (old : TagWalk) (p : Placed) (errors : List ParseError) (new : TagWalk) (later : List ParseError) : Type 0 where
  pub keeps : KeepsTag old new
  pub phase_is : new.phase ≡ old.phase
  pub at_is : new.at ≡ old.at
  pub value_is : new.value ≡ old.value
  pub attribute_is : string_bytes new.attribute ≡ string_bytes old.attribute ++ encode_utf8 (to_ascii_lowercase (without_null p.ch))
  pub later_is : later ≡ errors ++ name_errors_here p

pub record BeginsAttribute (old : TagWalk) (p : Placed) (errors : List ParseError) (new : TagWalk) (later : List ParseError) : Type 0 where
  pub keeps : KeepsTag old new
  pub phase_is : new.phase ≡ phase.AttributeName
  pub at_is : new.at ≡ p.at
  pub value_is : NoValue new.value
  pub attribute_is : string_bytes new.attribute ≡ encode_utf8 (to_ascii_lowercase (without_null p.ch))
  pub later_is : later ≡ errors ++ (error_if (is_equals p.ch) UnexpectedEqualsSignBeforeAttributeName p.at ++ name_errors_here p)

-- What taking a character in an attribute does: the tag goes on with it, or the attribute has ended before it.
abbrev pub InOrPast : Bool → Entities → Texts → TagWalk → List Placed → Placed → List ParseError → Type 0
InOrPast false table names walk body p errors = IsInTag table names walk (body ++ p ∷ []) [] errors
InOrPast true table names walk body p errors = (after : Texts) (new : TagWalk) (later : List ParseError) → EndsAttribute names after walk errors new later
    → IsInTag table after new body (p ∷ []) later

abbrev pub StepsInAttribute : Entities → Texts → TagWalk → Placed → List ParseError → Result Bool AllocError → TagWalk → List ParseError → Type 0
StepsInAttribute table names old p errors answer new later = (body : List Placed) → IsInTag table names old body (p ∷ []) errors
    → IfOk answer (λ past. InOrPast past table names new body p later)
