-- What a walk through a tag has read.
use Rattle.std.specs.Prelude.{◌≡◌, ℕ, ◌==◌, Bool, true, false, not, List, [], ◌∷◌, ◌++◌, drop, Some, slice_get, Result, MatchResult, ◌||◌}
use Rattle.std.specs.String.{string_bytes}
use Rattle.names.specs.declared.error.ParseError.{ParseError}
use Rattle.names.specs.declared.placed.Placed.{Placed}
use Rattle.names.specs.declared.refusal.Refusal.{Refusal}
use Rattle.names.specs.declared.refusal.Refusal.TheVariants.{Memory}
use Rattle.names.specs.Names.{Texts}
use Rattle.names.specs.Placed.{characters, begins, all, RunsTo, place, is_letter, is_space, is_quote, name_bytes}
use Rattle.charref.specs.Reference.{Entities}
use Rattle.htag.specs.declared.tag_state.TagState.{TagState}
use Rattle.htag.specs.declared.tag_state.TagState.TheVariants as phase
use Rattle.htag.specs.declared.walk.TagWalk.{TagWalk}
use Rattle.htag.specs.Attributes.{AttrsMean}
use Rattle.htag.specs.declared.piece.Pending.TheVariants as reading
use Rattle.htag.specs.declared.piece.ValueWalk.{ValueWalk}
use Rattle.htag.specs.ValueWalk.{IsInValue, IsWholeValue}
use Rattle.htag.specs.Seen.{HasSeen}
use Rattle.htag.specs.Tag.{Part, AreParts, parts_text, attributes_after, named_by, has_attribute, tag_close, tag_errors, is_sign, ends_name}
use Rattle.htag.specs.Tag.{ends_attribute_name, ends_unquoted, attribute_name_errors}

-- ATTRIBUTES

-- the names of the attributes of parts, after others, the last one first
abbrev pub names_after : List (List ℕ) → List Part → List (List ℕ)
names_after names [] = names
names_after names (part ∷ parts) = names_after (named_by part.attribute ++ names) parts

-- each number stands for a text
abbrev pub NumbersMean : Texts → List ℕ → List (List ℕ) → Type 0
NumbersMean names [] [] = Unit {0}
NumbersMean names (n ∷ numbers) (t ∷ texts) = (slice_get names n ≡ Some t) × NumbersMean names numbers texts
NumbersMean names [] (t ∷ texts) = ⊥
NumbersMean names (n ∷ numbers) [] = ⊥

-- The walk holds the attributes of these parts: the first of each name.
pub record HasAttributes (names : Texts) (walk : TagWalk) (parts : List Part) : Type 0 where
  pub numbers : List ℕ
  pub seen : HasSeen walk.seen numbers
  pub named : NumbersMean names numbers (names_after [] parts)
  pub attributes : AttrsMean names walk.attrs.items (attributes_after [] parts)
  pub any : walk.any ≡ has_attribute parts

-- IN A PART

-- The walk is in an attribute of this name.
pub record HasName (walk : TagWalk) (name : List Placed) : Type 0 where
  pub first : begins (λ c. not (ends_name c)) name ≡ true
  pub runs : all (λ c. not (ends_attribute_name c)) (drop 1 name) ≡ true
  pub is : string_bytes walk.attribute ≡ name_bytes name
  pub at_is : place 0 name ≡ walk.at

-- nothing is read of a value yet
pub record NoValue (value : ValueWalk) : Type 0 where
  pub empty : string_bytes value.text ≡ []
  pub nothing : value.reading ≡ reading.Nothing

-- in an attribute's name
pub record InAttributeName (walk : TagWalk) (held : List Placed) (own : List ParseError) : Type 0 where
  pub has_name : HasName walk held
  pub no_value : NoValue walk.value
  pub own_is : own ≡ attribute_name_errors held

-- past it, where such characters are
pub record PastAttributeName (is_such : List Placed → Bool) (walk : TagWalk) (held : List Placed) (own : List ParseError) : Type 0 where
  pub name : List Placed
  pub sign : List Placed
  pub held_is : held ≡ name ++ sign
  pub has_name : HasName walk name
  pub no_value : NoValue walk.value
  pub is_sign : is_such sign ≡ true
  pub begun : begins ends_attribute_name sign ≡ true
  pub own_is : own ≡ attribute_name_errors name

-- in a value, in quotes and without
pub record InAttributeValueQuoted (table : Entities) (mark : ℕ) (walk : TagWalk) (held : List Placed) (own : List ParseError) : Type 0 where
  pub name : List Placed
  pub sign : List Placed
  pub quote : List Placed
  pub text : List Placed
  pub raised : List ParseError
  pub held_is : held ≡ name ++ (sign ++ quote ++ text)
  pub has_name : HasName walk name
  pub signed : is_sign sign ≡ true
  pub opens : characters quote ≡ mark ∷ []
  pub is_mark : is_quote mark ≡ true
  pub inside : all (λ c. not (c == mark)) text ≡ true
  pub value : IsInValue table true walk.value text [] raised
  pub own_is : own ≡ attribute_name_errors name ++ raised

pub record InAttributeValueUnquoted (table : Entities) (walk : TagWalk) (held : List Placed) (own : List ParseError) : Type 0 where
  pub name : List Placed
  pub sign : List Placed
  pub text : List Placed
  pub raised : List ParseError
  pub held_is : held ≡ name ++ (sign ++ text)
  pub has_name : HasName walk name
  pub signed : is_sign sign ≡ true
  pub first : begins (λ c. not (ends_unquoted c || is_quote c)) text ≡ true
  pub inside : all (λ c. not (ends_unquoted c)) text ≡ true
  pub value : IsInValue table false walk.value text [] raised
  pub own_is : own ≡ attribute_name_errors name ++ raised

-- past a value in quotes
pub record PastAttributeValueQuoted (table : Entities) (walk : TagWalk) (held : List Placed) (own : List ParseError) : Type 0 where
  pub mark : ℕ
  pub name : List Placed
  pub sign : List Placed
  pub quote : List Placed
  pub text : List Placed
  pub close : List Placed
  pub raised : List ParseError
  pub held_is : held ≡ name ++ (sign ++ quote ++ text ++ close)
  pub has_name : HasName walk name
  pub signed : is_sign sign ≡ true
  pub opens : characters quote ≡ mark ∷ []
  pub is_mark : is_quote mark ≡ true
  pub inside : all (λ c. not (c == mark)) text ≡ true
  pub value : IsWholeValue table true walk.value text raised
  pub closes : characters close ≡ mark ∷ []
  pub own_is : own ≡ attribute_name_errors name ++ raised

-- whether an attribute is being read in a phase
abbrev pub is_in_attribute : TagState → Bool
is_in_attribute phase.TagName = false
is_in_attribute phase.BeforeAttributeName = false
is_in_attribute phase.SelfClosingStartTag = false
is_in_attribute _ = true

-- what is held of a part in a phase, and its errors
abbrev pub HasPhase : TagState → Entities → TagWalk → List Part → List Placed → List ParseError → Type 0
HasPhase phase.TagName table walk parts held own = (parts ≡ []) × (held ≡ []) × (own ≡ [])
HasPhase phase.BeforeAttributeName table walk parts held own = (held ≡ []) × (own ≡ [])
HasPhase phase.SelfClosingStartTag table walk parts held own = (s : Placed) × (s.ch ≡ 47) × (held ≡ s ∷ []) × (own ≡ [])
HasPhase phase.AttributeName table walk parts held own = InAttributeName walk held own
HasPhase phase.AfterAttributeName table walk parts held own = PastAttributeName (all is_space) walk held own
HasPhase phase.BeforeAttributeValue table walk parts held own = PastAttributeName is_sign walk held own
HasPhase (phase.AttributeValueQuoted mark) table walk parts held own = InAttributeValueQuoted table mark walk held own
HasPhase phase.AttributeValueUnquoted table walk parts held own = InAttributeValueUnquoted table walk held own
HasPhase phase.AfterAttributeValueQuoted table walk parts held own = PastAttributeValueQuoted table walk held own

-- past the tag's name a character that ends it is
abbrev pub IsPast : TagState → Bool → Type 0
IsPast phase.TagName ended = Unit {0}
IsPast other ended = ended ≡ true

-- The walk has read this text after the mark, its tag goes on, and these errors were raised. `ahead` is known to come next.
pub record IsInTag (table : Entities) (names : Texts) (walk : TagWalk) (body ahead : List Placed) (errors : List ParseError) : Type 0 where
  pub name : List Placed
  pub parts : List Part
  pub held : List Placed
  pub own : List ParseError
  pub body_is : body ≡ name ++ (parts_text parts ++ held)
  pub first : begins is_letter name ≡ true
  pub passes : all (λ c. not (ends_name c)) name ≡ true
  pub name_is : string_bytes walk.name ≡ name_bytes name
  pub are_parts : (end : ℕ) (more : List Placed) → AreParts table end parts (held ++ (ahead ++ more))
  pub errors_are : errors ≡ tag_errors name parts ++ own
  pub has_attributes : HasAttributes names walk parts
  pub past : IsPast walk.phase (begins ends_name (parts_text parts ++ (held ++ ahead)))
  pub has_phase : HasPhase walk.phase table walk parts held own

-- The tag has ended with this text.
pub record IsWholeTag (table : Entities) (names : Texts) (walk : TagWalk) (body : List Placed) (errors : List ParseError) : Type 0 where
  pub name : List Placed
  pub parts : List Part
  pub close : List Placed
  pub body_is : body ≡ name ++ (parts_text parts ++ close)
  pub first : begins is_letter name ≡ true
  pub passes : all (λ c. not (ends_name c)) name ≡ true
  pub name_is : string_bytes walk.name ≡ name_bytes name
  pub are_parts : (end : ℕ) (rest : List Placed) → AreParts table end parts (close ++ rest)
  pub errors_are : errors ≡ tag_errors name parts
  pub has_attributes : HasAttributes names walk parts
  pub ends : begins ends_name (parts_text parts ++ close) ≡ true
  pub closes : characters close ≡ tag_close walk.closing

abbrev pub WholeOrNot : Bool → Entities → Texts → TagWalk → List Placed → List ParseError → Type 0
WholeOrNot true table names walk body errors = IsWholeTag table names walk body errors
WholeOrNot false table names walk body errors = IsInTag table names walk body [] errors

-- What taking the last character of this text does.
abbrev pub TakesInTag : Entities → Texts → List Placed → Result Bool Refusal → TagWalk → List ParseError → Type 0
TakesInTag table names body answer walk errors = MatchResult answer (λ ended. WholeOrNot ended table names walk body errors) (λ e. e ≡ Memory)

-- The same where this text came before.
abbrev pub StepsInTag : Entities → Texts → Texts → TagWalk → Placed → List ParseError → Result Bool Refusal → TagWalk → List ParseError → Type 0
StepsInTag table before after old p errors answer new later = (body : List Placed) → IsInTag table before old body (p ∷ []) errors
    → TakesInTag table after (body ++ p ∷ []) answer new later

-- This text is the front of a tag that the input's end cuts off, and these are its errors.
pub record IsCutTag (table : Entities) (body : List Placed) (errors : List ParseError) : Type 0 where
  pub name : List Placed
  pub parts : List Part
  pub body_is : body ≡ name ++ parts_text parts
  pub first : begins is_letter name ≡ true
  pub runs : RunsTo ends_name name (parts_text parts ++ [])
  pub are_parts : (end : ℕ) → AreParts table end parts []
  pub errors_are : errors ≡ tag_errors name parts
