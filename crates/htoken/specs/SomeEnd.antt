-- Laws of what is held back: what has been read of a tag can be completed.
use Rattle.std.specs.Prelude.{◌≡◌, ℕ, Bool, true, false, not, List, [], ◌++◌}
use Rattle.names.specs.declared.error.ParseError.{ParseError}
use Rattle.names.specs.declared.placed.Placed.{Placed}
use Rattle.names.specs.Names.{Texts}
use Rattle.names.specs.Placed.{characters, begins, all, is_empty, is_letter}
use Rattle.charref.specs.Reference.{Entities, IsTable}
use Rattle.htag.specs.declared.walk.TagWalk.{TagWalk}
use Rattle.htag.specs.Tag.{Part, AreParts, parts_text, ends_name, tag_close}
use Rattle.htag.specs.TagWalk.{IsInTag}

-- With more text after it, this text after a tag's mark is the rest of a whole tag, whatever follows: a name, parts and a close.
pub record CanEnd (table : Entities) (body : List Placed) : Type 0 where
  pub more : List Placed
  pub name : List Placed
  pub parts : List Part
  pub close : List Placed
  pub closing : Bool
  pub some : is_empty more ≡ false
  pub body_is : body ++ more ≡ name ++ (parts_text parts ++ close)
  pub first : begins is_letter name ≡ true
  pub passes : all (λ c. not (ends_name c)) name ≡ true
  pub ends : begins ends_name (parts_text parts ++ close) ≡ true
  pub are_parts : (end : ℕ) (rest : List Placed) → AreParts table end parts (close ++ rest)
  pub closes : characters close ≡ tag_close closing

abbrev pub TagsCanEnd : Type 0
TagsCanEnd = (table : Entities) (names : Texts) (walk : TagWalk) (body : List Placed) (errors : List ParseError) → IsTable table
    → IsInTag table names walk body [] errors → CanEnd table body
