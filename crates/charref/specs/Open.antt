-- A text that begins with a reference, and one that may still become one.
use Rattle.std.specs.Prelude.{◌≡◌, Bool, false, List, ◌∷◌, ◌++◌}
use Rattle.names.specs.declared.placed.Placed.{Placed}
use Rattle.names.specs.Placed.{is_empty}
use Rattle.charref.specs.Reference.{Entities, Piece, IsReference}

-- Outside a value, some longer text that begins with the `&` and this text is one reference.
pub record IsOpenReference (table : Entities) (amp : Placed) (text : List Placed) : Type 0 where
  pub more : List Placed
  pub rest : List Placed
  pub piece : Piece
  pub is_more : is_empty more ≡ false
  pub text_is : piece.text ≡ amp ∷ (text ++ more)
  pub is_reference : IsReference table false rest piece

-- A reference, or an `&` that is text, is at the front of this text.
pub record HasReference (table : Entities) (in_value : Bool) (text : List Placed) : Type 0 where
  pub piece : Piece
  pub rest : List Placed
  pub text_is : text ≡ piece.text ++ rest
  pub is_reference : IsReference table in_value rest piece
