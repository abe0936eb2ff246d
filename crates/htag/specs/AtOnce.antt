-- What stands whole in one run of the input: a tag without attributes, or an attribute.
use Rattle.std.specs.Prelude.{◌≡◌, ◌≤◌, ◌<◌, ◌==◌, ℕ, ◌+◌, Bool, true, not, ◌||◌, List, [], ◌∷◌, ◌++◌, length, take, drop}
use Rattle.std.specs.Char.{is_ascii}
use Rattle.std.specs.List.{list_all}
use Rattle.std.specs.Str.{chars}
use Rattle.names.specs.declared.placed.Placed.{Placed}
use Rattle.names.specs.Placed.{is_equals, is_greater, is_letter, is_quote, is_space, placed}
use Rattle.charref.specs.Reference.{Entities, Piece}
use Rattle.htext.specs.Run.{is_unquoted_byte, is_word_byte, IsCut}
use Rattle.htag.specs.declared.at_once.PlainValue.{PlainValue}
use Rattle.htag.specs.Tag.{ends_name, ends_unquoted, value_errors}
use Rattle.htag.specs.Value.{AreValue, pieces_text, value_bytes}

-- At the front of this run is a tag's name of this length, whose characters stand for themselves, and then this text.
pub record IsNameBefore (after : List ℕ) (run : List ℕ) (count : ℕ) : Type 0 where
  pub letter : ℕ
  pub letters : List ℕ
  pub others : List ℕ
  pub run_is : run ≡ letter ∷ letters ++ (after ++ others)
  pub count_is : count ≡ 1 + length letters
  pub first : is_letter letter ≡ true
  pub words : list_all is_word_byte (letter ∷ letters) ≡ true

-- a tag's name whatever follows, and one with the `>` that ends the tag
abbrev pub IsTagName : List ℕ → ℕ → Type 0
IsTagName = IsNameBefore []

abbrev pub IsBareName : List ℕ → ℕ → Type 0
IsBareName = IsNameBefore (62 ∷ [])

-- This is a value of an attribute with what is before and after it, where this character comes next: in quotes, without, or missing, also
-- before white space and what begins no value.
pub data IsWritten (before value after : List ℕ) (next : ℕ) : Type 0 where
  quoted : (mark : ℕ) → is_quote mark ≡ true → before ≡ 61 ∷ mark ∷ [] → list_all (λ c. not (c == mark)) value ≡ true → after ≡ mark ∷ []
      → ends_name next ≡ true → IsWritten before value after next
  unquoted : before ≡ 61 ∷ [] → 0 < length value → list_all is_unquoted_byte value ≡ true → after ≡ [] → ends_unquoted next ≡ true
      → IsWritten before value after next
  missing : before ≡ [] → value ≡ [] → after ≡ [] → (next == 47 || is_greater next) ≡ true → IsWritten before value after next
  apart : (space : ℕ) → before ≡ [] → value ≡ [] → after ≡ space ∷ [] → is_space space ≡ true → is_ascii next ≡ true
      → not (is_space next || is_equals next) ≡ true → IsWritten before value after next

-- what is no `&`
abbrev pub is_no_reference : ℕ → Bool
is_no_reference byte = not (byte == 38)

-- At the front of this run, after an attribute's name, is such a value, of these lengths.
pub record IsPlainValue (run : List ℕ) (it : PlainValue) : Type 0 where
  pub before : List ℕ
  pub value : List ℕ
  pub after : List ℕ
  pub next : ℕ
  pub others : List ℕ
  pub run_is : run ≡ before ++ (value ++ (after ++ next ∷ others))
  pub before_is : it.before ≡ length before
  pub value_is : it.value ≡ length value
  pub after_is : it.after ≡ length after
  pub plain : it.plain ≡ true → list_all is_no_reference value ≡ true
  pub bare : it.before ≡ 0 → it.plain ≡ true
  pub written : IsWritten before value after next

-- At the front of this run is an attribute, whose name has this length and stands for itself, and such a value.
pub record IsPlainAttribute (run : List ℕ) (name : ℕ) (it : PlainValue) : Type 0 where
  pub some : 0 < name
  pub within : name ≤ length run
  pub words : list_all is_word_byte (take name run) ≡ true
  pub value : IsPlainValue (drop name run) it

-- These are pieces of a value, after which this rest of it comes.
pub record ArePieces (table : Entities) (text rest : List Placed) (old new : List ℕ) : Type 0 where
  pub pieces : List Piece
  pub text_is : text ≡ pieces_text pieces
  pub are : (more : List Piece) → AreValue table more → pieces_text more ≡ rest → AreValue table (pieces ++ more)
  pub quiet : value_errors pieces ≡ []
  pub bytes : new ≡ old ++ value_bytes pieces

-- The front of this length of what is left of a value is characters and references without errors, and what they stand for is put after this.
pub record IsQuietFront (table : Entities) (run : List ℕ) (count : ℕ) (old new : List ℕ) : Type 0 where
  pub cut : IsCut count run
  pub reads : (at : ℕ) → ArePieces table (placed at (chars (take count run))) (placed (at + count) (chars (drop count run))) old new
