-- Numbers of names as their texts. What is said of numbers is so said of texts, under any names that the numbers are of.
use Rattle.std.specs.Prelude.{◌≡◌, ℕ, ◌+◌, Bool, List, [], ◌∷◌, length, replicate, nat_eq, nat_lt, bytes_eq, slice_get, Some, if◌then◌else◌}
use Rattle.names.specs.declared.tag.Tag.{Tag}
use Rattle.names.specs.Names.{Texts, text_of}
use Rattle.names.specs.Tags.{tag_of, tag_named}

-- Names of another kind: two names are the same exactly where their spellings are, and a name is the known one that its spelling is.
pub record IsSpelling {N M : Type 0} (tag : N → Tag) (tag' : M → Tag) (same : N → N → Bool) (same' : M → M → Bool) (spell : N → M) : Type 0 where
  pub names : (a b : N) → same' (spell a) (spell b) ≡ same a b
  pub tags : (a : N) → tag' (spell a) ≡ tag a

-- texts for all numbers
abbrev pub SpellsNumbers : (ℕ → List ℕ) → Type 0
SpellsNumbers texts = IsSpelling tag_of tag_named nat_eq bytes_eq texts

-- how long the texts are together
abbrev pub text_total : Texts → ℕ
text_total [] = 0
text_total (text ∷ names) = length text + text_total names

-- the texts of a table, and beyond its end others that are longer than all of them
abbrev pub spelling : Texts → ℕ → List ℕ
spelling names id = if nat_lt id (length names) then text_of names id else replicate (1 + (text_total names + id)) 0

-- each table's texts are among those of a spelling of all numbers
pub record IsSpelled (names : Texts) (texts : ℕ → List ℕ) : Type 0 where
  pub spells : SpellsNumbers texts
  pub table : (id : ℕ) (text : List ℕ) → slice_get names id ≡ Some text → texts id ≡ text
