-- What the characters after `<!` begin (HTML Standard, #markup-declaration-open-state).
use Rattle.std.specs.Prelude.{◌≡◌, ℕ, ◌≤◌, ◌<◌, Bool, true, false, if◌then◌else◌, List, length, codes}
use Rattle.std.specs.Char.{to_ascii_lowercase}
use Rattle.names.specs.declared.placed.Placed.{Placed}
use Rattle.names.specs.Placed.{all, spells, spells_in_any_case}
use Rattle.hmarkup.specs.Comment.{is_plain_in_bogus}
use Rattle.htoken.specs.declared.markup_declaration_open.Opens.{Opens}
use Rattle.htoken.specs.declared.markup_declaration_open.Opens.TheVariants as opens
use Rattle.htoken.specs.Data.{is_cdata, is_declaration}

-- a character as it is compared, where this says so in any case
abbrev pub folded_as : Bool → ℕ → ℕ
folded_as any_case c = if any_case then to_ascii_lowercase c else c

-- a text begins with a word, where this says so in any case
abbrev pub spells_as : Bool → List ℕ → List Placed → Bool
spells_as any_case word text = if any_case then spells_in_any_case word text else spells word text

-- The text after `<!` opens nothing yet: it is shorter than the longest mark, and as a comment it would neither end nor have a fault.
pub record OpensNothing (text : List Placed) : Type 0 where
  pub few : length text < 7
  pub plain : all is_plain_in_bogus text ≡ true
  pub none : is_declaration text ≡ false

-- The text after `<!` opens this (#markup-declaration-open-state), if it opened nothing without its last character.
abbrev pub OpensAs : Opens → List Placed → Type 0
OpensAs opens.Nothing text = (length text < 7) × (spells (codes "--") text ≡ false)
OpensAs opens.Comment text = spells (codes "--") text ≡ true
OpensAs opens.Doctype text = spells_in_any_case (codes "doctype") text ≡ true
OpensAs opens.Cdata text = is_cdata text ≡ true
OpensAs opens.Bogus text = (7 ≤ length text) × (is_declaration text ≡ false)
