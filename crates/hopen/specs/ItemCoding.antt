-- Items as values of a stored kind.
use Rattle.std.specs.Prelude.{◌≡◌, ℕ, List, Option, Some, None, refl}
use Rattle.std.specs.Coded.{Coded, code_by, coded×, coded_ℕ, coded_list, coded_option}
use Rattle.hnodes.specs.Forest.{Attribute}
use Rattle.hopen.specs.Formatting.{Listed, marker, entry}

abbrev pub ItemParts : Type 0
ItemParts = ℕ × (ℕ × List (Attribute ℕ))

abbrev pub coded_parts : Coded ItemParts
coded_parts = coded× coded_ℕ (coded× coded_ℕ (coded_list (coded× coded_ℕ (coded_list coded_ℕ))))

abbrev pub item_parts : Listed ℕ → Option ItemParts
item_parts marker = None
item_parts (entry e) = Some (e.node, (e.name, e.attrs))

abbrev pub from_parts : Option ItemParts → Listed ℕ
from_parts None = marker
from_parts (Some p) = entry (record { node = p.0; name = p.1.0; attrs = p.1.1 })

pub parts_back : (i : Listed ℕ) → from_parts (item_parts i) ≡ i
parts_back marker = refl
parts_back (entry e) = refl

abbrev pub coded_items : Coded (List (Listed ℕ))
coded_items = coded_list (code_by (Option ItemParts) (coded_option coded_parts) item_parts from_parts parts_back)
