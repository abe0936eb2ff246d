-- What a start tag "html" does to the attributes of an element (#parsing-main-inbody): "for each attribute on the token, check to see if the
-- attribute is already present on the element. If it is not, add the attribute and its corresponding value to that element."
use Rattle.std.specs.Prelude.{ℕ, Bool, false, List, Option, if◌then◌else◌}
use Rattle.std.specs.List.{list_any}
use Rattle.std.specs.Option.{option_map_or}
use Rattle.hnodes.specs.Forest.{Attribute, Forest}
use Rattle.hnodes.specs.Spots.{attributes_of}
use Rattle.hnodes.specs.Edits.{add_attribute}

module _ {N : Type 0} (same : N → N → Bool) where
  -- whether an attribute of a name is already present on the element
  abbrev pub is_present : N → Option (List (Attribute N)) → Bool
  is_present name attrs = option_map_or (list_any (λ a. same a.0 name)) attrs false

  -- an attribute of a node where it is not
  abbrev pub add_missing : ℕ → Attribute N → Forest N → Forest N
  add_missing n a f = if is_present a.0 (attributes_of n f) then f else add_attribute n a f
