-- Attributes, and the numbers of their names: a name has the number that is greater by two, since 1 is where nothing is.
use Rattle.std.specs.Prelude.{◌≡◌, ℕ, suc, List, length, map, nat_eq, take}
use Rattle.hnodes.specs.Differing.{names_differ}
use Rattle.hnodes.specs.Forest.{Attribute}
use Rattle.hnodes.specs.Rows.{attribute_of}
use Rattle.names.specs.declared.attr.Attr.{Attr}
use Rattle.hnodes.specs.declared.attributes.Indexed.TheInside.{Inside}

abbrev pub attr_numbers : List Attr → List ℕ
attr_numbers attrs = map (λ a. suc (suc a.name)) attrs

abbrev pub inside_attributes : Inside → List (Attribute ℕ)
inside_attributes x = map attribute_of x.attrs.items

-- the numbers are those of the first attributes
pub record AreNumbered (x : Inside) : Type 0 where
  pub first : x.names ≡ attr_numbers (take (length x.names) x.attrs.items)
  pub differ : x.differ ≡ names_differ nat_eq (inside_attributes x)
