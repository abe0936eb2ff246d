-- Attributes that are stored once.
use Rattle.std.specs.Prelude.{◌≡◌, ℕ, List, [], ◌∷◌, Option, Some, IfSome, map, nat_eq, true}
use Rattle.std.specs.Rc.{rc_value}
use Rattle.std.specs.Option.{option_map_or}
use Rattle.hnodes.specs.Clean.{are_clean}
use Rattle.hnodes.specs.Differing.{names_differ, names_end}
use Rattle.hnodes.specs.Forest.{Attribute}
use Rattle.hnodes.specs.Rows.{attribute_of}
use Rattle.hnodes.specs.declared.shared.Attributes.TheInside.{Inside as Handle}
use Rattle.hnodes.specs.declared.shared.Found.{Found}
use Rattle.hnodes.specs.declared.shared.Held.{Held}
use Rattle.hnodes.specs.declared.shared.Held.TheVariants.{One, Others}

-- what is found of attributes, if there are any, is so
pub record IsFound (found : Found) (attrs : Option (List (Attribute ℕ))) : Type 0 where
  pub differ : found.differ ≡ option_map_or (names_differ nat_eq) attrs true
  pub clean : found.clean ≡ option_map_or are_clean attrs true
  pub names_end : found.names_end ≡ option_map_or names_end attrs 0

abbrev pub listed_in : Held → List (Attribute ℕ)
listed_in (One attr) = attribute_of attr ∷ []
listed_in (Others attrs found) = map attribute_of attrs.items

abbrev pub IsListed : Held → Type 0
IsListed (One attr) = Unit {0}
IsListed (Others attrs found) = IfSome found (λ found. IsFound found.value (Some (map attribute_of attrs.items)))

abbrev pub shared_in : Handle → List (Attribute ℕ)
shared_in x = option_map_or (λ list. rc_value list) x.list []
