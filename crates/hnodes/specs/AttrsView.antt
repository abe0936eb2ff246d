-- Attributes as their tree lends them.
use Rattle.std.specs.Prelude.{ℕ, List, map}
use Rattle.hnodes.specs.Forest.{Attribute}
use Rattle.hnodes.specs.Rows.{attribute_of}
use Rattle.hnodes.specs.Store.{stored_attribute, AreTexts}
use Rattle.hnodes.specs.declared.attrs_view.Lent.{Lent}
use Rattle.hnodes.specs.declared.attrs_view.Lent.TheVariants.{Stored, Listed}

abbrev pub lent_attributes : Lent → List (Attribute ℕ)
lent_attributes (Stored attrs texts) = map (stored_attribute texts.now) attrs.now
lent_attributes (Listed attrs) = map attribute_of attrs.now

abbrev pub AreLent : Lent → Type 0
AreLent (Stored attrs texts) = AreTexts texts.now attrs.now
AreLent (Listed attrs) = Unit {0}
