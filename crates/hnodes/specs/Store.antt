-- What lies in the store of a tree.
use Rattle.std.specs.Prelude.{◌≡◌, ℕ, ◌+◌, ◌≤◌, ◌++◌, List, length, map, IsUtf8}
use Rattle.std.specs.List.{slice_range, All}
use Rattle.hnodes.specs.Forest.{Attribute}
use Rattle.hnodes.specs.declared.store.Run.{Run}
use Rattle.hnodes.specs.declared.store.Store.{Store}
use Rattle.hnodes.specs.declared.store.StoredAttr.{StoredAttr}

-- what is in a run
abbrev pub run_in : {X : Type 0} → Run → List X → List X
run_in r xs = slice_range xs r.start (r.start + r.len)

-- a run lies inside
abbrev pub IsRun : {X : Type 0} → Run → List X → Type 0
IsRun r xs = r.start + r.len ≤ length xs

-- a run that begins and ends between characters
abbrev pub IsText : Run → List ℕ → Type 0
IsText r bytes = IsRun r bytes × IsUtf8 (run_in r bytes)

-- an attribute whose value is in these texts
abbrev pub stored_attribute : List ℕ → StoredAttr → Attribute ℕ
stored_attribute texts a = (a.name, run_in a.value texts)

-- each value is a text there
pub record AreTexts (texts : List ℕ) (attrs : List StoredAttr) : Type 0 where
  pub each : All (λ a. IsText a.value texts) attrs

abbrev pub attributes_in_run : Run → Store → List (Attribute ℕ)
attributes_in_run r s = map (stored_attribute s.texts) (run_in r s.attrs.items)

-- a run of attributes whose values are there
pub record AreStored (r : Run) (s : Store) : Type 0 where
  pub inside : IsRun r s.attrs.items
  pub values : AreTexts s.texts (run_in r s.attrs.items)

-- what was there is there still, and more may come after it
abbrev pub IsLonger : {X : Type 0} → List X → List X → Type 0
IsLonger {X} xs ys = (more : List X) × (ys ≡ xs ++ more)

pub record IsGrown (old new : Store) : Type 0 where
  pub texts : IsLonger old.texts new.texts
  pub attrs : IsLonger old.attrs.items new.attrs.items

-- these attributes were added at the end
pub record Adds (attrs : List (Attribute ℕ)) (old new : Store) : Type 0 where
  pub more : List StoredAttr
  pub items : new.attrs.items ≡ old.attrs.items ++ more
  pub values : AreTexts new.texts more
  pub same : map (stored_attribute new.texts) more ≡ attrs
