-- Where the formatting elements are reconstructed, none is left to be.
use Rattle.hmodes.proofs.Vocabulary.{◌≡◌, ℕ, zero, suc, Bool, true, List, [], ◌∷◌, Option, Some, None, length, refl, ap, ◌∙◌, ◌==◌, ◌||◌, if◌then◌else◌, option_map_or, eq-eqb, Attribute, Place, before, changed_at, is_open, EntryOf, Listed, marker, entry, entry_at, for_node, inserted, numbers, place, stops_going_back, renewed, renewed_each, reconstructed, Goes, SiteOf, stack, OnGoes, goes-then, goes-map, before_text, puts_in, Mode, inserted-goes}
use Rattle.hmodes.specs.declared.mode.Mode.TheVariants as mode
use Rattle.hmodes.proofs.OnePut.{is_reconstructed, puts_now}
use Rattle.hmodes.proofs.Every.{never}

-- a new element leaves foster parenting as it is, and is open then
module _ (s : SiteOf ℕ) where
  abbrev Same : SiteOf ℕ → Type 0
  Same t = t.foster ≡ s.foster

  abbrev Opened : SiteOf ℕ → Type 0
  Opened t = Same t × (is_open s.nodes.made (stack t) ≡ true)

module _ (at : ℕ) (name : ℕ) (attrs : List (Attribute ℕ)) (p : Place) (s : SiteOf ℕ) where
  inserted-opened : OnGoes (Opened s) (inserted at name attrs p s)
  inserted-opened = inserted-goes (Opened s) at name attrs p s
      (refl, ap (λ (b : Bool). b || is_open s.nodes.made (stack s)) (eq-eqb s.nodes.made s.nodes.made refl))

-- a list whose last item is a marker, or an entry whose node is open, has nothing to be renewed
abbrev stops_first : SiteOf ℕ → List (Listed ℕ) → Type 0
stops_first s items = (length (before (stops_going_back s) items) == 0) ≡ true

first-renewed : (t : SiteOf ℕ) (new : ℕ) (items : List (Listed ℕ)) → is_open new (stack t) ≡ true → stops_first t (changed_at 0 (for_node new) items)
first-renewed t new [] there = refl
first-renewed t new (marker ∷ items) there = refl
first-renewed t new (entry e ∷ items) there =
    ap (λ (b : Bool). length (if b then [] else entry (record e { node = new }) ∷ before (stops_going_back t) items) == 0) there

no-entry : (s : SiteOf ℕ) (items : List (Listed ℕ)) → entry_at 0 items ≡ None → stops_first s items
no-entry s [] none = refl
no-entry s (marker ∷ items) none = refl
no-entry s (entry e ∷ items) none = absurd cc

module _ (at : ℕ) where
  abbrev Done : SiteOf ℕ → SiteOf ℕ → Type 0
  Done s t = (t.foster ≡ s.foster) × (is_reconstructed t ≡ true)

  one-same : (back : ℕ) (s : SiteOf ℕ) (o : Option (EntryOf ℕ)) → OnGoes (Same s) (option_map_or (λ e. renewed numbers at back e s) o (Goes s))
  one-same back s None = refl
  one-same back s (Some e) =
      goes-then (Opened s) (Same s) (inserted at e.name e.attrs (place numbers s) s) _ (inserted-opened at e.name e.attrs (place numbers s) s) (λ t g. g.0)

  one-done : (s : SiteOf ℕ) (o : Option (EntryOf ℕ)) → entry_at 0 s.items ≡ o → OnGoes (Done s) (option_map_or (λ e. renewed numbers at 0 e s) o (Goes s))
  one-done s None none = (refl, no-entry s s.items none)
  one-done s (Some e) is =
      goes-then (Opened s) (Done s) (inserted at e.name e.attrs (place numbers s) s) _ (inserted-opened at e.name e.attrs (place numbers s) s) (λ t g.
      (g.0, first-renewed t s.nodes.made t.items g.1))

  each-done : (back : ℕ) (s : SiteOf ℕ) → OnGoes (Done s) (renewed_each numbers at (suc back) s)
  each-done zero s = goes-then (Done s) (Done s) (option_map_or (λ e. renewed numbers at 0 e s) (entry_at 0 s.items) (Goes s)) (renewed_each numbers at 0)
      (one-done s (entry_at 0 s.items) refl) (λ t g. g)
  each-done (suc back) s = goes-then (Same s) (Done s) (option_map_or (λ e. renewed numbers at (suc back) e s) (entry_at (suc back) s.items) (Goes s))
      (renewed_each numbers at (suc back)) (one-same (suc back) s (entry_at (suc back) s.items))
      (λ t g. goes-map (Done t) (Done s) (λ u d. (d.0 ∙ g, d.1)) (renewed_each numbers at (suc back) t) (each-done back t))

  reconstructed-done : (s : SiteOf ℕ) → OnGoes (Done s) (reconstructed numbers at s)
  reconstructed-done s = go (length (before (stops_going_back s) s.items)) refl where
    go : (k : ℕ) → length (before (stops_going_back s) s.items) ≡ k → OnGoes (Done s) (renewed_each numbers at k s)
    go zero is = (refl, ap (λ (n : ℕ). n == 0) is)
    go (suc back) is = each-done back s

  abbrev Begins : Mode → SiteOf ℕ → SiteOf ℕ → Type 0
  Begins m s t = (t.foster ≡ s.foster) × (puts_now m t ≡ true)

  -- so a character is put as it is
  pub text-begins : (m : Mode) (s : SiteOf ℕ) → puts_in m ≡ true → OnGoes (Begins m s) (before_text at m s)
  text-begins mode.Text s h = (refl, refl)
  text-begins mode.InBody s h = reconstructed-done s
  text-begins mode.InCaption s h = reconstructed-done s
  text-begins mode.InCell s h = reconstructed-done s
  text-begins _ s h = never h
