use Rattle.hserialize.proofs.Names.{◌≡◌, ℕ, Bool, true, false, List, [], ◌∷◌, drop, length, refl, ap, sym, or_right, Decides-eqb, ◌||◌, ◌++◌, starts_is, false_from_ne_true, begins_with, has_part, contains_text, HasSubslice}
use Rattle.hserialize.proofs.plain_texts.has_part.Goals as goal

begins : (part t : List ℕ) → begins_with part t ≡ true → t ≡ part ++ drop (length part) t
begins part t = (starts_is Decides-eqb t part (begins_with part t) refl).0

begun : (part t after : List ℕ) → t ≡ part ++ after → begins_with part t ≡ true
begun part t = (starts_is Decides-eqb t part (begins_with part t) refl).1

found : (part t : List ℕ) → has_part part t ≡ true → HasSubslice t part
found part [] h = ([], drop (length part) [], begins part [] h)
found part (b ∷ bs) h = go (found part bs) (begins_with part (b ∷ bs)) refl h where
  go : (has_part part bs ≡ true → HasSubslice bs part) → (u : Bool) → begins_with part (b ∷ bs) ≡ u → (u || has_part part bs) ≡ true
      → HasSubslice (b ∷ bs) part
  go later true e h' = ([], drop (length part) (b ∷ bs), begins part (b ∷ bs) e)
  go later false e h' = let (before, after, is) = later h' in (b ∷ before, after, ap (λ t. b ∷ t) is)

stands : (part t before after : List ℕ) → t ≡ before ++ (part ++ after) → has_part part t ≡ true
stands part [] [] after is = begun part [] after is
stands part (b ∷ bs) [] after is = rw (begun part (b ∷ bs) after is) refl
stands part [] (y ∷ before) after is = absurd cc
stands part (b ∷ bs) (y ∷ before) after is = or_right _ _ (stands part bs before after cc)

-- a test that is true where a part is in a text is whether it does
has-part : (part t : List ℕ) (u : Bool) → (u ≡ true → HasSubslice t part) → (HasSubslice t part → u ≡ true) → u ≡ has_part part t
has-part part t true to from = let (before, after, is) = to refl in let there : has_part part t ≡ true = stands part t before after is in cc
has-part part t false to from = sym (false_from_ne_true (has_part part t) (λ e. let clash = from (found part t e) in cc))

pub returns : goal.returns
returns c = let is = contains_text c.contains.result c.args.part.now c.args.text.now c.contains.ensures.cases in
    has-part c.args.part.now c.args.text.now c.contains.result is.0 is.1
