-- Searches that go up the open nodes, in the words of the code.
use Rattle.hopen.proofs.Names.{◌≡◌, ℕ, suc, ◌-◌, ◌+◌, inl, inr, Bool, true, false, List, [], ◌∷◌, ◌++◌, Option, Some, None, length, drop, take, map, reverse, refl, sym, ◌∙◌, ap, arith, cases_lt, nat_eq, nat_tests, zero-add, position, find, list_all, list_all-append, option_or, words, no_words, reverse-append, OpenNode, current, topmost_special, furthest_block, is_node, Tag, is_special, may_stay_open, before, after, take_nearest, drop_nearest, tag_of, somes, slots_of, stack_of, holds_one, opened_by, closing, kept_kind, sum_by, sum_by-cons, last_place, KeptNode, LastLevels, LevelsStand, position-none, ◌&&◌, if◌then◌else◌}
use Rattle.hopen.specs.declared.kept.Kind.TheVariants as kind
use Rattle.hopen.proofs.OpenLevels.{placed}
use Rattle.hopen.proofs.Somes.{after-somes, before-somes, reverse-somes}

-- all of a list pass from either end
all-reverse : {X : Type 0} (p : X → Bool) (xs : List X) → list_all p (reverse xs) ≡ list_all p xs
all-reverse p [] = refl
all-reverse p (x ∷ xs) = ap (list_all p) (reverse-append (x ∷ []) xs) ∙ list_all-append p (reverse xs) (x ∷ []) ∙ rw (all-reverse p xs) (grind arith)

module _ {N : Type 0} where
  -- the topmost of many is in the upper part where there is one
  topmost-append : (tag : N → Tag) (xs ys : List (OpenNode N)) → topmost_special tag (xs ++ ys) ≡ option_or (topmost_special tag ys) (topmost_special tag xs)
  topmost-append tag [] ys = grind arith
  topmost-append tag (x ∷ xs) ys = grind (arith, topmost-append tag xs ys)

  pub topmost-reverse : (tag : N → Tag) (xs : List (OpenNode N)) → topmost_special tag (reverse xs) ≡ find (λ x. is_special (tag x.name)) xs
  topmost-reverse tag [] = refl
  topmost-reverse tag (x ∷ xs) =
      ap (topmost_special tag) (reverse-append (x ∷ []) xs) ∙ topmost-append tag (reverse xs) (x ∷ []) ∙ rw (topmost-reverse tag xs) (grind arith)

-- the slots of a vector, by the level of the nearest node that is sought
module _ (q : OpenNode ℕ → Bool) (items : List KeptNode) (level : ℕ) (at : level ≡ last_place (holds_one q) (slots_of items)) where
  abbrev pub s : Option (OpenNode ℕ) → Bool
  s = holds_one q

  absent : level ≡ 0 → position s (slots_of items) ≡ None
  absent none = position-none s (slots_of items) (sym at ∙ none)

  -- the slots from the level on are those below it, or all of them where none is open
  slots-below : reverse (map opened_by (drop level items)) ≡ before s (slots_of items)
  slots-below = elim (cases_lt 0 level) [
    | inl some ↦ let p = placed q items level at some in let sum : level + p.up ≡ length items = omega (arith, p.sum) in
        sym ((words s (slots_of items) p.up p.position_is).before_is ∙ take_nearest opened_by items level p.up sum)
    | inr none ↦ let zero_level : level ≡ 0 = omega arith in rw zero_level (sym (no_words s (slots_of items) (absent zero_level)).before_is)
  ]

  -- those up to the one before the level are those above it
  slots-above : slots_of (take (level - 1) items) ≡ after s (slots_of items)
  slots-above = elim (cases_lt 0 level) [
    | inl some ↦ let p = placed q items level at some in
        sym ((words s (slots_of items) p.up p.position_is).after_is ∙ drop_nearest opened_by items (level - 1) (suc p.up) p.sum)
    | inr none ↦ let zero_level : level ≡ 0 = omega arith in rw zero_level (sym (no_words s (slots_of items) (absent zero_level)).after_is)
  ]

  pub above-level : stack_of (take (level - 1) items) ≡ after q (stack_of items)
  above-level = ap somes slots-above ∙ after-somes q (slots_of items)

-- the nearest that is sought, but for the last member
module _ {X : Type 0} (q : X → Bool) where
  last-sought : (xs : List X) → after q xs ≡ [] → find q (take (length xs - 1) xs) ≡ None
  last-sought [] e = refl
  last-sought (x ∷ []) e = refl
  last-sought (x ∷ y ∷ ys) e =
      let n : suc (suc (length ys)) - 1 ≡ suc (length ys) = omega arith in let m : suc (length ys) - 1 ≡ length ys = omega arith in
      ap (λ k. find q (take k (x ∷ y ∷ ys))) n ∙ go e (λ f. ap (λ k. find q (take k (y ∷ ys))) (sym m) ∙ last-sought (y ∷ ys) f)
    where
      go : after q (x ∷ y ∷ ys) ≡ [] → (after q (y ∷ ys) ≡ [] → find q (take (length ys) (y ∷ ys)) ≡ None) → find q (x ∷ take (length ys) (y ∷ ys)) ≡ None
      go e f = grind arith

  before-last : (xs : List X) (z : X) (zs : List X) → after q xs ≡ z ∷ zs → find q (take (length xs - 1) xs) ≡ find q xs
  before-last [] z zs e = refl
  before-last (x ∷ []) z zs e = grind arith
  before-last (x ∷ y ∷ ys) z zs e =
      let n : suc (suc (length ys)) - 1 ≡ suc (length ys) = omega arith in let m : suc (length ys) - 1 ≡ length ys = omega arith in
      ap (λ k. find q (take k (x ∷ y ∷ ys))) n ∙ go e (λ f. ap (λ k. find q (take k (y ∷ ys))) (sym m) ∙ before-last (y ∷ ys) z zs f)
    where
      go : after q (x ∷ y ∷ ys) ≡ z ∷ zs → (after q (y ∷ ys) ≡ z ∷ zs → find q (take (length ys) (y ∷ ys)) ≡ find q (y ∷ ys))
          → find q (x ∷ take (length ys) (y ∷ ys)) ≡ find q (x ∷ y ∷ ys)
      go e f = grind arith

-- where nothing is above the nearest, or where something is
module _ (q : OpenNode ℕ → Bool) (items : List KeptNode) (level : ℕ) (at : level ≡ last_place (holds_one q) (slots_of items)) where
  pub topmost-found : current (stack_of (take (level - 1) items)) ≡ None → find q (take (length (stack_of items) - 1) (stack_of items)) ≡ None
  topmost-found e = go (stack_of (take (level - 1) items)) (above-level q items level at) e where
    go : (xs : List (OpenNode ℕ)) → xs ≡ after q (stack_of items) → current xs ≡ None → find q (take (length (stack_of items) - 1) (stack_of items)) ≡ None
    go [] is e = last-sought q (stack_of items) (sym is)
    go (x ∷ xs) is e = absurd (grind arith)

  pub below-found : (x : OpenNode ℕ) → current (stack_of (take (level - 1) items)) ≡ Some x
      → find q (take (length (stack_of items) - 1) (stack_of items)) ≡ find q (stack_of items)
  below-found x e = go (stack_of (take (level - 1) items)) (above-level q items level at) e where
    go : (xs : List (OpenNode ℕ)) → xs ≡ after q (stack_of items) → current xs ≡ Some x
        → find q (take (length (stack_of items) - 1) (stack_of items)) ≡ find q (stack_of items)
    go [] is e = absurd (grind arith)
    go (y ∷ ys) is e = before-last q (stack_of items) y ys (sym is)

-- the special nodes below one, from the topmost on
pub furthest-level : (n : ℕ) (items : List KeptNode) (level : ℕ) → level ≡ last_place (holds_one (is_node n)) (slots_of items)
    → find (λ x. is_special (tag_of x.name)) (somes (map opened_by (drop level items))) ≡ furthest_block tag_of n (stack_of items)
furthest-level n items level at = sym (topmost-reverse tag_of (somes (map opened_by (drop level items)))) ∙ ap (topmost_special tag_of)
    (sym (reverse-somes (map opened_by (drop level items))) ∙ ap somes (slots-below (is_node n) items level at) ∙ before-somes (is_node n) (slots_of items))

-- none must be closed where all may stay
closing-all : (ys : List (Option (OpenNode ℕ))) → nat_eq (sum_by closing (map kept_kind ys)) 0 ≡ list_all (λ x. may_stay_open (tag_of x.name)) (somes ys)
closing-all [] = refl
closing-all (None ∷ ys) = closing-all ys
closing-all (Some y ∷ ys) =
    ap (λ k. nat_eq k 0) (sum_by-cons closing (kept_kind (Some y)) (map kept_kind ys)) ∙ go (may_stay_open (tag_of y.name)) (closing-all ys)
  where
    go : (v : Bool) → nat_eq (sum_by closing (map kept_kind ys)) 0 ≡ list_all (λ x. may_stay_open (tag_of x.name)) (somes ys)
        → nat_eq (closing (if v then kind.MayStay else kind.MustClose) + sum_by closing (map kept_kind ys)) 0
        ≡ (v && list_all (λ x. may_stay_open (tag_of x.name)) (somes ys))
    go true rest = ap (λ k. nat_eq k 0) (zero-add (sum_by closing (map kept_kind ys))) ∙ rest
    go false rest = grind (arith, nat_tests)

pub all-stay : (last : LastLevels) (items : List KeptNode) → LevelsStand last items
    → nat_eq last.must_close 0 ≡ list_all (λ x. may_stay_open (tag_of x.name)) (stack_of items)
all-stay last items s = let p : OpenNode ℕ → Bool = λ x. may_stay_open (tag_of x.name) in let ys = map opened_by items in
    ap (λ k. nat_eq k 0) (s.closes ∙ ap (sum_by closing) s.kinds) ∙ closing-all ys ∙ sym (ap (list_all p) (reverse-somes ys) ∙ all-reverse p (somes ys))
