-- What the slots of a stack hold, and the words on lists.
use Rattle.hopen.proofs.Names.{◌≡◌, ◌≢◌, suc, ◌≤◌, Bool, ◌&&◌, leb, ltb, List, [], ◌∷◌, ◌++◌, Option, Some, None, length, reverse, refl, sym, ◌∙◌, ap, arith, nat_tests, last_place, last_place-le, list_any, find, reverse-append, append-nil, before, after, without, changed, item_put_before, somes, holds_one, OpenNode, in_scope}

module _ {X : Type 0} where
  pub length-somes : (zs : List (Option X)) → length (somes zs) ≤ length zs
  length-somes [] = omega arith
  length-somes (z ∷ zs) = grind (arith, length-somes zs)

  pub somes-append : (xs ys : List (Option X)) → somes (xs ++ ys) ≡ somes xs ++ somes ys
  somes-append [] ys = refl
  somes-append (z ∷ xs) ys = grind (arith, somes-append xs ys)

  pub reverse-somes : (zs : List (Option X)) → somes (reverse zs) ≡ reverse (somes zs)
  reverse-somes [] = refl
  reverse-somes (None ∷ zs) =
      ap somes (reverse-append (None ∷ []) zs) ∙ somes-append (reverse zs) (None ∷ []) ∙ append-nil (somes (reverse zs)) ∙ reverse-somes zs
  reverse-somes (Some x ∷ zs) = ap somes (reverse-append (Some x ∷ []) zs) ∙ somes-append (reverse zs) (Some x ∷ []) ∙ ap (λ l. l ++ x ∷ []) (reverse-somes zs)
      ∙ sym (reverse-append (x ∷ []) (somes zs))

  -- a node for each slot leaves no hole
  pub no-hole : (zs : List (Option X)) (z : Option X) → length (somes (z ∷ zs)) ≡ suc (length zs) → z ≢ None
  no-hole zs None h e = absurd (omega (arith, length-somes zs))
  no-hole zs (Some x) h e = absurd (grind arith)

  module _ (s : X → Bool) where
    pub after-somes : (zs : List (Option X)) → somes (after (holds_one s) zs) ≡ after s (somes zs)
    after-somes [] = refl
    after-somes (z ∷ zs) = grind (arith, after-somes zs)

    pub before-somes : (zs : List (Option X)) → somes (before (holds_one s) zs) ≡ before s (somes zs)
    before-somes [] = refl
    before-somes (z ∷ zs) = grind (arith, before-somes zs)

    pub left-somes : (zs : List (Option X)) → somes (changed (holds_one s) (λ _. None) zs) ≡ without s (somes zs)
    left-somes [] = refl
    left-somes (z ∷ zs) = grind (arith, left-somes zs)

    pub changed-somes : (y : X) (zs : List (Option X)) → somes (changed (holds_one s) (λ _. Some y) zs) ≡ changed s (λ _. y) (somes zs)
    changed-somes y [] = refl
    changed-somes y (z ∷ zs) = grind (arith, changed-somes y zs)

    pub put-somes : (y : X) (zs : List (Option X)) → somes (item_put_before (holds_one s) (Some y) zs) ≡ item_put_before s y (somes zs)
    put-somes y [] = refl
    put-somes y (z ∷ zs) = grind (arith, put-somes y zs)

    pub find-somes : (zs : List (Option X)) (x : X) → find (holds_one s) zs ≡ Some (Some x) → find s (somes zs) ≡ Some x
    find-somes [] x e = grind arith
    find-somes (z ∷ zs) x e = grind (arith, find-somes zs x)

    pub none-somes : (zs : List (Option X)) → find (holds_one s) zs ≡ None → find s (somes zs) ≡ None
    none-somes [] e = refl
    none-somes (z ∷ zs) e = grind (arith, none-somes zs)

    -- one is somewhere where it has an ordinal
    pub any-somes : (zs : List (Option X)) → ltb 0 (last_place (holds_one s) zs) ≡ list_any s (somes zs)
    any-somes [] = refl
    any-somes (z ∷ zs) = grind (arith, any-somes zs, nat_tests)

-- one that is sought is in scope where no stop is nearer
pub in_scope-levels : {N : Type 0} (stops sought : OpenNode N → Bool) (zs : List (Option (OpenNode N)))
    → in_scope stops sought (somes zs) ≡ (ltb 0 (last_place (holds_one sought) zs) && leb (last_place (holds_one stops) zs) (last_place (holds_one sought) zs))
in_scope-levels stops sought [] = refl
in_scope-levels stops sought (z ∷ zs) = grind (arith, in_scope-levels stops sought zs, last_place-le, nat_tests)
