-- When there is an entry of a node, and a bookmark stays in the list.
use Rattle.hopen.proofs.Names.{arith, ◌≡◌, ℕ, true, false, IsTrue, not, eqb, List, [], ◌∷◌, Option, is_some, refl, ◌∙◌, list_any, option_map, not-true, Listed, entry_of, is_entry, has_bookmark, After, without, nat_tests}

module _ {N : Type 0} where
  pub any-is_entry : (n : ℕ) (items : List (Listed N)) → list_any (is_entry n) items ≡ is_some (entry_of n items)
  any-is_entry n [] = refl
  any-is_entry n (i ∷ items) = grind (arith, any-is_entry n items)

  -- the entry of one node stays where that of another is taken from the list
  any-without : (n k : ℕ) → eqb k n ≡ false → (items : List (Listed N)) → list_any (is_entry n) (without (is_entry k) items) ≡ list_any (is_entry n) items
  any-without n k apart [] = refl
  any-without n k apart (i ∷ items) = grind (arith, any-without n k apart items, nat_tests)

  -- a bookmark after the entry of another node stays in the list
  pub has_bookmark-after : (k n : ℕ) (items : List (Listed N)) → not (eqb k n) ≡ true → IsTrue (list_any (is_entry n) items)
      → IsTrue (has_bookmark k (After n) items)
  has_bookmark-after k n items apart there = any-without n k (not-true (eqb k n) apart) items ∙ there

pub is_some-option_map : {X Y : Type 0} (f : X → Y) (o : Option X) → is_some (option_map f o) ≡ is_some o
is_some-option_map f o = grind arith
