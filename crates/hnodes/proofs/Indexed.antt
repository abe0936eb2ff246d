-- The names of attributes: where one is, and whether they differ.
use Rattle.hnodes.proofs.Names.{◌≡◌, ℕ, zero, suc, ◌-◌, ◌<◌, ◌≤◌, Bool, true, cond, ltb, nat_eq, List, [], ◌∷◌, length, length-drop, map, take, drop, refl, sym, ◌∙◌, ap, arith, lt-ltb, map-append, take_all, list_any-append, list_any, Attr, Attribute, attr_numbers, attribute_of, ◌+◌, false, not, eqb, ◌++◌, get_or, subst, Vec, Global, IsTrue, names_differ, names_of, nat_tests, ◌==◌, ◌||◌, ◌↔◌, eqb-suc-suc, le-ltb, and_parts, not-true, false_from_ne_true, false≢true, ltb-true, length-map, length-take, take-append-drop, take-append-le, last_up, IsPermutation-sym, IsDistinct-IsPermutation, IsDistinct-cons, IsDistinct-head, IsDistinct-tail, IsDistinct-from_sorted, IsStrictlyIncreasing-from_distinct, sorted_from_strictly_increasing, unsigned_tied, AllByRecursion, IsAllAdjacentAnswer, IsDistinct, IsNonDecreasing, IsPermutation, IsStrictlyIncreasing, nat_cmp, ◌&&◌, AreNumbered, inside_attributes}
use Rattle.hnodes.specs.declared.attributes.Indexed.TheInside.{Inside}
use Rattle.std.specs.Prelude.{◌||◌, ltb}

module _ (s : ℕ → Bool) where
  -- where it is with a number more at the front, which is sought or not
  abbrev up : Bool → ℕ → ℕ
  up v zero = cond v 1 0
  up v (suc n) = suc (suc n)

  up-front : (x : ℕ) (xs : List ℕ) (k : ℕ) → last_up s (x ∷ xs) (suc k) ≡ up (s x) (last_up s xs k)
  up-front x xs zero = refl
  up-front x xs (suc k) = grind (arith, up-front x xs k)

  last-any : (xs : List ℕ) → ltb 0 (last_up s xs (length xs)) ≡ list_any s xs
  last-any [] = refl
  last-any (x ∷ xs) = ap (ltb 0) (up-front x xs (length xs)) ∙ go (s x) (last_up s xs (length xs)) (last-any xs) where
    go : (v : Bool) (n : ℕ) → ltb 0 n ≡ list_any s xs → ltb 0 (up v n) ≡ (v || list_any s xs)
    go v n e = grind (arith, nat_tests)

any-named : (name : ℕ) (attrs : List Attr) → list_any (λ k. k == suc (suc name)) (attr_numbers attrs) ≡ list_any (λ a. nat_eq a.0 name) (map attribute_of attrs)
any-named name [] = refl
any-named name (a ∷ attrs) = λ i. (eqb-suc-suc (suc a.name) (suc name) ∙ eqb-suc-suc a.name name) i || any-named name attrs i

-- a search of the attributes
pub named-is : (names : List ℕ) (attrs : List Attr) (number name : ℕ) → names ≡ attr_numbers attrs → number ≡ suc (suc name)
    → ltb 0 (last_up (λ k. k == number) names (length names)) ≡ list_any (λ a. nat_eq a.0 name) (map attribute_of attrs)
named-is names attrs number name same is =
    (λ i. ltb 0 (last_up (λ k. k == is i) (same i) (length (same i)))) ∙ last-any (λ k. k == suc (suc name)) (attr_numbers attrs) ∙ any-named name attrs

-- no more are indexed than there are
pub within : (names : List ℕ) (attrs : List Attr) → names ≡ attr_numbers (take (length names) attrs) → length names ≤ length attrs
within names attrs first = omega
    (arith, ap length first, length-map (take (length names) attrs) (λ (a : Attr). suc (suc a.name)), length-take (length names) attrs)

-- an attribute of a name is among the first or the rest
found-is : (names : List ℕ) (attrs : List Attr) (number name : ℕ) → names ≡ attr_numbers (take (length names) attrs) → number ≡ suc (suc name)
    → (ltb 0 (last_up (λ k. k == number) names (length names))
    || list_any (λ a. nat_eq a.0 name) (map attribute_of (take (length attrs - length names) (drop (length names) attrs))))
    ≡ list_any (λ a. nat_eq a.0 name) (map attribute_of attrs)
found-is names attrs number name first is =
    let all = take_all (length attrs - length names) (drop (length names) attrs) (omega (arith, length-drop (length names) attrs)) in
    let front = named-is names (take (length names) attrs) number name first is in
    let both = list_any-append (λ (a : Attribute ℕ). nat_eq a.0 name) (map attribute_of (take (length names) attrs))
    (map attribute_of (drop (length names) attrs)) in
    let whole = map-append attribute_of (take (length names) attrs) (drop (length names) attrs) in
    rw (all, front, ← both, ← whole, take-append-drop (length names) attrs) refl

pub found_first : (names : List ℕ) (attrs : List Attr) (number name last : ℕ) → names ≡ attr_numbers (take (length names) attrs) → number ≡ suc (suc name)
    → last ≡ last_up (λ k. k == number) names (length names) → 0 < last → ltb 0 last ≡ list_any (λ a. nat_eq a.0 name) (map attribute_of attrs)
found_first names attrs number name last first is at some = let yes : ltb 0 last ≡ true = lt-ltb 0 last some in
    yes ∙ (λ i.
    (sym yes ∙ ap (ltb 0) at) i || list_any (λ a. nat_eq a.0 name) (map attribute_of (take (length attrs - length names) (drop (length names) attrs))))
    ∙ found-is names attrs number name first is

pub found_rest : (names : List ℕ) (attrs lent : List Attr) (number name last len : ℕ) (u : Bool) → names ≡ attr_numbers (take (length names) attrs)
    → number ≡ suc (suc name) → last ≡ last_up (λ k. k == number) names (length names) → last ≤ 0 → lent ≡ attrs → len ≡ length names
    → u ≡ list_any (λ a. nat_eq a.0 name) (map attribute_of (take (length lent - len) (drop len lent)))
    → u ≡ list_any (λ a. nat_eq a.0 name) (map attribute_of attrs)
found_rest names attrs lent number name last len u first is at none same long test =
    test ∙ (λ i. list_any (λ a. nat_eq a.0 name) (map attribute_of (take (length (same i) - long i) (drop (long i) (same i)))))
    ∙ ap (λ v. v || list_any (λ a. nat_eq a.0 name) (map attribute_of (take (length attrs - length names) (drop (length names) attrs))))
    (sym (le-ltb 0 last none) ∙ ap (ltb 0) at) ∙ found-is names attrs number name first is

-- Attributes whose names differ, and their names in ascending order.

flips : (x y : ℕ) → nat_eq x y ≡ nat_eq y x
flips x y = grind arith

-- an attribute more at the end
pub differ-last : (attrs : List (Attribute ℕ)) (a : Attribute ℕ)
    → names_differ nat_eq (attrs ++ a ∷ []) ≡ (names_differ nat_eq attrs && not (list_any (λ b. nat_eq b.0 a.0) attrs))
differ-last [] a = refl
differ-last (x ∷ xs) a = grind (arith, differ-last xs a, flips a.0 x.0, list_any-append (λ b. nat_eq b.0 x.0) xs (a ∷ []))

-- numbers that rise differ
risen : (names : List ℕ) → IsStrictlyIncreasing names → IsDistinct eqb names
risen names up = subst (λ (e : ℕ → ℕ → Bool). IsDistinct e names) (λ i x y. unsigned_tied x y i)
    (IsDistinct-from_sorted nat_cmp names (sorted_from_strictly_increasing names up))

-- whether the name of an attribute is one of these
abbrev among : (n : ℕ) (attrs : List (Attribute ℕ)) → Bool
among n attrs = list_any (λ b. nat_eq b.0 n) attrs

others : (n : ℕ) (attrs : List (Attribute ℕ)) → among n attrs ≡ false → AllByRecursion (λ m. eqb n m ≡ false) (names_of attrs)
others n [] h = tt
others n (a ∷ attrs) h = grind (arith, others n attrs)

no-other : (n : ℕ) (attrs : List (Attribute ℕ)) → AllByRecursion (λ m. eqb n m ≡ false) (names_of attrs) → among n attrs ≡ false
no-other n [] h = refl
no-other n (a ∷ attrs) h = grind (arith, no-other n attrs, flips a.0 n)

distinct : (attrs : List (Attribute ℕ)) → names_differ nat_eq attrs ≡ true → IsDistinct eqb (names_of attrs)
distinct [] h = risen [] (λ k p. absurd (omega (arith, p)))
distinct (a ∷ attrs) h = let parts = and_parts (not (among a.0 attrs)) (names_differ nat_eq attrs) h in
    IsDistinct-cons eqb a.0 (names_of attrs) (others a.0 attrs (not-true (among a.0 attrs) parts.0)) (distinct attrs parts.1)

differing : (attrs : List (Attribute ℕ)) → IsDistinct eqb (names_of attrs) → names_differ nat_eq attrs ≡ true
differing [] h = refl
differing (a ∷ attrs) h =
    λ i. not (no-other a.0 attrs (IsDistinct-head eqb a.0 (names_of attrs) h) i) && differing attrs (IsDistinct-tail eqb a.0 (names_of attrs) h) i

-- whether each number is less than the next
pub rising : (xs : List ℕ) (r : Bool) → IsAllAdjacentAnswer (λ x y b. b ≡ ltb x y) xs r → IsTrue r ↔ IsStrictlyIncreasing xs
rising xs true h = ((λ _ k p. ltb-true (get_or xs k 0) (get_or xs (k + 1) 0) (sym (h k 0 p))), λ _. refl)
rising xs false h = (
  (λ (no : false ≡ true). absurd cc),
  λ up. absurd (let yes : ltb (get_or xs h.0 0) (get_or xs (h.0 + 1) 0) ≡ true = lt-ltb _ _ (up h.0 h.1) in let both : false ≡ true = h.2 0 ∙ yes in cc),
)

-- names differ if they rise where they are in ascending order
pub differ-is : (attrs : List (Attribute ℕ)) (names : List ℕ) (r : Bool) → IsPermutation (names_of attrs) names → IsNonDecreasing names
    → IsTrue r ↔ IsStrictlyIncreasing names → r ≡ names_differ nat_eq attrs
differ-is attrs names true p up h =
    sym (differing attrs (IsDistinct-IsPermutation eqb flips names (names_of attrs) (IsPermutation-sym _ _ p) (risen names (h.0 refl))))
differ-is attrs names false p up h = sym (false_from_ne_true _
    (λ e. false≢true (h.1 (IsStrictlyIncreasing-from_distinct names up (IsDistinct-IsPermutation eqb flips (names_of attrs) names p (distinct attrs e))))))

-- an attribute more, which the index does not have yet
pub pushed : (x : Inside) (old : List (Attribute ℕ)) (new : Vec Attr Global) (a : Attr) (u : Bool) → AreNumbered x → inside_attributes x ≡ old
    → new.items ≡ x.attrs.items ++ a ∷ [] → u ≡ (names_differ nat_eq old && not (list_any (λ b. nat_eq b.0 a.name) old))
    → AreNumbered (record x { attrs = new; differ = u })
pushed x old new a u h view is test = record {
  first = h.first ∙ ap attr_numbers
      (sym (take-append-le (length x.names) x.attrs.items (a ∷ []) (within x.names x.attrs.items h.first)) ∙ ap (take (length x.names)) (sym is));
  differ = test ∙ sym (differ-last old (attribute_of a)) ∙ ap (names_differ nat_eq)
      (ap (λ l. l ++ attribute_of a ∷ []) (sym view) ∙ sym (map-append attribute_of x.attrs.items (a ∷ [])) ∙ ap (map attribute_of) (sym is));
}
