-- A list is in order in one way, where what ties is one element: that of inserting each element in turn.
use Rattle.hserialize.proofs.Names.{◌≡◌, ℕ, ◌+◌, ◌<◌, ◌≤◌, Bool, false, cond, List, [], ◌∷◌, length, get_or, zero, suc, subst, refl, sym, ◌∙◌, ap, arith, nat_tests, AllByRecursion, All, IsPermutation, IsStrictWeakOrder, IsTotalOrder, cond_both, IsSortedBy, recursion_from_All, All-permutation, sum_by-IsPermutation, sorted_far, IsPermutation-refl, IsPermutation-trans, IsPermutation-insert, sum_by-cons, sum_by, is_lt, ordering_reverse, Ordering, Equal, IsPermutation-cons}

neither : (o : Ordering) → is_lt o ≡ false → is_lt (ordering_reverse o) ≡ false → o ≡ Equal
neither o p q = grind arith

-- of two elements neither of which is less, each is equal to the other
pub tied_equal : {X : Type 0} (cmp : X → X → Ordering) → IsTotalOrder cmp → (x y : X) → is_lt (cmp x y) ≡ false → is_lt (cmp y x) ≡ false → cmp x y ≡ Equal
tied_equal cmp total x y p q = neither (cmp x y) p (ap is_lt (sym (total.antisymm y x)) ∙ q)

module _ {X : Type 0} (lt : X → X → Bool) where
  -- an element goes before the first that is not less
  abbrev pub put : X → List X → List X
  put a [] = a ∷ []
  put a (b ∷ xs) = cond (lt b a) (b ∷ put a xs) (a ∷ b ∷ xs)

  abbrev pub inserted : List X → List X
  inserted [] = []
  inserted (a ∷ xs) = put a (inserted xs)

  put_all : (P : X → Type 0) (a : X) (xs : List X) → P a → AllByRecursion P xs → AllByRecursion P (put a xs)
  put_all P a [] p h = (p, tt)
  put_all P a (b ∷ xs) p h = cond_both (lt b a) (b ∷ put a xs) (a ∷ b ∷ xs) (AllByRecursion P) (λ _. (h.0, put_all P a xs p h.1)) (λ _. (p, h))

  pub inserted_all : (P : X → Type 0) (xs : List X) → AllByRecursion P xs → AllByRecursion P (inserted xs)
  inserted_all P [] h = tt
  inserted_all P (a ∷ xs) h = put_all P a (inserted xs) h.0 (inserted_all P xs h.1)

  -- none of the list is less
  abbrev Above : X → List X → Type 0
  Above x xs = AllByRecursion (λ y. lt y x ≡ false) xs

  abbrev Up : List X → Type 0
  Up [] = Unit {0}
  Up (x ∷ xs) = Above x xs × Up xs

  put-permutes : (a : X) (xs : List X) → IsPermutation (a ∷ xs) (put a xs)
  put-permutes a [] = IsPermutation-refl (a ∷ [])
  put-permutes a (b ∷ xs) =
      cond_both (lt b a) (b ∷ put a xs) (a ∷ b ∷ xs) (IsPermutation (a ∷ b ∷ xs)) (λ _. IsPermutation-trans (a ∷ b ∷ xs) (b ∷ a ∷ xs) (b ∷ put a xs)
      (IsPermutation-insert (b ∷ xs) 1 a) (IsPermutation-cons b (a ∷ xs) (put a xs) (put-permutes a xs))) (λ _. IsPermutation-refl (a ∷ b ∷ xs))

  pub inserted-permutes : (xs : List X) → IsPermutation xs (inserted xs)
  inserted-permutes [] = IsPermutation-refl []
  inserted-permutes (a ∷ xs) = IsPermutation-trans (a ∷ xs) (a ∷ inserted xs) (put a (inserted xs))
      (IsPermutation-cons a xs (inserted xs) (inserted-permutes xs)) (put-permutes a (inserted xs))

  -- how many of a list are less than this one
  abbrev count : X → X → ℕ
  count x y = cond (lt y x) 1 0

  none-counted : (x : X) (ys : List X) → Above x ys → sum_by (count x) ys ≡ 0
  none-counted x [] h = refl
  none-counted x (y ∷ ys) h = omega (arith, sum_by-cons (count x) y ys, ap {B = ℕ} (λ (b : Bool). cond b 1 0) h.0, none-counted x ys h.1)

  first-after : (x y : X) (ys : List X) → sum_by (count x) (y ∷ ys) ≡ 0 → lt y x ≡ false
  first-after x y ys none = let sum = sum_by-cons (count x) y ys in grind (arith, nat_tests)

  module _ (o : IsStrictWeakOrder lt) where
    irreflexive : (x : X) → lt x x ≡ false
    irreflexive x = grind (arith, o.one_way x x)

    above-chain : (a b : X) (xs : List X) → lt b a ≡ false → Above b xs → Above a xs
    above-chain a b [] p h = tt
    above-chain a b (x ∷ xs) p h = (o.chain x b a h.0 p, above-chain a b xs p h.1)

    put-up : (a : X) (xs : List X) → Up xs → Up (put a xs)
    put-up a [] h = (tt, tt)
    put-up a (b ∷ xs) h = cond_both (lt b a) (b ∷ put a xs) (a ∷ b ∷ xs) Up (λ e. (put_all _ a xs (o.one_way b a e) h.0, put-up a xs h.1)) (λ e.
        ((e, above-chain a b xs e h.0), h))

    inserted-up : (xs : List X) → Up (inserted xs)
    inserted-up [] = tt
    inserted-up (a ∷ xs) = put-up a (inserted xs) (inserted-up xs)

    rises : (xs : List X) → Up xs → (k : ℕ) (d : X) → suc k < length xs → lt (get_or xs (suc k) d) (get_or xs k d) ≡ false
    rises [] h k d within = absurd (omega (arith, within))
    rises (x ∷ []) h k d within = absurd (omega (arith, within))
    rises (x ∷ y ∷ ys) h zero d within = h.0.0
    rises (x ∷ y ∷ ys) h (suc k) d within = rises (y ∷ ys) h.1 k d (omega (arith, within))

    pub inserted-sorted : (xs : List X) → IsSortedBy lt (inserted xs)
    inserted-sorted xs = λ k d low within.
        let next : suc k ≡ k + 1 = omega arith in
        subst (λ (n : ℕ). lt (get_or (inserted xs) n d) (get_or (inserted xs) k d) ≡ false) next
        (rises (inserted xs) (inserted-up xs) k d (omega (arith, within)))

    up_of : (xs : List X) → ((i j : ℕ) (d : X) → i ≤ j → j < length xs → lt (get_or xs j d) (get_or xs i d) ≡ false) → Up xs
    up_of [] h = tt
    up_of (x ∷ xs) h =
        (recursion_from_All _ _ (λ k d p. h 0 (suc k) d (omega arith) (omega arith)), up_of xs (λ i j d p q. h (suc i) (suc j) d (omega arith) (omega arith)))

    module _ (P : X → Type 0) (one : (x y : X) → P x → P y → lt x y ≡ false → lt y x ≡ false → x ≡ y) where
      -- whatever is counted of two lists in order, it is as much
      once : (xs ys : List X) → Up xs → Up ys → AllByRecursion P xs → AllByRecursion P ys → ((f : X → ℕ) → sum_by f xs ≡ sum_by f ys) → xs ≡ ys
      once [] [] h k p q same = refl
      once [] (y ∷ ys) h k p q same = absurd (omega (arith, same (λ _. 1), sum_by-cons (λ (e : X). 1) y ys))
      once (x ∷ xs) [] h k p q same = absurd (omega (arith, same (λ _. 1), sum_by-cons (λ (e : X). 1) x xs))
      once (x ∷ xs) (y ∷ ys) h k p q same =
          let left : lt y x ≡ false = first-after x y ys (sym (same (count x)) ∙ none-counted x (x ∷ xs) (irreflexive x, h.0)) in
          let right : lt x y ≡ false = first-after y x xs (same (count y) ∙ none-counted y (y ∷ ys) (irreflexive y, k.0)) in
          let first : x ≡ y = one x y p.0 q.0 right left in
          λ i. first i ∷ once xs ys h.1 k.1 p.1 q.1 (λ f. omega (arith, same f, sum_by-cons f x xs, sum_by-cons f y ys, ap f first)) i

      pub sorted-is : (xs ys : List X) → IsPermutation xs ys → IsSortedBy lt ys → All P xs → ys ≡ inserted xs
      sorted-is xs ys moved up all = once ys (inserted xs) (up_of ys (sorted_far lt o ys up)) (inserted-up xs)
          (recursion_from_All P ys (All-permutation P xs ys moved all)) (inserted_all P xs (recursion_from_All P xs all))
          (λ f. sum_by-IsPermutation f xs ys moved ∙ sym (sum_by-IsPermutation f xs (inserted xs) (inserted-permutes xs)))

      pub sorted-once : (xs ys : List X) → IsPermutation xs ys → IsSortedBy lt xs → IsSortedBy lt ys → All P xs → xs ≡ ys
      sorted-once xs ys moved up up' all = sorted-is xs xs (IsPermutation-refl xs) up all ∙ sym (sorted-is xs ys moved up' all)
