-- Bytes that are written after a text, the first of which are added to it.
use Rattle.htoken.proofs.Names.{◌≡◌, ◌≤◌, ℕ, ◌+◌, List, ◌++◌, length, take, drop, ap, ◌∙◌, sym, arith, Vec, take-append-add, length-append, length-drop, length-take-le, take-append-le, with_items_is, with_items}

-- where k bytes come in the place of those from the a-th on
abbrev put_mid : ℕ → ℕ → List ℕ → List ℕ → List ℕ
put_mid a k xs ys = take a xs ++ (ys ++ drop k (drop a xs))

module _ (a k n : ℕ) (xs ys : List ℕ) (within : a + k ≤ length xs) (long : length ys ≡ k) (few : n ≤ k) where
  begins : a ≤ length xs
  begins = omega (arith, within)

  same_length : length (put_mid a k xs ys) ≡ length xs
  same_length = omega (
    arith,
    within,
    long,
    length-append (take a xs) (ys ++ drop k (drop a xs)),
    length-append ys (drop k (drop a xs)),
    length-take-le a xs begins,
    length-drop k (drop a xs),
    length-drop a xs,
  )

  put_front : take (a + n) (put_mid a k xs ys) ≡ take a xs ++ take n ys
  put_front = ap (λ (m : ℕ). take (m + n) (put_mid a k xs ys)) (sym (length-take-le a xs begins)) ∙ take-append-add (take a xs) _ n
      ∙ ap (λ (zs : List ℕ). take a xs ++ zs) (take-append-le n ys _ (omega (arith, long, few)))

-- what is there then, where these were the first of a vector's items before they moved
pub written : {Z : Type 0} (v : Vec ℕ Z) (a k n : ℕ) (old row ys bytes : List ℕ) → length row ≡ v.len → a + k ≤ length row → row ≡ v.items
    → take a v.items ≡ take a old → ys ≡ bytes → length bytes ≡ k → n ≤ k
    → (a + n ≤ length (with_items v (put_mid a k row ys)).items) × (take (a + n) (with_items v (put_mid a k row ys)).items ≡ take a old ++ take n bytes)
written v a k n old row ys bytes same within is kept after size few = let long : length ys ≡ k = ap length after ∙ size in
    let items : (with_items v (put_mid a k row ys)).items ≡ put_mid a k row ys =
    with_items_is v (put_mid a k row ys) (same_length a k n row ys within long few ∙ same) in
    (omega (arith, ap length items, same_length a k n row ys within long few, within, few), cc (put_front a k n row ys within long few))
