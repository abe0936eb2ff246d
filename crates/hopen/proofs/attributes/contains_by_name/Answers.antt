use Rattle.hopen.proofs.Names.{common_steps, ◌≡◌, ℕ, suc, ◌-◌, ◌<◌, ◌==◌, Bool, true, false, ◌&&◌, List, map, length, take, get_or, nat_eq, refl, sym, ◌∙◌, ap, subst, arith, list_any, eqb-true, length-map, last_up, attribute_of, Attr, same_attribute, any-map, bytes_eq, take_all, list_any_at, zero, ◌≤◌, eqb, ◌||◌, [], ◌∷◌, nat_tests, list_any_more, or-false}
use Rattle.hopen.proofs.attributes.contains_by_name.Goals as goal

-- A search in a list by the numbers of its members, where what is sought has one number.
module _ {X : Type 0} (sought : X → Bool) where
  -- a member that isn't sought is not missed
  any-less : (xs : List X) (p : ℕ) (x : X) → 0 < p → p ≤ length xs → x ≡ get_or xs (p - 1) x → sought x ≡ false
      → list_any sought (take (p - 1) xs) ≡ list_any sought (take p xs)
  any-less xs p x some within is other = grind (arith, common_steps, nat_tests, list_any_more, or-false)

  module _ (number : X → ℕ) (n : ℕ) (law : (x : X) → sought x ≡ true → number x ≡ n) where
    not-sought : (x : X) → eqb (number x) n ≡ false → sought x ≡ false
    not-sought x other = grind (arith, nat_tests)

    any-skip : (xs : List X) (p : ℕ) → p < length xs → eqb (get_or (map number xs) p 0) n ≡ false
        → list_any sought (take p xs) ≡ list_any sought (take (suc p) xs)
    any-skip [] p h other = absurd (omega arith)
    any-skip (x ∷ xs) zero h other = ap (λ v. v || false) (sym (not-sought x other))
    any-skip (x ∷ xs) (suc p) h other = ap (λ v. sought x || v) (any-skip xs p (omega arith) other)

    -- where the number is last among this many members
    record Last (xs : List X) (p q : ℕ) : Type 0 where
      within : q ≤ p
      there : 0 < q → get_or (map number xs) (q - 1) 0 ≡ n
      same : list_any sought (take q xs) ≡ list_any sought (take p xs)

    last-found : (xs : List X) (p : ℕ) → p ≤ length xs → Last xs p (last_up (λ k. k == n) (map number xs) p)
    last-found xs zero h = record { within = omega arith; there = λ some. absurd (omega arith); same = refl }
    last-found xs (suc p) h = grind (arith, last-found xs p (omega arith), any-skip, nat_tests)

abbrev sought : Attr → Attr → Bool
sought x y = same_attribute nat_eq (attribute_of x) (attribute_of y)

abbrev number : Attr → ℕ
number a = suc (suc a.name)

-- the same attribute has the same name
law : (x y : Attr) → sought x y ≡ true → number y ≡ number x
law x y same = go (nat_eq x.name y.name) refl same where
  go : (v : Bool) → nat_eq x.name y.name ≡ v → (v && bytes_eq (attribute_of x).1 (attribute_of y).1) ≡ true → number y ≡ number x
  go true is all = omega (arith, eqb-true x.name y.name is)
  go false is all = cc

-- the number at an ordinal of the names
there-in : (names : List ℕ) (ys : List Attr) (n q : ℕ) → names ≡ map number ys → (0 < q → get_or (map number ys) (q - 1) 0 ≡ n) → 0 < q
    → get_or names (q - 1) 0 ≡ n
there-in names ys n q are there some = ap (λ ns. get_or ns (q - 1) 0) are ∙ there some

first : (c : goal.After-last-ordinal)
    → Last (sought c.args.attr.now) number (number c.args.attr.now) (law c.args.attr.now) c.args.attrs.now (length c.args.attrs.now) c.last-ordinal.result
first c =
    let here : c.last-ordinal.result ≡ last_up (λ k. k == number c.args.attr.now) (map number c.args.attrs.now) (length c.args.attrs.now) =
    c.last-ordinal.ensures ∙ (λ i. last_up (λ k. k == (c.name_number.ensures ∙ ap (λ n. suc (suc n)) c.name.ensures) i) (c.requires i) (length (c.requires i)))
    ∙ ap (last_up (λ k. k == number c.args.attr.now) (map number c.args.attrs.now)) (length-map c.args.attrs.now number) in
    subst (Last (sought c.args.attr.now) number (number c.args.attr.now) (law c.args.attr.now) c.args.attrs.now (length c.args.attrs.now)) (sym here)
    (last-found (sought c.args.attr.now) number (number c.args.attr.now) (law c.args.attr.now) c.args.attrs.now (length c.args.attrs.now) (omega arith))

pub loop-ordinal-init : goal.loop-ordinal-init
loop-ordinal-init c = let found = first c in grind (arith, common_steps, eqb-true, length-map, any-map, take_all, list_any_at, any-less, last-found)

next : (c : goal.After-before-ordinal)
    → Last (sought c.args.attr.now) number (number c.args.attr.now) (law c.args.attr.now) c.args.attrs.now (c.loop-ordinal.ordinal - 1) c.before-ordinal.result
next c =
    let here : c.before-ordinal.result ≡ last_up (λ k. k == number c.args.attr.now) (map number c.args.attrs.now) (c.loop-ordinal.ordinal - 1) =
    c.before-ordinal.ensures ∙ (λ i. last_up (λ k. k == c.loop-ordinal.invariant.there (omega arith) i) (c.requires i) (c.loop-ordinal.ordinal - 1)) in
    subst (Last (sought c.args.attr.now) number (number c.args.attr.now) (law c.args.attr.now) c.args.attrs.now (c.loop-ordinal.ordinal - 1)) (sym here)
    (last-found (sought c.args.attr.now) number (number c.args.attr.now) (law c.args.attr.now) c.args.attrs.now (c.loop-ordinal.ordinal - 1)
    (omega (arith, c.loop-ordinal.invariant.within)))

pub loop-ordinal-preserved : goal.loop-ordinal-preserved
loop-ordinal-preserved c = let found = next c in grind (arith, common_steps, eqb-true, length-map, any-map, take_all, list_any_at, any-less, last-found)

pub loop-ordinal-smaller : goal.loop-ordinal-smaller
loop-ordinal-smaller c = let found = next c in omega (arith, found.within)

seen : (x : Attr) (ys : List Attr) → list_any (sought x) ys ≡ list_any (same_attribute nat_eq (attribute_of x)) (map attribute_of ys)
seen x ys = sym (any-map attribute_of (sought x) (same_attribute nat_eq (attribute_of x)) (λ _. refl) ys)

pub returns-then-is_same : goal.returns-then-is_same
returns-then-is_same c = sym (list_any_at (sought c.args.attr.now) c.args.attrs.now (c.loop-ordinal.ordinal - 1) c.index-attrs-ordinal.result
    (omega (arith, c.loop-ordinal.invariant.within)) (ap (sought c.args.attr.now) (sym c.index-attrs-ordinal.is) ∙ sym c.is_same.ensures ∙ c.if-is_same.true))
    ∙ seen c.args.attr.now c.args.attrs.now

pub returns : goal.returns
returns c = let none : c.loop-ordinal.ordinal ≡ 0 = omega arith in
    ap (λ k. list_any (sought c.args.attr.now) (take k c.args.attrs.now)) (sym none) ∙ c.loop-ordinal.invariant.same ∙ seen c.args.attr.now c.args.attrs.now

pub before-ordinal-requires-clause-within : goal.before-ordinal-requires-clause-within
before-ordinal-requires-clause-within c = grind (arith, common_steps)
