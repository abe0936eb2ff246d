-- Words on lists and texts: what is the same where two begin alike, what holds of each character, and tests of two parts.
use Rattle.names.proofs.Vocabulary.{◌≡◌, ℕ, Bool, true, false, not, ◌&&◌, ◌||◌, List, [], ◌∷◌, ◌++◌, Some, refl, ap, and_parts, list_all, and_from, Placed, characters, all, begins}

pub heads : {A : Type 0} (x y : A) (xs ys : List A) → x ∷ xs ≡ y ∷ ys → x ≡ y
heads x y xs ys e = cc

pub tails : {A : Type 0} (x y : A) (xs ys : List A) → x ∷ xs ≡ y ∷ ys → xs ≡ ys
tails x y xs ys e = cc

pub some_same : {A : Type 0} (x y : A) → Some x ≡ Some y → x ≡ y
some_same x y e = cc

-- tests of two parts, of which one is known
pub not_second : (a b : Bool) → (a && b) ≡ false → a ≡ true → b ≡ false
not_second true b h k = h
not_second false b h k = absurd cc

pub or_second : (a b : Bool) → (a || b) ≡ true → a ≡ false → b ≡ true
or_second true b h k = absurd cc
or_second false b h k = h

pub implied : (a b : Bool) → (not a || b) ≡ true → a ≡ true → b ≡ true
implied true b h k = h
implied false b h k = absurd cc

-- what passes a test passes a weaker one
pub all_weaker : (test other : ℕ → Bool) → ((c : ℕ) → test c ≡ true → other c ≡ true) → (cs : List ℕ) → list_all test cs ≡ true → list_all other cs ≡ true
all_weaker test other weaker [] h = refl
all_weaker test other weaker (c ∷ cs) h = let k = and_parts (test c) _ h in and_from _ _ (weaker c k.0) (all_weaker test other weaker cs k.1)

-- texts
pub all-append : (test : ℕ → Bool) (xs ys : List Placed) → all test xs ≡ true → all test ys ≡ true → all test (xs ++ ys) ≡ true
all-append test [] ys h k = k
all-append test (p ∷ ps) ys h k = let m = and_parts (test p.ch) _ h in and_from _ _ m.0 (all-append test ps ys m.1 k)

pub all-one : (test : ℕ → Bool) (xs : List Placed) (p : Placed) → all test xs ≡ true → test p.ch ≡ true → all test (xs ++ p ∷ []) ≡ true
all-one test xs p h k = all-append test xs (p ∷ []) h (and_from _ _ k refl)

pub all-characters : (test : ℕ → Bool) (text : List Placed) → all test text ≡ list_all test (characters text)
all-characters test [] = refl
all-characters test (p ∷ ps) = ap (λ (b : Bool). test p.ch && b) (all-characters test ps)

pub begins-append : (test : ℕ → Bool) (xs ys : List Placed) → begins test xs ≡ true → begins test (xs ++ ys) ≡ true
begins-append test [] ys h = absurd cc
begins-append test (p ∷ ps) ys h = h

pub first_is : (p : Placed) (ps : List Placed) (c : ℕ) (cs : List ℕ) → characters (p ∷ ps) ≡ c ∷ cs → p.ch ≡ c
first_is p ps c cs e = cc
