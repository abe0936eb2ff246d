-- Words on texts: marks that a text avoids, and texts that grow.
use Rattle.hmarkup.proofs.Names.{◌≡◌, ℕ, ◌≤◌, Bool, true, false, cond, eqb, List, [], ◌∷◌, ◌++◌, length, map, sym, refl, ap, ◌∙◌, subst, append_assoc, arith, length-append, false≢true, and_from, nat_tests, map-append, encodes-append, encode_utf8_all, UnexpectedNullCharacter, Placed, characters, spells, is_front, before, Avoids, error, null_errors, text_bytes, without_null, flat_map-append}
-- lemmas of the crates below, under the names by which the crates above cite them
pub use Rattle.std.proofs.lemmas.Bool.{and_parts, and_from as and_both, and_right as and_no, or_parts as neither, or_from as or_none, or_left, or_right}
pub use Rattle.names.proofs.Words.{first_is}

-- the text before a mark, past a front that the mark avoids
pub before-avoids : (mark : List Placed → Bool) (xs after : List Placed) → Avoids mark xs after → before mark (xs ++ after) ≡ xs ++ before mark after
before-avoids mark [] after h = refl
before-avoids mark (p ∷ ps) after h =
    ap (λ b. cond b [] (p ∷ before mark (ps ++ after))) h.0 ∙ ap (λ (x : List Placed). p ∷ x) (before-avoids mark ps after h.1)

pub before-here : (mark : List Placed → Bool) (xs : List Placed) → mark xs ≡ true → before mark xs ≡ []
before-here mark [] h = refl
before-here mark (x ∷ xs) h = ap (λ (b : Bool). cond b [] (x ∷ before mark xs)) h

-- which is no longer than what is before one place of the mark
pub before-short : (mark : List Placed → Bool) (xs ys : List Placed) → mark ys ≡ true → length (before mark (xs ++ ys)) ≤ length xs
before-short mark [] ys h = omega (arith, ap length (before-here mark ys h))
before-short mark (x ∷ xs) ys h = grind (arith, nat_tests, before-short mark xs ys)

pub Avoids-append : (mark : List Placed → Bool) (xs ys after : List Placed) → Avoids mark xs (ys ++ after) → Avoids mark ys after → Avoids mark (xs ++ ys) after
Avoids-append mark [] ys after h k = k
Avoids-append mark (p ∷ ps) ys after h k = (subst (λ x. mark (p ∷ x) ≡ false) (sym (append_assoc ps ys after)) h.0, Avoids-append mark ps ys after h.1 k)

-- One more character follows: a mark is still avoided where it is at no text that both marks avoided.
pub Avoids-more : (first mark : List Placed → Bool) (p : Placed)
    → ((q : Placed) (x : List Placed) → first (q ∷ x) ≡ false → mark (q ∷ x) ≡ false → mark (q ∷ x ++ p ∷ []) ≡ false) → (xs after : List Placed)
    → Avoids first xs after → Avoids mark xs after → Avoids mark xs (after ++ p ∷ [])
Avoids-more first mark p point [] after h k = tt
Avoids-more first mark p point (q ∷ qs) after h k =
    (subst (λ x. mark (q ∷ x) ≡ false) (append_assoc qs after (p ∷ [])) (point q (qs ++ after) h.0 k.0), Avoids-more first mark p point qs after h.1 k.1)

-- what is before the earliest mark avoids it
test_of : (m : Bool) (x : Placed) (xs rest : List Placed) → x ∷ xs ≡ cond m [] (x ∷ rest) → (m ≡ false) × (xs ≡ rest)
test_of true x xs rest h = absurd cc
test_of false x xs rest h = (refl, cc)

pub avoids-before : (mark : List Placed → Bool) (xs after : List Placed) → xs ≡ before mark (xs ++ after) → Avoids mark xs after
avoids-before mark [] after h = tt
avoids-before mark (x ∷ xs) after h = let k = test_of (mark (x ∷ xs ++ after)) x xs (before mark (xs ++ after)) h in (k.0, avoids-before mark xs after k.1)

-- what begins a mark with one more character begins it without
pub front-less : (xs : List Placed) (p : Placed) (m : List ℕ) → is_front (xs ++ p ∷ []) m ≡ true → is_front xs m ≡ true
front-less [] p m h = refl
front-less (x ∷ xs) p [] h = h
front-less (x ∷ xs) p (c ∷ cs) h = grind (arith, nat_tests, front-less xs p cs)

pub front-longer : (xs : List Placed) (m n : List ℕ) → is_front xs m ≡ true → is_front xs (m ++ n) ≡ true
front-longer [] m n h = refl
front-longer (x ∷ xs) [] n h = absurd (false≢true h)
front-longer (x ∷ xs) (c ∷ cs) n h = grind (arith, nat_tests, front-longer xs cs n)

-- A mark of one more character is avoided by a longer text too, unless the text is a beginning of it.
pub spells-more : (m : List ℕ) (k : ℕ) (xs : List Placed) (p : Placed) → is_front xs m ≡ false → spells (m ++ k ∷ []) xs ≡ false
    → spells (m ++ k ∷ []) (xs ++ p ∷ []) ≡ false
spells-more m k [] p f h = absurd (false≢true (sym f))
spells-more [] k (x ∷ xs) p f h = h
spells-more (c ∷ cs) k (x ∷ xs) p f h = grind (arith, nat_tests, spells-more cs k xs p)

-- a mark that is not at the front of a long text is not there when more follows
pub spells-long : (m : List ℕ) (xs ys : List Placed) → length m ≤ length xs → spells m xs ≡ false → spells m (xs ++ ys) ≡ false
spells-long [] xs ys l h = absurd (false≢true (sym h))
spells-long (c ∷ cs) [] ys l h = absurd (omega (arith, l))
spells-long (c ∷ cs) (x ∷ xs) ys l h = grind (arith, nat_tests, spells-long cs xs ys)

-- a text spells its own characters
pub eqb_self : (n : ℕ) → eqb n n ≡ true
eqb_self n = grind (arith, nat_tests)

spells-own : (xs rest : List Placed) → spells (characters xs) (xs ++ rest) ≡ true
spells-own [] rest = refl
spells-own (x ∷ xs) rest = and_from (eqb x.ch x.ch) (spells (characters xs) (xs ++ rest)) (eqb_self x.ch) (spells-own xs rest)

pub spells-characters : (cs : List ℕ) (xs rest : List Placed) → characters xs ≡ cs → spells cs (xs ++ rest) ≡ true
spells-characters cs xs rest h = subst (λ (c : List ℕ). spells c (xs ++ rest) ≡ true) h (spells-own xs rest)

-- a text that is its front before a mark has no mark after a shorter front
pub not_past : (mark : List Placed → Bool) (text inner close : List Placed) → text ≡ before mark text → text ≡ inner ++ close → mark close ≡ true
    → 1 ≤ length close → ⊥
not_past mark text inner close b t m some = omega
    (arith, ap length b, ap (λ (x : List Placed). length (before mark x)) t, before-short mark inner close m, ap length t, length-append inner close, some)

-- data and errors of two texts, one after the other
pub text_bytes-append : (xs ys : List Placed) → text_bytes (xs ++ ys) ≡ text_bytes xs ++ text_bytes ys
text_bytes-append xs ys = ap encode_utf8_all (map-append (λ (p : Placed). without_null p.ch) xs ys)
    ∙ encodes-append (map (λ (p : Placed). without_null p.ch) xs) (map (λ (p : Placed). without_null p.ch) ys)

pub null_errors-append : (xs ys : List Placed) → null_errors (xs ++ ys) ≡ null_errors xs ++ null_errors ys
null_errors-append xs ys = flat_map-append (λ (p : Placed). cond (eqb p.ch 0) (error UnexpectedNullCharacter p.at ∷ []) []) xs ys
