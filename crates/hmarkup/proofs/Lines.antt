-- Lines of a text, and texts that are cut at a mark.
use Rattle.hmarkup.proofs.Names.{nat_tests, ◌≡◌, ℕ, ◌+◌, ◌<◌, suc, eqb, List, [], ◌∷◌, ◌++◌, length, get_or, sym, refl, ap, ◌∙◌, subst, Option, Some, None, Ok, Err, append-nil, arith, or_parts, lines, AreQuirkLines, ◌≢◌, Bor, MatchOption, list_any, unwrap_or, IsSplitOnceResult, split_parts, QuirkKind, PublicIs, BadQuirks, QuirkLine, quirk_word, IsQuirkLine, IsNoQuirkLine, ReadsQuirks, bad_line, read_all, IsWordless, Lacks, HasParts}

-- a text without a mark
pub lacks_of : (c : ℕ) (bs : List ℕ) → ((i : ℕ) → i < length bs → get_or bs i 0 ≢ c) → Lacks c bs
lacks_of c [] h = refl
lacks_of c (b ∷ bs) h = grind (arith, nat_tests, h 0 (omega arith), lacks_of c bs (λ i l. h (suc i) (omega (arith, l))))

pub parts_of : (c : ℕ) (bs : List ℕ) (r : Option (Bor (List ℕ) × Bor (List ℕ))) → MatchOption r ((i : ℕ) → i < length bs → get_or bs i 0 ≢ c)
    (λ x. (bs ≡ x.0.now ++ (c ∷ x.1.now)) × ((i : ℕ) → i < length x.0.now → get_or x.0.now i 0 ≢ c))
    → MatchOption r (Lacks c bs) (λ x. HasParts c bs x.0.now x.1.now)
parts_of c bs None h = lacks_of c bs h
parts_of c bs (Some x) h = record { text_is = h.0; lacks = lacks_of c x.0.now h.1 }

pub parts_at : (c : ℕ) (bs : List ℕ) (r : Option (Bor (List ℕ) × Bor (List ℕ))) → IsSplitOnceResult c bs r → c < 128
    → MatchOption r (Lacks c bs) (λ x. HasParts c bs x.0.now x.1.now)
parts_at c bs r h l = parts_of c bs r (split_parts c bs r h l)

-- lines
line_before : (line after : List ℕ) → Lacks 10 line → lines (line ++ 10 ∷ after) ≡ line ∷ lines after
line_before [] after h = refl
line_before (c ∷ cs) after h = grind (arith, nat_tests, line_before cs after)

last_of : (text : List ℕ) → Lacks 10 text → 0 < length text → lines text ≡ text ∷ []
last_of [] h l = absurd (omega (arith, l))
last_of (c ∷ []) h l = grind (arith, nat_tests)
last_of (c ∷ d ∷ cs) h l = grind (arith, nat_tests, last_of (d ∷ cs))

pub first_of : (text : List ℕ) (r : Option (Bor (List ℕ) × Bor (List ℕ))) (whole : Bor (List ℕ) × Bor (List ℕ))
    → MatchOption r (Lacks 10 text) (λ x. HasParts 10 text x.0.now x.1.now) → 0 < length text → whole.0.now ≡ text → whole.1.now ≡ []
    → lines text ≡ (unwrap_or r whole).0.now ∷ lines (unwrap_or r whole).1.now
first_of text (Some x) whole h l is none = ap lines h.text_is ∙ line_before x.0.now x.1.now h.lacks
first_of text None whole h l is none = rw (is, none) (last_of text h l)

-- a text is cut at its first mark in one way
one_cut : (c : ℕ) (xs ys zs ws : List ℕ) → Lacks c xs → Lacks c zs → xs ++ c ∷ ys ≡ zs ++ c ∷ ws → (xs ≡ zs) × (ys ≡ ws)
one_cut c [] ys [] ws h k e = (refl, cc)
one_cut c [] ys (z ∷ zs) ws h k e = let head : z ≡ c = cc in absurd (grind (arith, nat_tests))
one_cut c (x ∷ xs) ys [] ws h k e = let head : x ≡ c = cc in absurd (grind (arith, nat_tests))
one_cut c (x ∷ xs) ys (z ∷ zs) ws h k e = let head : x ≡ z = cc in let tail : xs ++ c ∷ ys ≡ zs ++ c ∷ ws = cc in
    let same = one_cut c xs ys zs ws (or_parts (eqb x c) (list_any (λ d. eqb d c) xs) h).1 (or_parts (eqb z c) (list_any (λ d. eqb d c) zs) k).1 tail in
    (ap (λ (n : ℕ). n ∷ xs) head ∙ ap (λ (l : List ℕ). z ∷ l) same.0, same.1)

word_lacks : (kind : QuirkKind) → Lacks 32 (quirk_word kind)
word_lacks PublicIs = refl
word_lacks _ = refl

-- lines of the list
cut_is : (line word text : List ℕ) → HasParts 32 line word text → (quirk : QuirkLine) → IsQuirkLine line quirk
    → (word ≡ quirk_word quirk.kind) × (text ≡ quirk.text)
cut_is line word text h quirk k = one_cut 32 word text (quirk_word quirk.kind) quirk.text h.lacks (word_lacks quirk.kind) (sym h.text_is ∙ k.line_is)

pub no_word_none : (line word text : List ℕ) → HasParts 32 line word text → IsWordless word → IsNoQuirkLine line
no_word_none line word text h none quirk k = none quirk.kind (cut_is line word text h quirk k).0

-- one line more
pub are_more : (before : List (List ℕ)) (line : List ℕ) (quirks : List QuirkLine) (quirk : QuirkLine) → AreQuirkLines before quirks → IsQuirkLine line quirk
    → AreQuirkLines (before ++ line ∷ []) (quirks ++ quirk ∷ [])
are_more [] line [] quirk h k = (k, tt)
are_more (b ∷ bs) line (q ∷ qs) quirk h k = (h.0, are_more bs line qs quirk h.1 k)
are_more _ line _ quirk h k = absurd h

pub are_as_many : (before : List (List ℕ)) (quirks : List QuirkLine) → AreQuirkLines before quirks → length quirks ≡ length before
are_as_many [] [] h = refl
are_as_many (b ∷ bs) (q ∷ qs) h = let e = are_as_many bs qs h.1 in omega (arith, e)
are_as_many _ _ h = absurd h

-- the outcomes of reading a list
pub at_bad_line : (text rest line after : List ℕ) (before : List (List ℕ)) (quirks : List QuirkLine) (n : ℕ) → lines text ≡ before ++ lines rest
    → AreQuirkLines before quirks → lines rest ≡ line ∷ lines after → IsNoQuirkLine line → n ≡ length quirks → ReadsQuirks text (Err (BadQuirks (n + 1)))
at_bad_line text rest line after before quirks n e h f none count = bad_line before (lines after) line quirks (e ∙ ap (λ (x : List (List ℕ)). before ++ x) f) h
    none (ap (λ (x : ℕ). Err (BadQuirks (x + 1))) (count ∙ are_as_many before quirks h))

pub at_end : (text rest : List ℕ) (before : List (List ℕ)) (quirks : List QuirkLine) → lines text ≡ before ++ lines rest → AreQuirkLines before quirks
    → length rest ≡ 0 → ReadsQuirks text (Ok quirks)
at_end text [] before quirks e h l = read_all quirks (subst (λ (x : List (List ℕ)). AreQuirkLines x quirks) (sym (e ∙ append-nil before)) h) refl
at_end text (c ∷ cs) before quirks e h l = absurd (omega (arith, l))
