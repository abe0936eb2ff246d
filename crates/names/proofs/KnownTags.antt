-- The known name of a number is the one of its text.
use Rattle.names.proofs.Vocabulary.{◌≡◌, ℕ, ◌<◌, Bool, true, false, List, [], ◌∷◌, ◌++◌, drop, length, map, get_or, Some, sym, refl, ap, ◌∙◌, subst, arith, cond, suc, zero, take-append-drop, get_or_past, slice_get_within, get_or_from_slice_get, bytes_eq-Decides, list_any, bytes_eq, slice_get, Tag, Other, tag_text, tags, tag_of, tag_named, tag_among, type_name, Texts, text_of, AreDistinct, AreNames, known, both_ways, or_parts}

pub different : (a b : List ℕ) → (a ≡ b → ⊥) → bytes_eq a b ≡ false
different a b h = elim (bytes_eq a b) as (λ v. bytes_eq a b ≡ v → v ≡ false) [ true ↦ λ e. absurd (h ((bytes_eq-Decides a b).0 e)) | false ↦ λ e. refl ] refl

-- the first tag of a text is where the text does, in texts that are all different
named_at : (ts : List Tag) (others : Texts) (id : ℕ) (text : List ℕ) → AreDistinct (map tag_text ts ++ others) → id < length (map tag_text ts ++ others)
    → text_of (map tag_text ts ++ others) id ≡ text → get_or ts id Other ≡ tag_among ts text
named_at [] others id text h less e = get_or_past [] id Other (omega arith)
named_at (t ∷ ts) others zero text h less e = ap (λ (b : Bool). cond b t (tag_among ts text)) (sym ((bytes_eq-Decides (tag_text t) text).1 e))
named_at (t ∷ ts) others (suc j) text h less e =
    let no = different (tag_text t) text (λ same. let k : 0 ≡ suc j = h 0 (suc j) (omega arith) less (same ∙ sym e) in omega (arith, k)) in
    rw no (named_at ts others j text (λ a b p q f. let k : suc a ≡ suc b = h (suc a) (suc b) (omega arith) (omega arith) f in cc) (omega (arith, less)) e)

-- a table is the known names and others
pub whole : (names : Texts) → AreNames names → known ++ drop (length known) names ≡ names
whole names h = ap (λ (x : Texts). x ++ drop (length known) names) (sym h.known_first) ∙ take-append-drop (length known) names

pub tag_of-named : (names : Texts) (id : ℕ) (text : List ℕ) → AreNames names → slice_get names id ≡ Some text → tag_of id ≡ tag_named text
tag_of-named names id text h at = let rest : Texts = drop (length known) names in
    subst (λ (x : Texts). AreDistinct x → slice_get x id ≡ Some text → tag_of id ≡ tag_named text) (whole names h)
    (λ d k. named_at tags (type_name ∷ rest) id text d (slice_get_within (known ++ rest) id text k) (get_or_from_slice_get (known ++ rest) id text [] k))
    h.distinct at

-- a text that is none of the tags' texts names no tag
pub none_named : (ts : List Tag) (others : Texts) (text : List ℕ) → list_any (bytes_eq text) (map tag_text ts ++ others) ≡ false → tag_among ts text ≡ Other
none_named [] others text e = refl
none_named (t ∷ ts) others text e = let parts = or_parts (bytes_eq text (tag_text t)) (list_any (bytes_eq text) (map tag_text ts ++ others)) e in
    let no = different (tag_text t) text (λ same. both_ways _ parts.0 ((bytes_eq-Decides text (tag_text t)).1 (sym same))) in
    rw no (none_named ts others text parts.1)
