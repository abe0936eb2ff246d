-- Names and identifiers that grow.
use Rattle.hmarkup.proofs.Names.{◌≡◌, ℕ, true, List, [], ◌∷◌, ◌++◌, map, sym, refl, ap, ◌∙◌, Option, Some, None, append_assoc, append-nil, false≢true, map-append, encodes-append, encode_utf8_all, is_some, to_ascii_lowercase, Placed, text_bytes, name_bytes, without_null, Identifier, Public, System, Found, with_name, identified, identifier_of, lengthened}
use Rattle.hmarkup.proofs.Marks.{text_bytes-append}

pub name_bytes-append : (xs ys : List Placed) → name_bytes (xs ++ ys) ≡ name_bytes xs ++ name_bytes ys
name_bytes-append xs ys = ap encode_utf8_all (map-append (λ (p : Placed). to_ascii_lowercase (without_null p.ch)) xs ys)
    ∙ encodes-append (map (λ (p : Placed). to_ascii_lowercase (without_null p.ch)) xs) (map (λ (p : Placed). to_ascii_lowercase (without_null p.ch)) ys)

longer-twice : (o : Option (List ℕ)) (xs ys : List ℕ) → lengthened (Some (lengthened o xs)) ys ≡ lengthened o (xs ++ ys)
longer-twice None xs ys = refl
longer-twice (Some before) xs ys = append_assoc before xs ys

longer_not : (o : Option (List ℕ)) → is_some o ≡ true → Some (lengthened o []) ≡ o
longer_not None h = absurd (false≢true h)
longer_not (Some before) h = ap (λ (x : List ℕ). Some x) (append-nil before)

pub named-twice : (xs ys : List ℕ) (known : Found) → with_name ys (with_name xs known) ≡ with_name (xs ++ ys) known
named-twice xs ys known = ap (λ (x : List ℕ). record known { name = Some x }) (longer-twice known.name xs ys)

pub named_not : (known : Found) → is_some known.name ≡ true → with_name [] known ≡ known
named_not known h = ap (λ (x : Option (List ℕ)). record known { name = x }) (longer_not known.name h)

pub identified-twice : (which : Identifier) (xs ys : List ℕ) (known : Found)
    → identified which ys (identified which xs known) ≡ identified which (xs ++ ys) known
identified-twice Public xs ys known = ap (λ (x : List ℕ). record known { public = Some x }) (longer-twice known.public xs ys)
identified-twice System xs ys known = ap (λ (x : List ℕ). record known { system = Some x }) (longer-twice known.system xs ys)

pub identified_not : (which : Identifier) (known : Found) → is_some (identifier_of which known) ≡ true → identified which [] known ≡ known
identified_not Public known h = ap (λ (x : Option (List ℕ)). record known { public = x }) (longer_not known.public h)
identified_not System known h = ap (λ (x : Option (List ℕ)). record known { system = x }) (longer_not known.system h)

pub is_identified : (which : Identifier) (bytes : List ℕ) (known : Found) → is_some (identifier_of which (identified which bytes known)) ≡ true
is_identified Public bytes known = refl
is_identified System bytes known = refl

-- one character more
pub named-cons : (p : Placed) (ps : List Placed) (known : Found)
    → with_name (name_bytes (p ∷ ps)) known ≡ with_name (name_bytes ps) (with_name (name_bytes (p ∷ [])) known)
named-cons p ps known = ap (λ (x : List ℕ). with_name x known) (name_bytes-append (p ∷ []) ps) ∙ sym (named-twice (name_bytes (p ∷ [])) (name_bytes ps) known)

pub identified-cons : (which : Identifier) (p : Placed) (ps : List Placed) (known : Found)
    → identified which (text_bytes (p ∷ ps)) known ≡ identified which (text_bytes ps) (identified which (text_bytes (p ∷ [])) known)
identified-cons which p ps known = cc (text_bytes-append (p ∷ []) ps, identified-twice which (text_bytes (p ∷ [])) (text_bytes ps) known)
