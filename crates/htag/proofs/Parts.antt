-- Parts of a tag, one by one.
use Rattle.htag.proofs.Vocabulary.{◌≡◌, ℕ, Bool, true, false, ◌||◌, List, [], ◌∷◌, ◌++◌, sym, refl, ap, ◌∙◌, subst, transport, append_assoc, append-nil, None, is_some, Vec, Global, flat_map-append, ParseError, Placed, begins, stops, all, is_space, past, Texts, and_parts, Entities, Attr, TagWalk, AttrsMean, HasSeen, Part, IsPart, AreParts, parts_text, part_errors_after, attributes_after, has_attribute, named_by, kept_attribute, repeated, names_after, HasAttributes, KeepsTag, arith, nat_tests, tag_errors, or-false}
-- under the names by which they are cited
pub use Rattle.names.proofs.Words.{begins-append as begins-more, all-one as all-snoc}

pub begins_stops : (test : ℕ → Bool) (xs ys : List Placed) → begins test xs ≡ true → stops test (xs ++ ys) ≡ true
begins_stops test [] ys e = absurd cc
begins_stops test (x ∷ xs) ys e = e

pub parts_text-append : (xs ys : List Part) → parts_text (xs ++ ys) ≡ parts_text xs ++ parts_text ys
parts_text-append xs ys = flat_map-append (λ (s : Part). s.text) xs ys

pub parts_text-snoc : (parts : List Part) (part : Part) → parts_text (parts ++ part ∷ []) ≡ parts_text parts ++ part.text
parts_text-snoc parts part = parts_text-append parts (part ∷ []) ∙ ap (λ (x : List Placed). parts_text parts ++ x) (append-nil part.text)

-- more parts
pub AreParts-append : (table : Entities) (end : ℕ) (xs ys : List Part) (rest : List Placed) → AreParts table end xs (parts_text ys ++ rest)
    → AreParts table end ys rest → AreParts table end (xs ++ ys) rest
AreParts-append table end [] ys rest h k = k
AreParts-append table end (x ∷ xs) ys rest (first, h) k = (rw (parts_text-append xs ys, append_assoc) first, AreParts-append table end xs ys rest h k)

pub AreParts-snoc : (table : Entities) (end : ℕ) (xs : List Part) (part : Part) (rest : List Placed) → AreParts table end xs (part.text ++ rest)
    → IsPart table end rest part → AreParts table end (xs ++ part ∷ []) rest
AreParts-snoc table end xs part rest h k = AreParts-append table end xs (part ∷ []) rest (rw (append-nil part.text) h) (k, tt)

pub names-snoc : (names : List (List ℕ)) (parts : List Part) (part : Part)
    → names_after names (parts ++ part ∷ []) ≡ named_by part.attribute ++ names_after names parts
names-snoc names [] part = refl
names-snoc names (x ∷ xs) part = names-snoc (named_by x.attribute ++ names) xs part

pub errors-snoc : (names : List (List ℕ)) (parts : List Part) (part : Part)
    → part_errors_after names (parts ++ part ∷ []) ≡ part_errors_after names parts ++ (part.errors ++ repeated (names_after names parts) part.attribute)
errors-snoc names [] part = append-nil (part.errors ++ repeated names part.attribute)
errors-snoc names (x ∷ xs) part = rw (errors-snoc (named_by x.attribute ++ names) xs part) (simp append_assoc)

-- the errors of a part more
pub part_errors : (name : List Placed) (parts : List Part) (held : List ParseError) {errors : List ParseError} → errors ≡ tag_errors name parts ++ held
    → (part : Part) (e : List ParseError) {later : List ParseError} → part.errors ≡ held ++ e
    → later ≡ (errors ++ e) ++ repeated (names_after [] parts) part.attribute → later ≡ tag_errors name (parts ++ part ∷ [])
part_errors name parts held so_far part e own is = is ∙ rw (so_far, errors-snoc [] parts part, own) (simp append_assoc)

pub attributes-snoc : (names : List (List ℕ)) (parts : List Part) (part : Part)
    → attributes_after names (parts ++ part ∷ []) ≡ attributes_after names parts ++ kept_attribute (names_after names parts) part.attribute
attributes-snoc names [] part = append-nil (kept_attribute names part.attribute)
attributes-snoc names (x ∷ xs) part = rw (attributes-snoc (named_by x.attribute ++ names) xs part) (simp append_assoc)

pub any-snoc : (parts : List Part) (part : Part) → has_attribute (parts ++ part ∷ []) ≡ (has_attribute parts || is_some part.attribute)
any-snoc [] part = grind (arith, nat_tests)
any-snoc (x ∷ xs) part = grind (arith, nat_tests, any-snoc xs part)

pub holds_same : {names : Texts} {walk new : TagWalk} {parts : List Part} → new.seen ≡ walk.seen → new.attrs ≡ walk.attrs → new.any ≡ walk.any
    → HasAttributes names walk parts → HasAttributes names new parts
holds_same {names} {parts = parts} seen attrs any h = record {
  numbers = h.numbers;
  seen = transport (λ t. HasSeen (sym seen t) h.numbers) h.seen;
  named = h.named;
  attributes = subst (λ (x : Vec Attr Global). AttrsMean names x.items (attributes_after [] parts)) (sym attrs) h.attributes;
  any = any ∙ h.any;
}

-- a part without an attribute changes no attributes
pub holds_plain : {names : Texts} {walk new : TagWalk} {parts : List Part} (part : Part) → part.attribute ≡ None → KeepsTag walk new
    → HasAttributes names walk parts → HasAttributes names new (parts ++ part ∷ [])
holds_plain {names} {walk} {new} {parts} part none keeps has =
    let h : HasAttributes names new parts = holds_same keeps.seen_is keeps.attrs_are keeps.any_is has in
    record {
      numbers = h.numbers;
      seen = h.seen;
      named = rw (names-snoc [] parts part, none) h.named;
      attributes = rw (attributes-snoc [] parts part, none, append-nil (attributes_after [] parts)) h.attributes;
      any = rw (any-snoc parts part, none, or-false (has_attribute parts)) h.any;
    }

-- past white space
pub past-space : (space : List Placed) (p : Placed) (rest : List Placed) → all is_space space ≡ true → is_space p.ch ≡ false
    → past is_space (space ++ p ∷ rest) ≡ p ∷ rest
past-space [] p rest h k = rw k refl
past-space (x ∷ xs) p rest h k = let parts = and_parts (is_space x.ch) (all is_space xs) h in rw parts.0 (past-space xs p rest parts.1 k)
