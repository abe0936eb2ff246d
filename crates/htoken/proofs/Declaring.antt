-- What the characters after `<!` begin, and what they do not.
use Rattle.htoken.proofs.Names.{◌≡◌, ◌≤◌, ◌<◌, ℕ, zero, suc, ◌+◌, ◌&&◌, get_or, take, Bool, true, false, not, ◌||◌, eqb, List, [], ◌∷◌, ◌++◌, map, length, sym, refl, ap, ◌∙◌, arith, codes, to_ascii_lowercase, list_all, Placed, characters, lowered, all, place, spells_in_any_case, nat_tests, is_plain_in_bogus, and_parts, is_declaration, take-suc, spells, is_cdata, OpensNothing, OpensAs, folded_as, spells_as, all-one}
use Rattle.htoken.specs.declared.markup_declaration_open.Opens.TheVariants as opens

-- A WORD at the front of a text, as each of its characters is read

abbrev pub spelled : (ℕ → ℕ) → List ℕ → List Placed → Bool
spelled read [] text = true
spelled read (c ∷ cs) [] = false
spelled read (c ∷ cs) (p ∷ ps) = eqb (read p.ch) c && spelled read cs ps

as_it_is : (cs : List ℕ) (text : List Placed) → spells cs text ≡ spelled (λ c. c) cs text
as_it_is [] text = refl
as_it_is (c ∷ cs) [] = refl
as_it_is (c ∷ cs) (p ∷ ps) = ap (λ (b : Bool). eqb p.ch c && b) (as_it_is cs ps)

in_any_case : (cs : List ℕ) (text : List Placed) → spells_in_any_case cs text ≡ spelled to_ascii_lowercase cs text
in_any_case [] text = refl
in_any_case (c ∷ cs) [] = refl
in_any_case (c ∷ cs) (p ∷ ps) = ap (λ (b : Bool). eqb (to_ascii_lowercase p.ch) c && b) (in_any_case cs ps)

in_case : (any_case : Bool) (cs : List ℕ) (text : List Placed) → spells_as any_case cs text ≡ spelled (folded_as any_case) cs text
in_case true = in_any_case
in_case false = as_it_is

module _ (read : ℕ → ℕ) where
  -- a text that is shorter than the word
  short : (cs : List ℕ) (text : List Placed) → length text < length cs → spelled read cs text ≡ false
  short [] text l = absurd (omega (arith, l))
  short (c ∷ cs) [] l = refl
  short (c ∷ cs) (p ∷ ps) l = grind (arith, short cs ps (omega (arith, l)))

  -- one that is as long, and goes on
  long : (cs : List ℕ) (text more : List Placed) → length cs ≤ length text → spelled read cs (text ++ more) ≡ spelled read cs text
  long [] text more l = refl
  long (c ∷ cs) [] more l = absurd (omega (arith, l))
  long (c ∷ cs) (p ∷ ps) more l = ap (λ (b : Bool). eqb (read p.ch) c && b) (long cs ps more (omega (arith, l)))

  -- one that ends with the word's last character
  whole : (cs : List ℕ) (text : List Placed) (p : Placed) → spelled read cs text ≡ false → spelled read cs (text ++ p ∷ []) ≡ true
      → map (λ q. read q.ch) (text ++ p ∷ []) ≡ cs
  whole [] text p none all = absurd cc
  whole (c ∷ []) [] p none all = grind (arith, nat_tests)
  whole (c ∷ d ∷ cs) [] p none all = absurd (grind arith)
  whole (c ∷ cs) (x ∷ xs) p none all = grind (arith, nat_tests, whole cs xs p)

  -- a character that is not in the word
  pub past : (cs : List ℕ) (text : List Placed) (p : Placed) (more : List Placed) → list_all (λ c. not (eqb (read p.ch) c)) cs ≡ true
      → spelled read cs text ≡ false → spelled read cs (text ++ p ∷ more) ≡ false
  past [] text p more other none = absurd cc
  past (c ∷ cs) [] p more other none = grind (arith, nat_tests)
  past (c ∷ cs) (x ∷ xs) p more other none = grind (arith, nat_tests, past cs xs p more)

-- WHAT THEY ARE

-- no mark begins the text
record NoMark (text : List Placed) : Type 0 where
  no_dashes : spelled (λ c. c) (codes "--") text ≡ false
  no_doctype : spelled to_ascii_lowercase (codes "doctype") text ≡ false
  no_cdata : spelled (λ c. c) (codes "[CDATA[") text ≡ false

marks : (text : List Placed)
    → is_declaration text ≡ (spelled (λ c. c) (codes "--") text || spelled to_ascii_lowercase (codes "doctype") text || spelled (λ c. c) (codes "[CDATA[") text)
marks text = rw (as_it_is (codes "--") text, in_any_case (codes "doctype") text, as_it_is (codes "[CDATA[") text) refl

no_mark : (text : List Placed) → is_declaration text ≡ false → NoMark text
no_mark text none = parts (spelled (λ c. c) (codes "--") text) (spelled to_ascii_lowercase (codes "doctype") text) (spelled (λ c. c) (codes "[CDATA[") text)
    refl refl refl (sym (marks text) ∙ none) where
      parts : (a b c : Bool) → spelled (λ c. c) (codes "--") text ≡ a → spelled to_ascii_lowercase (codes "doctype") text ≡ b
          → spelled (λ c. c) (codes "[CDATA[") text ≡ c → (a || b || c) ≡ false → NoMark text
      parts false false false a b c h = record { no_dashes = a; no_doctype = b; no_cdata = c }
      parts _ _ _ a b c h = absurd (grind arith)

none_is : (text : List Placed) → NoMark text → is_declaration text ≡ false
none_is text n = marks text ∙ rw (n.no_dashes, n.no_doctype, n.no_cdata) refl

-- with what follows it
pub bogus_goes_on : (text more : List Placed) → 7 ≤ length text → is_declaration text ≡ false → is_declaration (text ++ more) ≡ false
bogus_goes_on text more l none = let n = no_mark text none in
    none_is (text ++ more) (record {
      no_dashes = long _ (codes "--") text more (omega (arith, l)) ∙ n.no_dashes;
      no_doctype = long _ (codes "doctype") text more l ∙ n.no_doctype;
      no_cdata = long _ (codes "[CDATA[") text more l ∙ n.no_cdata;
    })

-- with a character after it that no mark has
pub bogus_at : (text : List Placed) (p : Placed) (more : List Placed) → is_declaration text ≡ false → is_plain_in_bogus p.ch ≡ false
    → is_declaration (text ++ p ∷ more) ≡ false
bogus_at text p more none other = let n = no_mark text none in
    none_is (text ++ p ∷ more) (record {
      no_dashes = past _ (codes "--") text p more (grind (arith, nat_tests)) n.no_dashes;
      no_doctype = past _ (codes "doctype") text p more (grind (arith, nat_tests)) n.no_doctype;
      no_cdata = past _ (codes "[CDATA[") text p more (grind (arith, nat_tests)) n.no_cdata;
    })

-- with one more plain character
module _ {text : List Placed} (p : Placed) (o : OpensNothing text) where
  pub nothing_yet : is_plain_in_bogus p.ch ≡ true → OpensAs opens.Nothing (text ++ p ∷ []) → OpensNothing (text ++ p ∷ [])
  nothing_yet plain (few, none) = record {
    few = few;
    plain = all-one is_plain_in_bogus text p o.plain plain;
    none = none_is (text ++ p ∷ []) (record {
      no_dashes = sym (as_it_is (codes "--") (text ++ p ∷ [])) ∙ none;
      no_doctype = short _ (codes "doctype") (text ++ p ∷ []) few;
      no_cdata = short _ (codes "[CDATA[") (text ++ p ∷ []) few;
    });
  }

  pub whole_dashes : OpensAs opens.Comment (text ++ p ∷ []) → characters (text ++ p ∷ []) ≡ codes "--"
  whole_dashes is = whole (λ c. c) (codes "--") text p (no_mark text o.none).no_dashes (sym (as_it_is (codes "--") (text ++ p ∷ [])) ∙ is)

  pub whole_doctype : OpensAs opens.Doctype (text ++ p ∷ []) → lowered (text ++ p ∷ []) ≡ codes "doctype"
  whole_doctype is =
      whole to_ascii_lowercase (codes "doctype") text p (no_mark text o.none).no_doctype (sym (in_any_case (codes "doctype") (text ++ p ∷ [])) ∙ is)

-- a whole mark begins the text
pub cdata_goes_on : (text more : List Placed) → is_cdata text ≡ true → is_cdata (text ++ more) ≡ true
cdata_goes_on text more is = as_it_is (codes "[CDATA[") (text ++ more) ∙ goes (codes "[CDATA[") text more (sym (as_it_is (codes "[CDATA[") text) ∙ is) where
  goes : (cs : List ℕ) (text more : List Placed) → spelled (λ c. c) cs text ≡ true → spelled (λ c. c) cs (text ++ more) ≡ true
  goes [] text more is = refl
  goes (c ∷ cs) [] more is = absurd cc
  goes (c ∷ cs) (p ∷ ps) more is = grind (arith, goes cs ps more)

pub place_first : (end : ℕ) (text : List Placed) (p : Placed) (more : List Placed) → place end (text ++ p ∷ more) ≡ place p.at text
place_first end [] p more = refl
place_first end (x ∷ xs) p more = refl

pub too_short : (any_case : Bool) (word : List ℕ) (text : List Placed) → length text < length word → spells_as any_case word text ≡ false
too_short any_case word text l = in_case any_case word text ∙ short (folded_as any_case) word text l

pub plain_take : (ps : List Placed) (i : ℕ) (d : Placed) → i < length ps → is_plain_in_bogus (get_or ps i d).ch ≡ true
    → all is_plain_in_bogus (take i ps) ≡ true → all is_plain_in_bogus (take (i + 1) ps) ≡ true
plain_take ps i d l one h = let more : i + 1 ≡ suc i = omega arith in rw (more, take-suc ps i d l) (all-one is_plain_in_bogus (take i ps) (get_or ps i d) h one)

pub plain_at : (ps : List Placed) (i : ℕ) (d : Placed) → i < length ps → all is_plain_in_bogus ps ≡ true → is_plain_in_bogus (get_or ps i d).ch ≡ true
plain_at [] i d l h = absurd (omega arith)
plain_at (p ∷ ps) zero d l h = (and_parts (is_plain_in_bogus p.ch) (all is_plain_in_bogus ps) h).0
plain_at (p ∷ ps) (suc i) d l h = plain_at ps i d (omega arith) (and_parts (is_plain_in_bogus p.ch) (all is_plain_in_bogus ps) h).1
