-- The classes of texts, by their first characters. Each production of data is at the front of one class.
use Rattle.htoken.proofs.Names.{arith, nat_tests, ◌≡◌, ℕ, Bool, true, false, not, ◌||◌, eqb, List, [], ◌∷◌, ◌++◌, sym, refl, ap, ◌∙◌, subst, codes, eqb-true, false≢true, to_ascii_lowercase, Placed, characters, lowered, begins, spells, spells_in_any_case, is_letter, is_greater, and_parts, and_both, first_is, is_cdata, is_declaration, is_no_markup}
use Rattle.htoken.proofs.OneTag.{Side, Opens, Ends, mark_of}
use Rattle.htoken.proofs.Words.{lower_is}

pub data Class : Type 0 where
  -- nothing at all
  Empty : Class
  -- another character than `<` and `&`
  Alone : Class
  -- `&`
  Ampersand : Class
  -- `<` or `</`, and then the input's end
  LessLast : Class
  -- `<` before what begins no markup
  Less : Class
  -- `</>`
  Nothing : Class
  ATag : Side → Class
  -- a comment; and what is read as one: after `</`, `<?`, `<![CDATA[` and `<!`
  AComment : Class
  BogusEnd : Class
  BogusQuestion : Class
  BogusCdata : Class
  BogusDeclaration : Class
  ADoctype : Class

-- after `<!`: whether `doctype` follows, `--` or `[CDATA[`
abbrev pub class_declaration : Bool → Bool → Bool → Class
class_declaration true dashes cdata = ADoctype
class_declaration false true cdata = AComment
class_declaration false false true = BogusCdata
class_declaration false false false = BogusDeclaration

abbrev pub class_bang : List Placed → Class
class_bang more = class_declaration (spells_in_any_case (codes "doctype") more) (spells (codes "--") more) (is_cdata more)

-- after `</`: whether a letter follows, or `>`
abbrev pub class_end : Bool → Bool → Class
class_end true greater = ATag Ends
class_end false true = Nothing
class_end false false = BogusEnd

abbrev pub class_solidus : List Placed → Class
class_solidus [] = LessLast
class_solidus (p ∷ ps) = class_end (is_letter p.ch) (is_greater p.ch)

-- after `<`: whether a letter follows, `/`, `!` or `?`
abbrev pub class_markup : Bool → Bool → Bool → Bool → List Placed → Class
class_markup true slash bang question more = ATag Opens
class_markup false true bang question more = class_solidus more
class_markup false false true question more = class_bang more
class_markup false false false true more = BogusQuestion
class_markup false false false false more = Less

abbrev pub class_after : ℕ → List Placed → Class
class_after c more = class_markup (is_letter c) (eqb c 47) (eqb c 33) (eqb c 63) more

abbrev pub class_less : List Placed → Class
class_less [] = LessLast
class_less (p ∷ ps) = class_after p.ch ps

abbrev pub class_first : Bool → Bool → List Placed → Class
class_first true amp more = class_less more
class_first false true more = Ampersand
class_first false false more = Alone

abbrev pub class_of : List Placed → Class
class_of [] = Empty
class_of (p ∷ ps) = class_first (eqb p.ch 60) (eqb p.ch 38) ps

-- past a mark
pub past_less : (p : Placed) (rest : List Placed) → p.ch ≡ 60 → class_of (p ∷ rest) ≡ class_less rest
past_less p rest h = ap (λ (c : ℕ). class_first (eqb c 60) (eqb c 38) rest) h

pub past_bang : (p q : Placed) (rest : List Placed) → p.ch ≡ 60 → q.ch ≡ 33 → class_of (p ∷ q ∷ rest) ≡ class_bang rest
past_bang p q rest h k = past_less p (q ∷ rest) h ∙ ap (λ (c : ℕ). class_after c rest) k

pub alone_class : (a b : Bool) (more : List Placed) → (a || b) ≡ false → class_first a b more ≡ Alone
alone_class false false more h = refl
alone_class _ _ more h = absurd (false≢true (sym h))

pub amp_class : (text more : List Placed) → begins (λ c. eqb c 38) text ≡ true → class_of (text ++ more) ≡ Ampersand
amp_class [] more h = absurd (false≢true h)
amp_class (p ∷ ps) more h = ap (λ (c : ℕ). class_first (eqb c 60) (eqb c 38) (ps ++ more)) (eqb-true p.ch 38 h)

pub opens_less : (opening rest : List Placed) → characters opening ≡ codes "<" → class_of (opening ++ rest) ≡ class_less rest
opens_less (p ∷ []) rest h = let is : p.ch ≡ 60 = cc in past_less p rest is
opens_less _ rest h = absurd cc

pub opens_solidus : (opening rest : List Placed) → characters opening ≡ codes "</" → class_of (opening ++ rest) ≡ class_solidus rest
opens_solidus (p ∷ q ∷ []) rest h = let is : p.ch ≡ 60 = cc in let then : q.ch ≡ 47 = cc in past_less p (q ∷ rest) is ∙ ap (λ (c : ℕ). class_after c rest) then
opens_solidus _ rest h = absurd cc

pub opens_bang : (opening rest : List Placed) → characters opening ≡ codes "<!" → class_of (opening ++ rest) ≡ class_bang rest
opens_bang (p ∷ q ∷ []) rest h = let is : p.ch ≡ 60 = cc in let then : q.ch ≡ 33 = cc in past_bang p q rest is then
opens_bang _ rest h = absurd cc

dashes_class : (r s : Placed) (rest : List Placed) → r.ch ≡ 45 → s.ch ≡ 45 → class_bang (r ∷ s ∷ rest) ≡ AComment
dashes_class r s rest h k = rw (h, k) refl

pub opens_comment : (opening rest : List Placed) → characters opening ≡ codes "<!--" → class_of (opening ++ rest) ≡ AComment
opens_comment (p ∷ q ∷ r ∷ s ∷ []) rest h = let is : p.ch ≡ 60 = cc in let then : q.ch ≡ 33 = cc in let dash : r.ch ≡ 45 = cc in let other : s.ch ≡ 45 = cc in
    past_bang p q (r ∷ s ∷ rest) is then ∙ dashes_class r s rest dash other
opens_comment _ rest h = absurd cc

spells_low : (xs rest : List Placed) → spells_in_any_case (lowered xs) (xs ++ rest) ≡ true
spells_low [] rest = refl
spells_low (x ∷ xs) rest = grind (arith, nat_tests, spells_low xs rest)

low_tail : (x : Placed) (xs : List Placed) (c : ℕ) (cs : List ℕ) → lowered (x ∷ xs) ≡ c ∷ cs → (to_ascii_lowercase x.ch ≡ c) × (lowered xs ≡ cs)
low_tail x xs c cs h = let a : to_ascii_lowercase x.ch ≡ c = cc in let b : lowered xs ≡ cs = cc in (a, b)

pub opens_doctype : (opening rest : List Placed) → lowered opening ≡ codes "<!doctype" → class_of (opening ++ rest) ≡ ADoctype
opens_doctype [] rest h = absurd cc
opens_doctype (p ∷ []) rest h = let k = low_tail p [] 60 (codes "!doctype") h in let never : lowered [] ≡ codes "!doctype" = k.1 in absurd cc
opens_doctype (p ∷ q ∷ ps) rest h = let k = low_tail p (q ∷ ps) 60 (codes "!doctype") h in let l = low_tail q ps 33 (codes "doctype") k.1 in
    past_bang p q (ps ++ rest) (lower_is p.ch 60 k.0 refl) (lower_is q.ch 33 l.0 refl)
    ∙ ap (λ (b : Bool). class_declaration b (spells (codes "--") (ps ++ rest)) (is_cdata (ps ++ rest)))
    (subst (λ (cs : List ℕ). spells_in_any_case cs (ps ++ rest) ≡ true) l.1 (spells_low ps rest))

-- what follows it
pub spells_more : (cs : List ℕ) (xs ys : List Placed) → spells cs xs ≡ true → spells cs (xs ++ ys) ≡ true
spells_more [] xs ys h = refl
spells_more (c ∷ cs) [] ys h = absurd (false≢true h)
spells_more (c ∷ cs) (x ∷ xs) ys h = let k = and_parts (eqb x.ch c) (spells cs xs) h in
    and_both (eqb x.ch c) (spells cs (xs ++ ys)) k.0 (spells_more cs xs ys k.1)

pub cdata_follows : (text : List Placed) → is_cdata text ≡ true → class_bang text ≡ BogusCdata
cdata_follows [] h = absurd (false≢true h)
cdata_follows (p ∷ ps) h = let k = and_parts (eqb p.ch 91) (spells (codes "CDATA[") ps) h in rw (eqb-true p.ch 91 k.0, k.1) refl

pub cdata_more : (body rest : List Placed) → is_cdata body ≡ true → class_bang (body ++ rest) ≡ BogusCdata
cdata_more body rest h = cdata_follows (body ++ rest) (spells_more (codes "[CDATA[") body rest h)

pub declaration_follows : (text : List Placed) → is_declaration text ≡ false → class_bang text ≡ BogusDeclaration
declaration_follows text h = grind arith

pub letter_follows : (rest : List Placed) → begins is_letter rest ≡ true → class_less rest ≡ ATag Opens
letter_follows [] h = absurd (false≢true h)
letter_follows (p ∷ ps) h = ap (λ (b : Bool). class_markup b (eqb p.ch 47) (eqb p.ch 33) (eqb p.ch 63) ps) h

pub letter_ends : (rest : List Placed) → begins is_letter rest ≡ true → class_solidus rest ≡ ATag Ends
letter_ends [] h = absurd (false≢true h)
letter_ends (p ∷ ps) h = ap (λ (b : Bool). class_end b (is_greater p.ch)) h

pub greater_follows : (close rest : List Placed) → characters close ≡ codes ">" → class_solidus (close ++ rest) ≡ Nothing
greater_follows [] rest h = absurd cc
greater_follows (p ∷ ps) rest h = ap (λ (c : ℕ). class_end (is_letter c) (is_greater c)) (first_is p ps 62 [] h)

pub question_follows : (rest : List Placed) → begins (λ c. eqb c 63) rest ≡ true → class_less rest ≡ BogusQuestion
question_follows [] h = absurd (false≢true h)
question_follows (p ∷ ps) h = ap (λ (c : ℕ). class_after c ps) (eqb-true p.ch 63 h)

pub other_ends : (rest : List Placed) → begins (λ c. not (is_letter c || is_greater c)) rest ≡ true → class_solidus rest ≡ BogusEnd
other_ends [] h = absurd (false≢true h)
other_ends (p ∷ ps) h = grind (arith, nat_tests)

pub no_markup_follows : (rest : List Placed) → is_no_markup rest ≡ true → class_less rest ≡ Less
no_markup_follows [] h = absurd (false≢true h)
no_markup_follows (p ∷ ps) h = grind (arith, nat_tests)

pub end_follows : (rest : List Placed) → characters rest ≡ [] → class_less rest ≡ LessLast
end_follows [] h = refl
end_follows (p ∷ ps) h = absurd cc

pub solidus_and_end_follow : (rest : List Placed) → characters rest ≡ codes "/" → class_less rest ≡ LessLast
solidus_and_end_follow (p ∷ []) h = let is : p.ch ≡ 47 = cc in ap (λ (c : ℕ). class_after c []) is
solidus_and_end_follow _ h = absurd cc

-- a tag's mark and a letter
pub tag_class : (side : Side) (opening rest : List Placed) → characters opening ≡ mark_of side → begins is_letter rest ≡ true
    → class_of (opening ++ rest) ≡ ATag side
tag_class Opens opening rest h k = opens_less opening rest h ∙ letter_follows rest k
tag_class Ends opening rest h k = opens_solidus opening rest h ∙ letter_ends rest k
