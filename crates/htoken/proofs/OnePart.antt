-- One part of a tag at most is at the front of the text after its name.
use Rattle.htoken.proofs.Names.{arith, inl, inr, nat_tests, ◌≡◌, ℕ, Bool, true, false, not, ◌&&◌, ◌||◌, ◌==◌, eqb, if◌then◌else◌, List, [], ◌∷◌, ◌++◌, drop, None, sym, refl, ap, ◌∙◌, subst, codes, append_assoc, append-nil, false≢true, eqb-true, ParseError, MissingAttributeValue, Placed, characters, place, begins, stops, all, RunsTo, past, is_empty, is_space, is_equals, is_greater, is_quote, and_parts, and_both, eqb_self, first_is, Entities, Piece, AreValue, pieces_text, value_bytes, Part, IsPart, IsAttributeName, ends_name, ends_attribute_name, ends_unquoted, is_sign, value_errors, unquoted_errors, attribute_part, space, solidus, bare, no_value, unquoted, quoted, unclosed, MissingWhitespaceBetweenAttributes, UnexpectedSolidusInTag, error_if, quote_is, quote_not_space}
use Rattle.std.proofs.Common.{◌⊎◌}
use Rattle.htoken.proofs.Words.{heads, tails, same_mark, one_run, goes_no_further, begins_more, single, no_mark, one_value}

-- THE END OF AN ATTRIBUTE: what is after `=` and the white space round it

-- the quote again, or the end of the text
abbrev IsClose : ℕ → List Placed → List Placed → Type 0
IsClose mark close rest = (characters close ≡ mark ∷ []) ⊎ ((close ≡ []) × (rest ≡ []))

abbrev close_errors : ℕ → List Placed → List ParseError
close_errors end rest = error_if (not (stops ends_name rest)) MissingWhitespaceBetweenAttributes (place end rest)

one_close : (mark : ℕ) (close close' rest rest' : List Placed) → IsClose mark close rest → IsClose mark close' rest' → close ++ rest ≡ close' ++ rest'
    → (close ≡ close') × (rest ≡ rest')
one_close mark close close' rest rest' (inl c) (inl c') e = same_mark (mark ∷ []) close rest close' rest' c c' e
one_close mark close close' rest rest' (inl c) (inr n) e = absurd (no_mark mark close rest c (sym (e ∙ rw (n.0, n.1) refl)))
one_close mark close close' rest rest' (inr n) (inl c') e = absurd (no_mark mark close' rest' c' (sym (rw (n.0, n.1) refl) ∙ e))
one_close mark close close' rest rest' (inr n) (inr n') e = (n.0 ∙ sym n'.0, n.1 ∙ sym n'.1)

data IsTail (table : Entities) (end : ℕ) (rest tail : List Placed) (value : List ℕ) (errors : List ParseError) : Type 0 where
  nothing : tail ≡ [] → stops is_greater rest ≡ true → value ≡ [] → errors ≡ error_if (not (is_empty rest)) MissingAttributeValue (place end rest)
      → IsTail table end rest tail value errors
  plain : (pieces : List Piece) → tail ≡ pieces_text pieces → begins (λ c. not (ends_unquoted c || is_quote c)) (pieces_text pieces) ≡ true
      → RunsTo ends_unquoted (pieces_text pieces) rest → AreValue table pieces → value ≡ value_bytes pieces → errors ≡ unquoted_errors pieces
      → IsTail table end rest tail value errors
  enclosed : (q : Placed) (close : List Placed) (pieces : List Piece) → tail ≡ q ∷ (pieces_text pieces ++ close) → is_quote q.ch ≡ true
      → all (λ c. not (c == q.ch)) (pieces_text pieces) ≡ true → AreValue table pieces → IsClose q.ch close rest → value ≡ value_bytes pieces
      → errors ≡ value_errors pieces ++ close_errors end rest → IsTail table end rest tail value errors

data PartKind : Type 0 where
  Nothing : PartKind
  Plain : PartKind
  Quoted : PartKind

abbrev kind_by : Bool → Bool → PartKind
kind_by true quote = Nothing
kind_by false true = Quoted
kind_by false false = Plain

abbrev kind_of : List Placed → PartKind
kind_of [] = Nothing
kind_of (p ∷ ps) = kind_by (is_greater p.ch) (is_quote p.ch)

nothing_kind : (rest : List Placed) → stops is_greater rest ≡ true → (kind_of rest ≡ Nothing) × (begins is_space rest ≡ false)
nothing_kind [] h = (refl, refl)
nothing_kind (p ∷ ps) h = (ap (λ (b : Bool). kind_by b (is_quote p.ch)) h, ap is_space (eqb-true p.ch 62 h))

plain_kind : (text : List Placed) → begins (λ c. not (ends_unquoted c || is_quote c)) text ≡ true → (kind_of text ≡ Plain) × (begins is_space text ≡ false)
plain_kind [] h = absurd (false≢true h)
plain_kind (p ∷ ps) h = (grind (arith, nat_tests), grind (arith, nat_tests))

record IsSame (rest rest' tail tail' : List Placed) (value value' : List ℕ) (errors errors' : List ParseError) : Type 0 where
  tails_are : tail ≡ tail'
  rests : rest ≡ rest'
  values : value ≡ value'
  errors_are : errors ≡ errors'

module _ (table : Entities) (end : ℕ) where
  abbrev kind : (rest tail : List Placed) (value : List ℕ) (errors : List ParseError) → IsTail table end rest tail value errors → PartKind
  kind rest tail value errors (nothing t s v es) = Nothing
  kind rest tail value errors (plain pieces t b runs are v es) = Plain
  kind rest tail value errors (enclosed q close pieces t is a are c v es) = Quoted

  tail_kind : (rest : List Placed) {tail : List Placed} {value : List ℕ} {errors : List ParseError} (h : IsTail table end rest tail value errors)
      → (kind_of (tail ++ rest) ≡ kind rest tail value errors h) × (begins is_space (tail ++ rest) ≡ false)
  tail_kind rest (nothing t s v es) = rw t (nothing_kind rest s)
  tail_kind rest (plain pieces t b runs are v es) = rw t (plain_kind (pieces_text pieces ++ rest) (begins_more _ (pieces_text pieces) rest b))
  tail_kind rest (enclosed q close pieces t is a are c v es) = rw t
      (quote_is q.ch is (λ c. kind_by (is_greater c) (is_quote c) ≡ Quoted) refl refl, quote_not_space q.ch is)

  not_mark : (q : Placed) (close rest : List Placed) → IsClose q.ch close rest → begins (λ c. not (c == q.ch)) (close ++ rest) ≡ false
  not_mark q [] rest (inl h) = absurd cc
  not_mark q (p ∷ ps) rest (inl h) = cc (first_is p ps q.ch [] h, eqb_self q.ch)
  not_mark q close rest (inr h) = rw (h.0, h.1) refl

  -- inside quotes
  inside : (q q' : Placed) (pieces pieces' : List Piece) (after after' : List Placed) → all (λ c. not (c == q.ch)) (pieces_text pieces) ≡ true
      → all (λ c. not (c == q'.ch)) (pieces_text pieces') ≡ true → AreValue table pieces → AreValue table pieces' → begins (λ c. not (c == q.ch)) after ≡ false
      → begins (λ c. not (c == q'.ch)) after' ≡ false → q ∷ (pieces_text pieces ++ after) ≡ q' ∷ (pieces_text pieces' ++ after')
      → (q ≡ q') × (pieces ≡ pieces') × (after ≡ after')
  inside q q' pieces pieces' after after' a a' are are' s s' e =
      let first : q ≡ q' = heads q q' (pieces_text pieces ++ after) (pieces_text pieces' ++ after') e in
      let back : q'.ch ≡ q.ch = ap (λ (p : Placed). p.ch) (sym first) in
      let same = one_run (λ c. not (c == q.ch)) (pieces_text pieces) after (pieces_text pieces') after' a s (rw (← back) a') (rw (← back) s')
      (tails q q' (pieces_text pieces ++ after) (pieces_text pieces' ++ after') e) in
      (first, one_value table pieces pieces' are are' same.0, same.1)

  module _ {rest rest' tail tail' : List Placed} {value value' : List ℕ} {errors errors' : List ParseError} (e : tail ++ rest ≡ tail' ++ rest') where
    one_by : (h : IsTail table end rest tail value errors) (h' : IsTail table end rest' tail' value' errors')
        → kind rest tail value errors h ≡ kind rest' tail' value' errors' h' → IsSame rest rest' tail tail' value value' errors errors'
    one_by (nothing t s v es) (nothing t' s' v' es') same_kind = let rests : rest ≡ rest' = cc in
        record { tails_are = t ∙ sym t'; rests = rests; values = v ∙ sym v'; errors_are = cc (rests) }
    one_by (plain pieces t b runs are v es) (plain pieces' t' b' runs' are' v' es') same_kind =
        let whole : pieces_text pieces ++ rest ≡ pieces_text pieces' ++ rest' = cc in
        let same = one_run (λ c. not (ends_unquoted c)) (pieces_text pieces) rest (pieces_text pieces') rest' runs.passes_none
        (goes_no_further ends_unquoted rest runs.stops_after) runs'.passes_none (goes_no_further ends_unquoted rest' runs'.stops_after) whole in
        let value_is : pieces ≡ pieces' = one_value table pieces pieces' are are' same.0 in
        record {
          tails_are = t ∙ same.0 ∙ sym t';
          rests = same.1;
          values = v ∙ ap value_bytes value_is ∙ sym v';
          errors_are = es ∙ ap unquoted_errors value_is ∙ sym es';
        }
    one_by (enclosed q close pieces t is a are c v es) (enclosed q' close' pieces' t' is' a' are' c' v' es') same_kind =
        let whole : q ∷ (pieces_text pieces ++ (close ++ rest)) ≡ q' ∷ (pieces_text pieces' ++ (close' ++ rest')) = cc
        (append_assoc (pieces_text pieces) close rest, append_assoc (pieces_text pieces') close' rest') in
        let same = inside q q' pieces pieces' (close ++ rest) (close' ++ rest') a a' are are' (not_mark q close rest c) (not_mark q' close' rest' c') whole in
        let closes = one_close q.ch close close' rest rest' c (rw same.0 c') same.2 in
        record {
          tails_are = t ∙ (λ i. same.0 i ∷ (pieces_text (same.1 i) ++ closes.0 i)) ∙ sym t';
          rests = closes.1;
          values = v ∙ ap value_bytes same.1 ∙ sym v';
          errors_are = es ∙ (λ i. value_errors (same.1 i) ++ close_errors end (closes.1 i)) ∙ sym es';
        }
    one_by _ _ same_kind = absurd cc

-- WHAT A SIGN IS

record IsSplitSign (sign : List Placed) : Type 0 where
  front : List Placed
  equals : Placed
  back : List Placed
  sign_is : sign ≡ front ++ (equals ∷ back)
  front_spaces : all is_space front ≡ true
  equals_is : equals.ch ≡ 61
  back_spaces : all is_space back ≡ true

split_by : (p : Placed) (ps : List Placed) (b : Bool) → is_space p.ch ≡ b → (is_sign ps ≡ true → IsSplitSign ps)
    → (begins is_equals (if not b then p ∷ ps else past is_space ps) && all is_space (drop 1 (if not b then p ∷ ps else past is_space ps))) ≡ true
    → IsSplitSign (p ∷ ps)
split_by p ps true e next h = let k = next h in
    record {
      front = p ∷ k.front;
      equals = k.equals;
      back = k.back;
      sign_is = ap (λ (x : List Placed). p ∷ x) k.sign_is;
      front_spaces = and_both (is_space p.ch) (all is_space k.front) e k.front_spaces;
      equals_is = k.equals_is;
      back_spaces = k.back_spaces;
    }
split_by p ps false e next h = let k = and_parts (is_equals p.ch) (all is_space ps) h in
    record { front = []; equals = p; back = ps; sign_is = refl; front_spaces = refl; equals_is = eqb-true p.ch 61 k.0; back_spaces = k.1 }

split_sign : (sign : List Placed) → is_sign sign ≡ true → IsSplitSign sign
split_sign [] h = absurd (false≢true h)
split_sign (p ∷ ps) h = split_by p ps (is_space p.ch) refl (split_sign ps) h

one_sign : (sign sign' x x' : List Placed) → is_sign sign ≡ true → is_sign sign' ≡ true → begins is_space x ≡ false → begins is_space x' ≡ false
    → sign ++ x ≡ sign' ++ x' → (sign ≡ sign') × (x ≡ x')
one_sign sign sign' x x' h h' s s' e = let k = split_sign sign h in let k' = split_sign sign' h' in
    let whole : k.front ++ (k.equals ∷ (k.back ++ x)) ≡ k'.front ++ (k'.equals ∷ (k'.back ++ x')) = cc
    (append_assoc k.front (k.equals ∷ k.back) x, append_assoc k'.front (k'.equals ∷ k'.back) x') in
    let fronts = one_run is_space k.front (k.equals ∷ (k.back ++ x)) k'.front (k'.equals ∷ (k'.back ++ x')) k.front_spaces (ap is_space k.equals_is)
    k'.front_spaces (ap is_space k'.equals_is) whole in
    let backs = one_run is_space k.back x k'.back x' k.back_spaces s k'.back_spaces s' (tails k.equals k'.equals (k.back ++ x) (k'.back ++ x') fronts.1) in
    (cc (fronts.0, heads k.equals k'.equals (k.back ++ x) (k'.back ++ x') fronts.1, backs.0), backs.1)

-- a sign is past white space
sign_follows : (sign x : List Placed) → is_sign sign ≡ true → begins is_equals (past is_space (sign ++ x)) ≡ true
sign_follows [] x h = absurd (false≢true h)
sign_follows (p ∷ ps) x h = grind (arith, nat_tests, sign_follows ps x)

-- ATTRIBUTES

data IsAttribute (table : Entities) (end : ℕ) (rest others : List Placed) (value : List ℕ) (errors : List ParseError) : Type 0 where
  without : others ≡ [] → begins is_equals (past is_space rest) ≡ false → value ≡ [] → errors ≡ [] → IsAttribute table end rest others value errors
  valued : (sign tail : List Placed) → others ≡ sign ++ tail → is_sign sign ≡ true → IsTail table end rest tail value errors
      → IsAttribute table end rest others value errors

module _ {table : Entities} {end : ℕ} {rest rest' others others' : List Placed} {value value' : List ℕ} {errors errors' : List ParseError}
    (e : others ++ rest ≡ others' ++ rest') where
  one_attribute : IsAttribute table end rest others value errors → IsAttribute table end rest' others' value' errors'
      → IsSame rest rest' others others' value value' errors errors'
  one_attribute (without o n v es) (without o' n' v' es') = record { tails_are = o ∙ sym o'; rests = cc; values = v ∙ sym v'; errors_are = es ∙ sym es' }
  one_attribute (without o n v es) (valued sign' tail' o' s' t') = let whole : rest ≡ sign' ++ (tail' ++ rest') = cc (append_assoc sign' tail' rest') in
      absurd (false≢true (cc (sign_follows sign' (tail' ++ rest') s')))
  one_attribute (valued sign tail o s t) (without o' n' v' es') = let whole : rest' ≡ sign ++ (tail ++ rest) = cc (append_assoc sign tail rest) in
      absurd (false≢true (cc (sign_follows sign (tail ++ rest) s)))
  one_attribute (valued sign tail o s t) (valued sign' tail' o' s' t') =
      let whole : sign ++ (tail ++ rest) ≡ sign' ++ (tail' ++ rest') = cc (append_assoc sign tail rest, append_assoc sign' tail' rest') in
      let signs = one_sign sign sign' (tail ++ rest) (tail' ++ rest') s s' (tail_kind table end rest t).1 (tail_kind table end rest' t').1 whole in
      let same = one_by table end signs.1 t t' (sym (tail_kind table end rest t).0 ∙ ap kind_of signs.1 ∙ (tail_kind table end rest' t').0) in
      record { tails_are = cc (signs.0); rests = same.rests; values = same.values; errors_are = same.errors_are }

one_name : (name name' after after' : List Placed) → IsAttributeName name after → IsAttributeName name' after' → name ++ after ≡ name' ++ after'
    → (name ≡ name') × (after ≡ after')
one_name [] name' after after' h h' e = absurd (false≢true h.first)
one_name (p ∷ ps) [] after after' h h' e = absurd (false≢true h'.first)
one_name (p ∷ ps) (q ∷ qs) after after' h h' e =
    let same = one_run (λ c. not (ends_attribute_name c)) ps after qs after' h.runs.passes_none (goes_no_further ends_attribute_name after h.runs.stops_after)
    h'.runs.passes_none (goes_no_further ends_attribute_name after' h'.runs.stops_after) (tails p q (ps ++ after) (qs ++ after') e) in
    (λ i. heads p q (ps ++ after) (qs ++ after') e i ∷ same.0 i, same.1)

-- PARTS

abbrev space_part : Placed → Part
space_part p = record { text = p ∷ []; attribute = None; errors = [] }

abbrev solidus_part : ℕ → List Placed → Placed → Part
solidus_part end rest p = record { text = p ∷ []; attribute = None; errors = error_if (not (is_empty rest)) UnexpectedSolidusInTag (place end rest) }

data IsNormal (table : Entities) (end : ℕ) (rest : List Placed) (part : Part) : Type 0 where
  a_space : (p : Placed) → is_space p.ch ≡ true → part ≡ space_part p → IsNormal table end rest part
  a_solidus : (p : Placed) → p.ch ≡ 47 → begins is_greater rest ≡ false → part ≡ solidus_part end rest p → IsNormal table end rest part
  an_attribute : (name others : List Placed) (value : List ℕ) (errors : List ParseError) → IsAttributeName name (others ++ rest)
      → IsAttribute table end rest others value errors → part ≡ attribute_part name others value errors → IsNormal table end rest part

-- a name up to a sign
name_before : {name : List Placed} (sign x : List Placed) → IsAttributeName name sign → is_sign sign ≡ true → IsAttributeName name (sign ++ x)
name_before [] x h s = absurd (false≢true s)
name_before (p ∷ ps) x h s = record { first = h.first; runs = record { passes_none = h.runs.passes_none; stops_after = h.runs.stops_after } }

valued_name : (name sign tail rest : List Placed) → IsAttributeName name sign → is_sign sign ≡ true → IsAttributeName name ((sign ++ tail) ++ rest)
valued_name name sign tail rest h s = rw (append_assoc sign tail rest) (name_before sign (tail ++ rest) h s)

module _ (table : Entities) (end : ℕ) (rest : List Placed) (part : Part) where
  in_quotes : (name sign quote close : List Placed) (value : List Piece) (mark : ℕ) → IsAttributeName name sign → is_sign sign ≡ true
      → characters quote ≡ mark ∷ [] → is_quote mark ≡ true → all (λ c. not (c == mark)) (pieces_text value) ≡ true → AreValue table value
      → IsClose mark close rest
      → part ≡ attribute_part name ((sign ++ quote) ++ (pieces_text value ++ close)) (value_bytes value) (value_errors value ++ close_errors end rest)
      → IsNormal table end rest part
  in_quotes name sign quote close value mark n s o m a are c is = let k = single quote mark o in let tail : List Placed = k.p ∷ (pieces_text value ++ close) in
      let all_is : (sign ++ quote) ++ (pieces_text value ++ close) ≡ sign ++ tail =
      append_assoc sign quote (pieces_text value ++ close) ∙ ap (λ (x : List Placed). sign ++ (x ++ (pieces_text value ++ close))) k.text_is in
      let back = sym k.ch_is in
      an_attribute name (sign ++ tail) (value_bytes value) _ (valued_name name sign tail rest n s)
      (valued sign tail refl s (enclosed k.p close value refl (subst (λ (x : ℕ). is_quote x ≡ true) back m)
      (subst (λ (x : ℕ). all (λ c. not (c == x)) (pieces_text value) ≡ true) back a) are (subst (λ (x : ℕ). IsClose x close rest) back c) refl refl))
      (is ∙ ap (λ (x : List Placed). attribute_part name x (value_bytes value) (value_errors value ++ close_errors end rest)) all_is)

  normal : IsPart table end rest part → IsNormal table end rest part
  normal (space p s is) = a_space p s is
  normal (solidus p s n is) = a_solidus p s n is
  normal (bare name n b is) = an_attribute name [] [] [] n (without refl b refl refl) is
  normal (no_value name sign n s r is) =
      an_attribute name sign [] _ (name_before sign rest n s) (valued sign [] (sym (append-nil sign)) s (nothing refl r refl refl)) is
  normal (unquoted name sign value n s b runs are is) = an_attribute name (sign ++ pieces_text value) (value_bytes value) (unquoted_errors value)
      (valued_name name sign (pieces_text value) rest n s) (valued sign (pieces_text value) refl s (plain value refl b runs are refl refl)) is
  normal (quoted name sign quote close value mark n s o m a are c is) =
      in_quotes name sign quote close value mark n s o m a are (inl c) (cc (append_assoc (sign ++ quote) (pieces_text value) close))
  normal (unclosed name sign quote value mark n s o m a are r is) =
      let errors : value_errors value ≡ value_errors value ++ close_errors end rest = cc (append-nil (value_errors value)) in
      in_quotes name sign quote [] value mark n s o m a are (inr (refl, r))
      (is ∙ (λ i. attribute_part name ((sign ++ quote) ++ sym (append-nil (pieces_text value)) i) (value_bytes value) (errors i)))

-- by their first character
pub data Class : Type 0 where
  Space : Class
  Solidus : Class
  Greater : Class
  Name : Class
  End : Class

abbrev pub class_by : Bool → Bool → Bool → Class
class_by true slash greater = Space
class_by false true greater = Solidus
class_by false false true = Greater
class_by false false false = Name

abbrev pub class_of : List Placed → Class
class_of [] = End
class_of (p ∷ ps) = class_by (is_space p.ch) (eqb p.ch 47) (is_greater p.ch)

name_class : (name more : List Placed) → begins (λ c. not (ends_name c)) name ≡ true → class_of (name ++ more) ≡ Name
name_class [] more h = absurd (false≢true h)
name_class (p ∷ ps) more h = grind (arith, nat_tests)

attribute_whole : (name others rest : List Placed) (value : List ℕ) (errors : List ParseError) (part : Part) → part ≡ attribute_part name others value errors
    → part.text ++ rest ≡ name ++ (others ++ rest)
attribute_whole name others rest value errors part is = ap (λ (x : Part). x.text ++ rest) is ∙ append_assoc name others rest

module _ {table : Entities} {end : ℕ} where
  abbrev class : (rest : List Placed) (part : Part) → IsNormal table end rest part → Class
  class rest part (a_space p s is) = Space
  class rest part (a_solidus p s n is) = Solidus
  class rest part (an_attribute name others value errors n a is) = Name

  class_is : {rest : List Placed} (more : List Placed) (part : Part) (h : IsNormal table end rest part) → class_of (part.text ++ more) ≡ class rest part h
  class_is more part (a_space p s is) = cc
  class_is more part (a_solidus p s n is) = cc
  class_is more part (an_attribute name others value errors n a is) =
      ap class_of (attribute_whole name others more value errors part is) ∙ name_class name (others ++ more) n.first

  module _ {rest rest' : List Placed} {part part' : Part} (e : part.text ++ rest ≡ part'.text ++ rest') where
    one_normal : (h : IsNormal table end rest part) (h' : IsNormal table end rest' part') → class rest part h ≡ class rest' part' h'
        → (part ≡ part') × (rest ≡ rest')
    one_normal (a_space p s is) (a_space p' s' is') same_class = let whole : p ∷ rest ≡ p' ∷ rest' = cc in
        (is ∙ ap space_part (heads p p' rest rest' whole) ∙ sym is', tails p p' rest rest' whole)
    one_normal (a_solidus p s n is) (a_solidus p' s' n' is') same_class = let whole : p ∷ rest ≡ p' ∷ rest' = cc in
        (cc (heads p p' rest rest' whole, tails p p' rest rest' whole), tails p p' rest rest' whole)
    one_normal (an_attribute name others value errors n a is) (an_attribute name' others' value' errors' n' a' is') same_class =
        let whole : name ++ (others ++ rest) ≡ name' ++ (others' ++ rest') =
        sym (attribute_whole name others rest value errors part is) ∙ e ∙ attribute_whole name' others' rest' value' errors' part' is' in
        let names = one_name name name' (others ++ rest) (others' ++ rest') n n' whole in
        let same = one_attribute names.1 a a' in
        (is ∙ (λ i. attribute_part (names.0 i) (same.tails_are i) (same.values i) (same.errors_are i)) ∙ sym is', same.rests)
    one_normal _ _ same_class = absurd cc

pub one_part : (table : Entities) (end : ℕ) (rest rest' : List Placed) (part part' : Part) → IsPart table end rest part → IsPart table end rest' part'
    → part.text ++ rest ≡ part'.text ++ rest' → (part ≡ part') × (rest ≡ rest')
one_part table end rest rest' part part' h h' e = let k = normal table end rest part h in let k' = normal table end rest' part' h' in
    one_normal e k k' (sym (class_is rest part k) ∙ ap class_of e ∙ class_is rest' part' k')

-- NO PART BEGINS WHERE A TAG ENDS

abbrev begins_part : Class → Bool
begins_part Greater = false
begins_part End = false
begins_part _ = true

begun : (table : Entities) (end : ℕ) (rest more : List Placed) (part : Part) → IsPart table end rest part → begins_part (class_of (part.text ++ more)) ≡ true
begun table end rest more part h = by (normal table end rest part h) where
  by : IsNormal table end rest part → begins_part (class_of (part.text ++ more)) ≡ true
  by (a_space p s is) = ap begins_part (class_is {table = table} {end = end} {rest = rest} more part (a_space p s is))
  by (a_solidus p s n is) = ap begins_part (class_is {table = table} {end = end} {rest = rest} more part (a_solidus p s n is))
  by (an_attribute name others value errors n a is) =
      ap begins_part (class_is {table = table} {end = end} {rest = rest} more part (an_attribute name others value errors n a is))

-- at the end of the text
pub none_at_end : (table : Entities) (end : ℕ) (rest more : List Placed) (part : Part) → IsPart table end rest part → [] ≡ part.text ++ more → ⊥
none_at_end table end rest more part h e = false≢true (cc (begun table end rest more part h))

-- at `>`
pub none_at_greater : (table : Entities) (end : ℕ) (close after rest : List Placed) (part : Part) → characters close ≡ codes ">" → IsPart table end rest part
    → close ++ after ≡ part.text ++ rest → ⊥
none_at_greater table end close after rest part c h e = let k = single close 62 c in
    let greater : class_of (close ++ after) ≡ Greater =
    ap (λ (x : List Placed). class_of (x ++ after)) k.text_is ∙ ap (λ (c : ℕ). class_by (is_space c) (eqb c 47) (is_greater c)) k.ch_is in
    false≢true (sym (ap begins_part greater) ∙ ap (λ (x : List Placed). begins_part (class_of x)) e ∙ begun table end rest rest part h)

-- at `/>`
pub none_at_close : (table : Entities) (end : ℕ) (q r : Placed) (after rest : List Placed) (part : Part) → q.ch ≡ 47 → r.ch ≡ 62 → IsPart table end rest part
    → q ∷ r ∷ after ≡ part.text ++ rest → ⊥
none_at_close table end q r after rest part s g h e = by (normal table end rest part h) where
  by : IsNormal table end rest part → ⊥
  by (a_solidus p k n is) = let whole : q ∷ (r ∷ after) ≡ p ∷ rest = e ∙ ap (λ (x : Part). x.text ++ rest) is in
      false≢true (cc (tails q p (r ∷ after) rest whole))
  by n = let no_way : Solidus ≡ class rest part n = cc (class_is rest part n) in absurd cc
