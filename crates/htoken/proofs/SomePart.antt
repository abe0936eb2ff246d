-- A part of a tag is at the front of each text where a tag does not end.
use Rattle.htoken.proofs.Names.{nat_tests, arith, ◌≡◌, ℕ, zero, suc, ◌≤◌, Bool, true, false, not, ◌&&◌, ◌||◌, ◌==◌, eqb, if◌then◌else◌, List, [], ◌∷◌, ◌++◌, length, drop, sym, refl, ap, ◌∙◌, append_assoc, append-nil, length-append, false≢true, eqb-true, not_second, Placed, begins, stops, all, RunsTo, past, is_space, is_equals, is_greater, is_quote, and_both, or_none, Entities, Piece, IsTable, IsValuePiece, plain, plain_piece, AreValue, pieces_text, Part, IsPart, AreParts, parts_text, IsAttributeName, ends_name, ends_attribute_name, ends_unquoted, is_sign, space, solidus, bare, no_value, unquoted, quoted, unclosed, some_of, or_parts, not-true, not_either}
use Rattle.htag.specs.Value.{reference}
use Rattle.htoken.proofs.Words.{begins_more, is_amp, at_amp}

-- A text is a run up to the first character that passes, and what follows it.
pub record IsSplit (test : ℕ → Bool) (text : List Placed) : Type 0 where
  pub run : List Placed
  pub after : List Placed
  pub text_is : text ≡ run ++ after
  pub runs : RunsTo test run after

split_here : (test : ℕ → Bool) (p : Placed) (ps : List Placed) (b : Bool) → test p.ch ≡ b → IsSplit test ps → IsSplit test (p ∷ ps)
split_here test p ps true e k = record { run = []; after = p ∷ ps; text_is = refl; runs = record { passes_none = refl; stops_after = e } }
split_here test p ps false e k = record {
  run = p ∷ k.run;
  after = k.after;
  text_is = ap (λ (x : List Placed). p ∷ x) k.text_is;
  runs = record { passes_none = and_both (not (test p.ch)) (all (λ c. not (test c)) k.run) (ap not e) k.runs.passes_none; stops_after = k.runs.stops_after };
}

pub split : (test : ℕ → Bool) (text : List Placed) → IsSplit test text
split test [] = record { run = []; after = []; text_is = refl; runs = record { passes_none = refl; stops_after = refl } }
split test (p ∷ ps) = split_here test p ps (test p.ch) refl (split test ps)

-- what is left is shorter
pub shorter : (text front rest : List Placed) (n : ℕ) → text ≡ front ++ rest → 1 ≤ length front → length text ≤ suc n → length rest ≤ n
shorter text front rest n e l m = omega (arith, ap length e, length-append front rest, l, m)

pub not_empty : (p : Placed) (ps : List Placed) → length (p ∷ ps) ≤ 0 → ⊥
not_empty p ps l = omega (arith, l)

-- VALUES

record HasPiece (table : Entities) (text : List Placed) : Type 0 where
  piece : Piece
  rest : List Placed
  text_is : text ≡ piece.text ++ rest
  is_piece : (more : List Placed) → more ≡ rest → IsValuePiece table true more piece
  long : 1 ≤ length piece.text

pub begins_long : (test : ℕ → Bool) (xs : List Placed) → begins test xs ≡ true → 1 ≤ length xs
begins_long test [] h = absurd (false≢true h)
begins_long test (x ∷ xs) h = omega arith

pub record HasValue (table : Entities) (text : List Placed) : Type 0 where
  pub pieces : List Piece
  pub text_is : text ≡ pieces_text pieces
  pub are : AreValue table pieces

module _ {table : Entities} (is_table : IsTable table) where
  piece_by : (p : Placed) (ps : List Placed) (b : Bool) → eqb p.ch 38 ≡ b → HasPiece table (p ∷ ps)
  piece_by p ps true e = let k = some_of table true is_table p (eqb-true p.ch 38 e) ps in
      record {
        piece = k.piece;
        rest = k.rest;
        text_is = k.text_is;
        is_piece = λ (more : List Placed) (m : more ≡ k.rest). rw m (reference k.is_reference);
        long = begins_long is_amp k.piece.text (at_amp k.is_reference);
      }
  piece_by p ps false e = record
      { piece = plain_piece p; rest = ps; text_is = refl; is_piece = λ (more : List Placed) (m : more ≡ ps). plain p e refl; long = omega arith }

  value_by : (n : ℕ) (text : List Placed) → length text ≤ n → HasValue table text
  value_by n [] l = record { pieces = []; text_is = refl; are = tt }
  value_by zero (p ∷ ps) l = absurd (not_empty p ps l)
  value_by (suc n) (p ∷ ps) l = let k = piece_by p ps (eqb p.ch 38) refl in
      let v = value_by n k.rest (shorter (p ∷ ps) k.piece.text k.rest n k.text_is k.long l) in
      record {
        pieces = k.piece ∷ v.pieces;
        text_is = k.text_is ∙ ap (λ (x : List Placed). k.piece.text ++ x) v.text_is;
        are = (k.is_piece (pieces_text v.pieces) (sym v.text_is), v.are);
      }

  pub some_value : (text : List Placed) → HasValue table text
  some_value text = value_by (length text) text (omega arith)

-- SIGNS

all_twice : (test : ℕ → Bool) (xs : List Placed) → all (λ c. not (not (test c))) xs ≡ true → all test xs ≡ true
all_twice test [] h = refl
all_twice test (x ∷ xs) h = grind (arith, nat_tests, all_twice test xs)

stops_twice : (test : ℕ → Bool) (xs : List Placed) → stops (λ c. not (test c)) xs ≡ true → begins test xs ≡ false
stops_twice test [] h = refl
stops_twice test (x ∷ xs) h = not-true (test x.ch) h

record HasSign (text : List Placed) : Type 0 where
  sign : List Placed
  tail : List Placed
  text_is : text ≡ sign ++ tail
  is : is_sign sign ≡ true
  none : begins is_space tail ≡ false

abbrev sign_test : Placed → List Placed → Bool → Bool
sign_test p ps b = begins is_equals (if not b then p ∷ ps else past is_space ps) && all is_space (drop 1 (if not b then p ∷ ps else past is_space ps))

sign_by : (p : Placed) (ps : List Placed) (b : Bool) → is_space p.ch ≡ b → (begins is_equals (past is_space ps) ≡ true → HasSign ps)
    → begins is_equals (if not b then p ∷ ps else past is_space ps) ≡ true → HasSign (p ∷ ps)
sign_by p ps true e next h = let k = next h in
    record { sign = p ∷ k.sign; tail = k.tail; text_is = ap (λ (x : List Placed). p ∷ x) k.text_is; is = ap (sign_test p k.sign) e ∙ k.is; none = k.none }
sign_by p ps false e next h = let k = split (λ c. not (is_space c)) ps in
    record {
      sign = p ∷ k.run;
      tail = k.after;
      text_is = ap (λ (x : List Placed). p ∷ x) k.text_is;
      is = ap (sign_test p k.run) e ∙ and_both (is_equals p.ch) (all is_space k.run) h (all_twice is_space k.run k.runs.passes_none);
      none = stops_twice is_space k.after k.runs.stops_after;
    }

sign_of : (text : List Placed) → begins is_equals (past is_space text) ≡ true → HasSign text
sign_of [] h = absurd (false≢true h)
sign_of (p ∷ ps) h = sign_by p ps (is_space p.ch) refl (sign_of ps) h

-- PARTS

pub record HasPart (table : Entities) (end : ℕ) (text : List Placed) : Type 0 where
  pub part : Part
  pub rest : List Placed
  pub text_is : text ≡ part.text ++ rest
  pub is_part : IsPart table end rest part
  pub long : 1 ≤ length part.text

stops_less : (test : ℕ → Bool) (sign tail : List Placed) → is_sign sign ≡ true → stops test (sign ++ tail) ≡ true → stops test sign ≡ true
stops_less test [] tail s h = absurd (false≢true s)
stops_less test (p ∷ ps) tail s h = h

none_of : (a b c : Bool) → a ≡ false → b ≡ false → c ≡ false → not (a || b || c) ≡ true
none_of a b c h k l = grind (arith, nat_tests)

module _ {table : Entities} (is_table : IsTable table) (end : ℕ) {name sign : List Placed} (n : IsAttributeName name sign) (s : is_sign sign ≡ true) where
  long_name : (others : List Placed) → 1 ≤ length (name ++ others)
  long_name others = begins_long (λ c. not (ends_name c)) (name ++ others) (begins_more (λ c. not (ends_name c)) name others n.first)

  without : (rest : List Placed) → stops is_greater rest ≡ true → HasPart table end (name ++ (sign ++ rest))
  without rest h = record { part = _; rest = rest; text_is = sym (append_assoc name sign rest); is_part = no_value name sign n s h refl; long = long_name sign }

  in_quotes : (q : Placed) (inside after : List Placed) → is_quote q.ch ≡ true → all (λ c. not (c == q.ch)) inside ≡ true → stops (λ c. c == q.ch) after ≡ true
      → HasPart table end (name ++ (sign ++ (q ∷ (inside ++ after))))
  in_quotes q inside [] m a h = let v = some_value is_table inside in let text : List Placed = pieces_text v.pieces in
      record {
        part = _;
        rest = [];
        text_is = cc (append-nil inside, append_assoc sign (q ∷ []) text, append-nil (name ++ (sign ++ (q ∷ []) ++ text)));
        is_part = unclosed name sign (q ∷ []) v.pieces q.ch n s refl m (rw (← v.text_is) a) v.are refl refl;
        long = long_name (sign ++ (q ∷ []) ++ text);
      }
  in_quotes q inside (z ∷ zs) m a h = let v = some_value is_table inside in let text : List Placed = pieces_text v.pieces in
      record {
        part = _;
        rest = zs;
        text_is = cc (
          append_assoc (sign ++ (q ∷ []) ++ text) (z ∷ []) zs,
          append_assoc (sign ++ (q ∷ [])) text (z ∷ zs),
          append_assoc sign (q ∷ []) (text ++ (z ∷ zs)),
          append_assoc name (sign ++ (q ∷ []) ++ text ++ (z ∷ [])) zs,
        );
        is_part = quoted name sign (q ∷ []) (z ∷ []) v.pieces q.ch n s refl m (rw (← v.text_is) a) v.are (ap (λ (c : ℕ). c ∷ []) (eqb-true z.ch q.ch h)) refl;
        long = long_name (sign ++ (q ∷ []) ++ text ++ (z ∷ []));
      }

  in_quotes_here : (q : Placed) (ps : List Placed) → is_quote q.ch ≡ true → HasPart table end (name ++ (sign ++ (q ∷ ps)))
  in_quotes_here q ps m = let k = split (λ c. c == q.ch) ps in rw k.text_is (in_quotes q k.run k.after m k.runs.passes_none k.runs.stops_after)

  by_itself : (q : Placed) (ps : List Placed) → is_space q.ch ≡ false → is_greater q.ch ≡ false → is_quote q.ch ≡ false
      → HasPart table end (name ++ (sign ++ (q ∷ ps)))
  by_itself q ps a b c = let k = split ends_unquoted ps in let v = some_value is_table (q ∷ k.run) in let text : List Placed = pieces_text v.pieces in
      record {
        part = _;
        rest = k.after;
        text_is = cc (append_assoc sign text k.after, append_assoc name (sign ++ text) k.after);
        is_part = unquoted name sign v.pieces n s
            (rw (← v.text_is) (not_either (ends_unquoted q.ch) (is_quote q.ch) (or_none (is_space q.ch) (is_greater q.ch) a b) c)) (record {
              passes_none = rw (← v.text_is) (and_both (not (ends_unquoted q.ch)) (all (λ c. not (ends_unquoted c)) k.run)
                  (not_either (is_space q.ch) (is_greater q.ch) a b) k.runs.passes_none);
              stops_after = k.runs.stops_after;
            }) v.are refl;
        long = long_name (sign ++ text);
      }

  value_here : (q : Placed) (ps : List Placed) (greater quote : Bool) → is_greater q.ch ≡ greater → is_quote q.ch ≡ quote → is_space q.ch ≡ false
      → HasPart table end (name ++ (sign ++ (q ∷ ps)))
  value_here q ps true quote e f a = without (q ∷ ps) e
  value_here q ps false true e f a = in_quotes_here q ps f
  value_here q ps false false e f a = by_itself q ps a e f

  valued : (tail : List Placed) → begins is_space tail ≡ false → HasPart table end (name ++ (sign ++ tail))
  valued [] a = without [] refl
  valued (q ∷ ps) a = value_here q ps (is_greater q.ch) (is_quote q.ch) refl refl a

-- where a tag ends
abbrev pub is_stop : List Placed → Bool
is_stop [] = true
is_stop (p ∷ ps) = is_greater p.ch || (eqb p.ch 47 && begins is_greater ps)

module _ {table : Entities} (is_table : IsTable table) (end : ℕ) where
  attribute_by : (name after : List Placed) → IsAttributeName name after → (b : Bool) → begins is_equals (past is_space after) ≡ b
      → HasPart table end (name ++ after)
  attribute_by name after n false e = record {
    part = _;
    rest = after;
    text_is = ap (λ (x : List Placed). x ++ after) (sym (append-nil name));
    is_part = bare name n e refl;
    long = begins_long (λ c. not (ends_name c)) (name ++ []) (begins_more (λ c. not (ends_name c)) name [] n.first);
  }
  attribute_by name after n true e = let k = sign_of after e in
      rw k.text_is (valued is_table end (record {
        first = n.first;
        runs = record
            { passes_none = n.runs.passes_none; stops_after = stops_less ends_attribute_name k.sign k.tail k.is (rw (← k.text_is) n.runs.stops_after) };
      }) k.is k.tail k.none)

  part_by : (p : Placed) (ps : List Placed) (white slash : Bool) → is_space p.ch ≡ white → eqb p.ch 47 ≡ slash → is_stop (p ∷ ps) ≡ false
      → HasPart table end (p ∷ ps)
  part_by p ps true slash e f h = record { part = _; rest = ps; text_is = refl; is_part = space p e refl; long = omega arith }
  part_by p ps false true e f h = record {
    part = _;
    rest = ps;
    text_is = refl;
    is_part = solidus p (eqb-true p.ch 47 f)
        (not_second (eqb p.ch 47) (begins is_greater ps) (or_parts (is_greater p.ch) (eqb p.ch 47 && begins is_greater ps) h).1 f) refl;
    long = omega arith;
  }
  part_by p ps false false e f h = let k = split ends_attribute_name ps in
      rw k.text_is (attribute_by (p ∷ k.run) k.after (record {
        first = none_of (is_space p.ch) (eqb p.ch 47) (is_greater p.ch) e f (or_parts (is_greater p.ch) (eqb p.ch 47 && begins is_greater ps) h).0;
        runs = k.runs;
      }) (begins is_equals (past is_space k.after)) refl)

-- all parts
pub record HasParts (table : Entities) (end : ℕ) (text : List Placed) : Type 0 where
  pub parts : List Part
  pub after : List Placed
  pub text_is : text ≡ parts_text parts ++ after
  pub are : AreParts table end parts after
  pub stops_there : is_stop after ≡ true

module _ {table : Entities} (is_table : IsTable table) (end : ℕ) where
  parts_by : (n : ℕ) (text : List Placed) → length text ≤ n → (b : Bool) → is_stop text ≡ b → HasParts table end text
  parts_by n text l true e = record { parts = []; after = text; text_is = refl; are = tt; stops_there = e }
  parts_by n [] l false e = absurd (false≢true (sym e))
  parts_by zero (p ∷ ps) l false e = absurd (not_empty p ps l)
  parts_by (suc n) (p ∷ ps) l false e = let k = part_by is_table end p ps (is_space p.ch) (eqb p.ch 47) refl refl e in
      let v = parts_by n k.rest (shorter (p ∷ ps) k.part.text k.rest n k.text_is k.long l) (is_stop k.rest) refl in
      record {
        parts = k.part ∷ v.parts;
        after = v.after;
        text_is = cc (append_assoc k.part.text (parts_text v.parts) v.after);
        are = (rw (← v.text_is) k.is_part, v.are);
        stops_there = v.stops_there;
      }

  pub some_parts : (text : List Placed) → HasParts table end text
  some_parts text = parts_by (length text) text (omega arith) (is_stop text) refl
