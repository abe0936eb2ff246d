-- A text begins with at most one comment, and with at most one span of each kind.
use Rattle.hmarkup.proofs.Names.{nat_tests, ◌≡◌, ℕ, ◌≤◌, ◌+◌, Bool, true, false, eqb, List, [], ◌∷◌, ◌++◌, length, sym, refl, ap, ◌∙◌, codes, arith, length-append, append_assoc, append-nil, if◌then◌else◌, drop, false≢true, eqb-true, and_parts, or_left, or_right, drop_at, drop_all, map-append, ParseError, AbruptClosingOfEmptyComment, EofInComment, IncorrectlyClosedComment, Placed, characters, place, spells, is_front, before, Avoids, error, text_bytes, closes_comment, closes_at_once, is_ending, comment_errors_after, IsComment, closed_at_once, closed_with_bang, unclosed, IsOneSpan, length-map, take, null_errors, CommentKind, Comment, Bogus, closes_bogus, IsBogus, closed_bogus, unclosed_bogus, IsCommentSpan}
use Rattle.hmarkup.specs.Comment.{closed}
use Rattle.hmarkup.proofs.Marks.{before-avoids, before-here, avoids-before, spells-long, spells-characters, first_is}
use Rattle.hmarkup.proofs.Fronts.{same_front}
use Rattle.hmarkup.proofs.Walking.{once-long}

-- What a text determines of the comment at its front: its length, its data, and the error of its end.
pub record Told : Type 0 where
  pub size : ℕ
  pub bytes : List ℕ
  pub last : List ParseError

abbrev pub told_by : Bool → Bool → ℕ → List Placed → List Placed → List Placed → Told
told_by true bang end whole inner close = record { size = length inner + 3; bytes = text_bytes inner; last = [] }
told_by false true end whole inner close = record
    { size = length inner + 4; bytes = text_bytes inner; last = error IncorrectlyClosedComment (place end (drop 3 close)) ∷ [] }
told_by false false end whole inner close = record { size = length whole; bytes = text_bytes (before is_ending whole); last = error EofInComment end ∷ [] }

abbrev pub told_at : ℕ → List Placed → List Placed → List Placed → Told
told_at end whole inner close = told_by (spells (codes "-->") close) (spells (codes "--!>") close) end whole inner close

abbrev pub told_at_once : Bool → ℕ → List Placed → Told
told_at_once true end whole = record { size = 1; bytes = []; last = error AbruptClosingOfEmptyComment (place end whole) ∷ [] }
told_at_once false end whole = record { size = 2; bytes = []; last = error AbruptClosingOfEmptyComment (place end (drop 1 whole)) ∷ [] }

abbrev pub told : ℕ → List Placed → Told
told end whole = if closes_at_once whole then told_at_once (spells (codes ">") whole) end whole else told_at end whole (before closes_comment whole)
    (drop (length (before closes_comment whole)) whole)

-- which is what it is
pub record IsTold (end : ℕ) (rest text : List Placed) (bytes : List ℕ) (errors : List ParseError) : Type 0 where
  pub last : List ParseError
  pub told_is : told end (text ++ rest) ≡ record { size = length text; bytes = bytes; last = last }
  pub errors_are : errors ≡ comment_errors_after [] text ++ last

-- no mark comes into a text when more follows a closing mark
closes-long : (xs ys : List Placed) → 4 ≤ length xs → closes_comment xs ≡ false → closes_comment (xs ++ ys) ≡ false
closes-long xs ys l h = grind (arith, spells-long (codes "-->") xs ys, spells-long (codes "--!>") xs ys)

Avoids-long : (xs close rest : List Placed) → 3 ≤ length close → Avoids closes_comment xs close → Avoids closes_comment xs (close ++ rest)
Avoids-long [] close rest l h = tt
Avoids-long (q ∷ qs) close rest l h =
    (rw (← (append_assoc qs close rest)) (closes-long (q ∷ qs ++ close) rest (omega (arith, l, length-append qs close)) h.0), Avoids-long qs close rest l h.1)

-- `--!>` is no `-->`
no_arrow : (xs rest : List Placed) → characters xs ≡ codes "--!>" → spells (codes "-->") (xs ++ rest) ≡ false
no_arrow (x ∷ y ∷ z ∷ xs) rest h = let third : z.ch ≡ 33 = cc in grind (arith, nat_tests)
no_arrow _ rest h = absurd cc

-- a comment that a mark closes
told_closed : (end : ℕ) (inner close rest : List Placed) → 3 ≤ length close → closes_at_once (inner ++ close) ≡ false
    → inner ≡ before closes_comment (inner ++ close) → closes_comment (close ++ rest) ≡ true
    → told end ((inner ++ close) ++ rest) ≡ told_at end ((inner ++ close) ++ rest) inner (close ++ rest)
told_closed end inner close rest l s b c = let whole : List Placed = (inner ++ close) ++ rest in
    let starts : closes_at_once whole ≡ false = once-long (inner ++ close) rest (omega (arith, l, length-append inner close)) s in
    let inner_is : before closes_comment whole ≡ inner = ap (before closes_comment) (append_assoc inner close rest)
    ∙ before-avoids closes_comment inner (close ++ rest) (Avoids-long inner close rest l (avoids-before closes_comment inner close b))
    ∙ ap (λ (x : List Placed). inner ++ x) (before-here closes_comment (close ++ rest) c) ∙ append-nil inner in
    cc (append_assoc inner close rest, drop_at inner (close ++ rest) (length inner) refl)

told_empty : (end : ℕ) (dash close rest : List Placed) → is_front dash (codes "-") ≡ true → characters close ≡ codes ">"
    → told end ((dash ++ close) ++ rest) ≡ record { size = length (dash ++ close); bytes = []; last = error AbruptClosingOfEmptyComment (place end close) ∷ [] }
told_empty end [] (q ∷ []) rest f c = rw (first_is q [] 62 [] c) refl
told_empty end (d ∷ []) (q ∷ []) rest f c = rw (first_is q [] 62 [] c, eqb-true d.ch 45 (and_parts (eqb d.ch 45) true f).0) refl
told_empty end (d ∷ e ∷ ds) (q ∷ []) rest f c = absurd (false≢true (and_parts (eqb d.ch 45) false f).1)
told_empty end dash _ rest f c = absurd cc

place-front : (end : ℕ) (close rest : List Placed) → characters close ≡ codes ">" → place end (close ++ rest) ≡ place end close
place-front end [] rest c = absurd cc
place-front end (q ∷ qs) rest c = refl

pub told_of : (end : ℕ) (rest text : List Placed) (d : List ℕ) (es : List ParseError) → IsComment end rest text d es → IsTold end rest text d es
told_of end rest text d es (closed_at_once dash close t f c data_is errors_are) = record {
  last = error AbruptClosingOfEmptyComment (place end close) ∷ [];
  told_is = ap (λ (x : List Placed). told end (x ++ rest)) t ∙ told_empty end dash close rest f c
      ∙ (λ i. record { size = length (sym t i); bytes = sym data_is i; last = error AbruptClosingOfEmptyComment (place end close) ∷ [] });
  errors_are = errors_are;
}
told_of end rest text d es (closed inner close t s b c data_is errors_are) = let size = sym (length-map close (λ (p : Placed). p.ch)) ∙ ap length c in
    let arrow : spells (codes "-->") (close ++ rest) ≡ true = spells-characters (codes "-->") close rest c in
    let long : length inner + 3 ≡ length text = omega (arith, ap length t, length-append inner close, size) in
    record {
      last = [];
      told_is = ap (λ (x : List Placed). told end (x ++ rest)) t ∙ told_closed end inner close rest (omega (arith, size)) (sym (ap closes_at_once t) ∙ s)
          (b ∙ ap (before closes_comment) t) (or_left (spells (codes "-->") (close ++ rest)) (spells (codes "--!>") (close ++ rest)) arrow)
          ∙ rw arrow (λ i. record { size = long i; bytes = sym data_is i; last = [] });
      errors_are = errors_are ∙ sym (append-nil (comment_errors_after [] text));
    }
told_of end rest text d es (closed_with_bang inner dashes close t s b c1 c data_is errors_are) = let t' = t ∙ append_assoc inner dashes close in
    let mark = map-append (λ (p : Placed). p.ch) dashes close ∙ ap (λ (x : List ℕ). x ++ characters close) c1 ∙ ap (λ (x : List ℕ). codes "--!" ++ x) c in
    let size : length (dashes ++ close) ≡ 4 = sym (length-map (dashes ++ close) (λ (p : Placed). p.ch)) ∙ ap length mark in
    let three : length dashes ≡ 3 = sym (length-map dashes (λ (p : Placed). p.ch)) ∙ ap length c1 in
    let bang : spells (codes "--!>") ((dashes ++ close) ++ rest) ≡ true = spells-characters (codes "--!>") (dashes ++ close) rest mark in
    let long : length inner + 4 ≡ length text = omega (arith, ap length t', length-append inner (dashes ++ close), size) in
    let past : drop 3 ((dashes ++ close) ++ rest) ≡ close ++ rest = ap (drop 3) (append_assoc dashes close rest) ∙ drop_at dashes (close ++ rest) 3 three in
    record {
      last = error IncorrectlyClosedComment (place end close) ∷ [];
      told_is = ap (λ x. told end (x ++ rest)) t'
          ∙ told_closed end inner (dashes ++ close) rest (omega (arith, size)) (sym (ap closes_at_once t') ∙ s) (b ∙ ap (before closes_comment) t')
          (or_right (spells (codes "-->") ((dashes ++ close) ++ rest)) (spells (codes "--!>") ((dashes ++ close) ++ rest)) bang)
          ∙ rw (no_arrow (dashes ++ close) rest mark, bang) (λ i. record
          { size = long i; bytes = sym data_is i; last = error IncorrectlyClosedComment ((ap (place end) past ∙ place-front end close rest c) i) ∷ [] });
      errors_are = errors_are;
    }
told_of end rest text d es (unclosed r s b data_is errors_are) =
    let all : text ++ rest ≡ text = ap (λ (x : List Placed). text ++ x) r ∙ append-nil text in
    let left : drop (length text) text ≡ [] = drop_all (length text) text (omega arith) in
    record {
      last = error EofInComment end ∷ [];
      told_is =
          ap (told end) all ∙ ap (λ (b : Bool). if b then told_at_once (spells (codes ">") text) end text else told_at end text (before closes_comment text)
          (drop (length (before closes_comment text)) text)) s ∙ ap (λ (x : List Placed). told_at end text x (drop (length x) text)) (sym b)
          ∙ ap (told_at end text text) left ∙ (λ i. record { size = length text; bytes = sym data_is i; last = error EofInComment end ∷ [] });
      errors_are = errors_are;
    }

pub one_comment : IsOneSpan IsComment
one_comment end rest rest' text text' d d' es es' h k e = let a : IsTold end rest text d es = told_of end rest text d es h in
    let same = sym a.told_is ∙ ap (told end) e ∙ (told_of end rest' text' d' es' k).told_is in
    let front : (text ≡ text') × (rest ≡ rest') = same_front text rest text' rest' e (ap (λ (t : Told). t.size) same) in (
      front.0,
      front.1,
      ap (λ (t : Told). t.bytes) same,
      a.errors_are ∙ ap (λ (x : List Placed). comment_errors_after [] x ++ a.last) front.0
          ∙ ap (λ (x : List ParseError). comment_errors_after [] text' ++ x) (ap (λ (t : Told). t.last) same)
          ∙ sym (told_of end rest' text' d' es' k).errors_are,
    )

-- A text begins with at most one bogus comment, and at most one span of each kind.

-- what is before the first `>`, and with it
record IsToldBogus (rest text : List Placed) (bytes : List ℕ) (errors : List ParseError) : Type 0 where
  inner : List Placed
  inner_is : inner ≡ before closes_bogus (text ++ rest)
  size_is : length text ≡ length inner + length (take 1 (drop (length inner) (text ++ rest)))
  bytes_are : bytes ≡ text_bytes inner
  errors_are : errors ≡ null_errors inner

Avoids-any : (xs after others : List Placed) → Avoids closes_bogus xs after → Avoids closes_bogus xs others
Avoids-any [] after others h = tt
Avoids-any (x ∷ xs) after others h = (h.0, Avoids-any xs after others h.1)

one_char : (close rest : List Placed) → characters close ≡ codes ">" → length (take 1 (close ++ rest)) ≡ length close
one_char (q ∷ []) rest c = refl
one_char _ rest c = absurd cc

told_bogus : (rest text : List Placed) (d : List ℕ) (es : List ParseError) → IsBogus rest text d es → IsToldBogus rest text d es
told_bogus rest text d es (closed_bogus inner close t b c data_is errors_are) = let whole = ap (λ x. x ++ rest) t ∙ append_assoc inner close rest in
    let left : drop (length inner) (text ++ rest) ≡ close ++ rest = ap (drop (length inner)) whole ∙ drop_at inner (close ++ rest) (length inner) refl in
    let avoided = Avoids-any inner close (close ++ rest) (avoids-before closes_bogus inner close (b ∙ ap (before closes_bogus) t)) in
    record {
      inner = inner;
      inner_is = sym (ap (before closes_bogus) whole ∙ before-avoids closes_bogus inner (close ++ rest) avoided
          ∙ ap (λ (x : List Placed). inner ++ x) (before-here closes_bogus (close ++ rest) (spells-characters (codes ">") close rest c)) ∙ append-nil inner);
      size_is = omega (arith, ap length t, length-append inner close, one_char close rest c, ap (λ (x : List Placed). length (take 1 x)) left);
      bytes_are = data_is;
      errors_are = errors_are;
    }
told_bogus rest text d es (unclosed_bogus r b data_is errors_are) = let whole : text ++ rest ≡ text = ap (λ (x : List Placed). text ++ x) r ∙ append-nil text in
    let left : drop (length text) (text ++ rest) ≡ [] = ap (drop (length text)) whole ∙ drop_all (length text) text (omega arith) in
    record
    { inner = text; inner_is = cc; size_is = omega (arith, ap (λ (x : List Placed). length (take 1 x)) left); bytes_are = data_is; errors_are = errors_are }

one_bogus : IsOneSpan (IsCommentSpan Bogus)
one_bogus end rest rest' text text' d d' es es' h k e = let a = told_bogus rest text d es h in let b = told_bogus rest' text' d' es' k in
    let same : a.inner ≡ b.inner = a.inner_is ∙ ap (before closes_bogus) e ∙ sym b.inner_is in
    let front = same_front text rest text' rest' e (cc) in
    (front.0, front.1, a.bytes_are ∙ ap text_bytes same ∙ sym b.bytes_are, a.errors_are ∙ ap null_errors same ∙ sym b.errors_are)

pub one_of : (kind : CommentKind) → IsOneSpan (IsCommentSpan kind)
one_of Comment = one_comment
one_of Bogus = one_bogus
