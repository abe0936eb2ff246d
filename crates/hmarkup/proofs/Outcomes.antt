-- What is read of a comment begins it, one more character or a run included.
use Rattle.hmarkup.proofs.Names.{◌≡◌, ℕ, ◌≤◌, true, false, eqb, List, [], ◌∷◌, ◌++◌, length, sym, refl, ap, ◌∙◌, codes, arith, append_assoc, append-nil, map-append, false≢true, eqb-true, and_parts, or_left, or_right, ParseError, Placed, characters, spells, is_front, null_errors, CommentKind, Comment, Bogus, closes_comment, closes_at_once, closes_bogus, comment_errors_after, IsComment, closed_at_once, closed_with_bang, unclosed, IsBogus, closed_bogus, unclosed_bogus, BeginsSpans, IsOpenMarkup, IsOneSpan, Progress, IsInComment, IsInBogus, HasReadOf, IsCommentSpan, backwards, Bool, if◌then◌else◌, subst, transport, Option, Some, None, option_map, ErrorCode, NestedComment, error, Ending, Dashes, Bang, errors_here, fault_errors, is_whole, closing, comment_step, greater_step, is_nested_comment, with_char, ◌+◌, encode_utf8, encode_utf8_all, list_all, IsUtf8, chars, nat_tests, all, placed, error_if, text_bytes, without_null, len_utf8, list_all-append, encode_ascii, encodes-chars, is_only_data, with_data}
use Rattle.hmarkup.specs.Comment.{closed}
use Rattle.hmarkup.proofs.Marks.{not_past, spells-characters, first_is, null_errors-append}
use Rattle.hmarkup.proofs.Fronts.{front_of}
use Rattle.hmarkup.proofs.OneSpan.{told_of, one_of}
use Rattle.hmarkup.proofs.Walking.{before-text, errors-append, before-bogus, bogus_kept, bogus_closed, closes, kept_other, kept_past, closed_now, bang_closed_now, empty_now}

-- a mark that closes a comment right at its start
once_closed : (dash close more : List Placed) → is_front dash (codes "-") ≡ true → characters close ≡ codes ">"
    → closes_at_once ((dash ++ close) ++ more) ≡ true
once_closed dash [] more f c = absurd cc
once_closed [] (q ∷ qs) more f c = rw (first_is q qs 62 [] c) refl
once_closed (d ∷ []) (q ∷ qs) more f c = rw (eqb-true d.ch 45 (and_parts (eqb d.ch 45) true f).0, first_is q qs 62 [] c) refl
once_closed (d ∷ e ∷ ds) (q ∷ qs) more f c = absurd (false≢true (and_parts (eqb d.ch 45) false f).1)

some_of : (close : List Placed) (c : ℕ) (cs : List ℕ) (more : List Placed) → characters close ≡ c ∷ cs → 1 ≤ length (close ++ more)
some_of [] c cs more h = absurd cc
some_of (q ∷ qs) c cs more h = omega arith

-- a comment has not ended in what was read of it
not_ended : (w : Progress) (text : List Placed) (errs : List ParseError) → IsInComment w text errs
    → (end : ℕ) (rest span : List Placed) (d : List ℕ) (es : List ParseError) → IsComment end rest span d es → (more : List Placed) → text ≡ span ++ more
    → rest ≡ []
not_ended w text errs h end rest span d es (closed_at_once dash close t f c data_is errors_are) more e =
    absurd (false≢true (cc (once_closed dash close more f c)))
not_ended w text errs h end rest span d es (closed inner close t s b c data_is errors_are) more e = absurd
    (not_past closes_comment text inner (close ++ more) (before-text w text errs h) (e ∙ ap (λ (x : List Placed). x ++ more) t ∙ append_assoc inner close more)
    (or_left (spells (codes "-->") (close ++ more)) (spells (codes "--!>") (close ++ more)) (spells-characters (codes "-->") close more c))
    (some_of close 45 (codes "->") more c))
not_ended w text errs h end rest span d es (closed_with_bang inner dashes close t s b c1 c data_is errors_are) more e =
    let mark = map-append (λ (p : Placed). p.ch) dashes close ∙ ap (λ (x : List ℕ). x ++ characters close) c1 ∙ ap (λ (x : List ℕ). codes "--!" ++ x) c in
    absurd (not_past closes_comment text inner ((dashes ++ close) ++ more) (before-text w text errs h)
    (e ∙ ap (λ (x : List Placed). x ++ more) (t ∙ append_assoc inner dashes close) ∙ append_assoc inner (dashes ++ close) more)
    (or_right (spells (codes "-->") ((dashes ++ close) ++ more)) (spells (codes "--!>") ((dashes ++ close) ++ more))
    (spells-characters (codes "--!>") (dashes ++ close) more mark)) (some_of (dashes ++ close) 45 (codes "-!>") more mark))
not_ended w text errs h end rest span d es (unclosed r s b data_is errors_are) more e = r

not_ended_bogus : (w : Progress) (text : List Placed) (errs : List ParseError) → IsInBogus w text errs
    → (rest span : List Placed) (d : List ℕ) (es : List ParseError) → IsBogus rest span d es → (more : List Placed) → text ≡ span ++ more → rest ≡ []
not_ended_bogus w text errs h rest span d es (closed_bogus inner close t b c data_is errors_are) more e = absurd (not_past closes_bogus text inner
    (close ++ more) (before-bogus w text errs h) (cc (append_assoc inner close more)) (spells-characters (codes ">") close more c) (some_of close 62 [] more c))
not_ended_bogus w text errs h rest span d es (unclosed_bogus r b data_is errors_are) more e = r

pub kind_of : (kind : CommentKind) (w : Progress) (text : List Placed) (errs : List ParseError) → HasReadOf kind w text errs → w.kind ≡ kind
kind_of Comment w text errs h = h.kind_is
kind_of Bogus w text errs h = h.kind_is

pub open_of : (kind : CommentKind) (w : Progress) (text : List Placed) (errs : List ParseError) → HasReadOf kind w text errs
    → IsOpenMarkup (IsCommentSpan kind) text
open_of Comment w text errs h = λ end rest d es s. not_ended w text errs h end rest text d es s [] (sym (append-nil text))
open_of Bogus w text errs h = λ end rest d es s. not_ended_bogus w text errs h rest text d es s [] (sym (append-nil text))

greater_no_null : (close : List Placed) → characters close ≡ codes ">" → null_errors close ≡ []
greater_no_null [] c = refl
greater_no_null (q ∷ r ∷ qs) c = absurd cc
greater_no_null (q ∷ []) c = rw (first_is q [] 62 [] c) refl

bogus_errors : (rest span : List Placed) (d : List ℕ) (es : List ParseError) → IsBogus rest span d es → es ≡ null_errors span
bogus_errors rest span d es (closed_bogus inner close t b c data_is errors_are) = errors_are ∙ sym (append-nil (null_errors inner))
    ∙ ap (λ (x : List ParseError). null_errors inner ++ x) (sym (greater_no_null close c)) ∙ sym (null_errors-append inner close) ∙ ap null_errors (sym t)
bogus_errors rest span d es (unclosed_bogus r b data_is errors_are) = errors_are

-- the comment's errors begin with those of the characters read
begins_comment : (w : Progress) (text : List Placed) (errs : List ParseError) → IsInComment w text errs → BeginsSpans IsComment text errs
begins_comment w text errs h end after rest span d all s e = let front = front_of text after rest span e (not_ended w text errs h end rest span d all s) in
    let told = told_of end rest span d all s in
    record {
      more = front.more;
      later = comment_errors_after (backwards [] text) front.more ++ told.last;
      span_is = front.span_is;
      after_is = front.after_is;
      all_are = cc
          (errors-append [] text front.more, append_assoc (comment_errors_after [] text) (comment_errors_after (backwards [] text) front.more) told.last);
    }

pub begins_bogus : (w : Progress) (text : List Placed) (errs : List ParseError) → IsInBogus w text errs → BeginsSpans (IsCommentSpan Bogus) text errs
begins_bogus w text errs h end after rest span d all s e = let front = front_of text after rest span e (not_ended_bogus w text errs h rest span d all s) in
    record {
      more = front.more;
      later = null_errors front.more;
      span_is = front.span_is;
      after_is = front.after_is;
      all_are = cc (bogus_errors rest span d all s, null_errors-append text front.more);
    }

pub begins_of : (kind : CommentKind) (w : Progress) (text : List Placed) (errs : List ParseError) → HasReadOf kind w text errs
    → BeginsSpans (IsCommentSpan kind) text errs
begins_of Comment w text errs h = begins_comment w text errs h
begins_of Bogus w text errs h = begins_bogus w text errs h

-- a whole span begins each span at the front of the text, since it is that span
pub begins_whole : {V : Type 0} (Spans : ℕ → List Placed → List Placed → V → List ParseError → Type 0) → IsOneSpan Spans
    → (text : List Placed) (value : V) (errs : List ParseError) → ((end : ℕ) (rest : List Placed) → Spans end rest text value errs)
    → BeginsSpans Spans text errs
begins_whole Spans one text value errs given end after rest span other all s e =
    let same = one end rest after span text other value all errs s (given end after) e in
    record { more = []; later = []; span_is = same.0 ∙ sym (append-nil text); after_is = sym same.1; all_are = same.3 ∙ sym (append-nil errs) }

-- A character that a walk of either kind takes: its comment goes on, or ends.

-- the errors of a character
abbrev pub char_errors : Option ErrorCode → Placed → List ParseError
char_errors code p = fault_errors (option_map (λ code. error code p.at) code) ++ null_errors (p ∷ [])

-- what it does, by its step
abbrev pub Outcome : CommentKind → Progress → List Placed → List ParseError → Placed → Option ErrorCode × Bool → Type 0
Outcome kind w text errs p (code, true) = (end : ℕ) (rest : List Placed) → IsCommentSpan kind end rest (text ++ p ∷ []) w.data (errs ++ char_errors code p)
Outcome kind w text errs p (code, false) = HasReadOf kind (with_char kind w p.ch) (text ++ p ∷ []) (errs ++ char_errors code p)

-- a `>`
in_comment : (w : Progress) (text : List Placed) (errs : List ParseError) (at : ℕ) → IsInComment w text errs → (ending : Ending) → w.ending ≡ ending
    → (empty : Bool) → eqb (length w.data) 0 ≡ empty → Outcome Comment w text errs (record { ch = 62; at = at }) (closing ending empty)
in_comment w text errs at h Dashes e empty f = closed_now w text errs at h e
in_comment w text errs at h Bang e empty f = bang_closed_now w text errs at h e
in_comment w text errs at h _ e true f = empty_now w text errs at h (ap closes e) (eqb-true (length w.data) 0 f)
in_comment w text errs at h _ e false f = kept_past w text errs at h (ap closes e) (λ z. absurd (false≢true (sym f ∙ ap (λ (n : ℕ). eqb n 0) z)))

at_greater : (kind : CommentKind) (w : Progress) (text : List Placed) (errs : List ParseError) (at : ℕ) → HasReadOf kind w text errs
    → Outcome kind w text errs (record { ch = 62; at = at }) (greater_step kind w)
at_greater Comment w text errs at h = in_comment w text errs at h w.ending refl (eqb (length w.data) 0) refl
at_greater Bogus w text errs at h = bogus_closed w text errs at h

-- any other character
errors_are : (nested : Bool) (p : Placed) → eqb p.ch 62 ≡ false → errors_here nested p ≡ char_errors (if nested then Some NestedComment else None) p
errors_are true p e = rw e refl
errors_are false p e = refl

at_other : (kind : CommentKind) (w : Progress) (text : List Placed) (errs : List ParseError) (p : Placed) → eqb p.ch 62 ≡ false → HasReadOf kind w text errs
    → Outcome kind w text errs p (if is_nested_comment kind w then Some NestedComment else None, false)
at_other Comment w text errs p e h = rw (← (errors_are (is_whole w.opening) p e)) (kept_other w text errs p h e)
at_other Bogus w text errs p e h = bogus_kept w text errs p h e

pub outcome : (kind : CommentKind) (w : Progress) (text : List Placed) (errs : List ParseError) (p : Placed) → HasReadOf kind w text errs
    → Outcome kind w text errs p (comment_step kind w p.ch)
outcome kind w text errs p h = by (eqb p.ch 62) refl where
  by : (greater : Bool) → eqb p.ch 62 ≡ greater
      → Outcome kind w text errs p (if greater then greater_step kind w else (if is_nested_comment kind w then Some NestedComment else None, false))
  by true e = rw (eqb-true p.ch 62 e) (at_greater kind w text errs p.at h)
  by false e = at_other kind w text errs p e h

-- where a call has said what its step is
module _ (kind : CommentKind) (w : Progress) (text : List Placed) (errs : List ParseError) (p : Placed) (s : Option ErrorCode × Bool)
    (is : s ≡ comment_step w.kind w p.ch) (h : HasReadOf kind w text errs) where
  told : (ends : Bool) → s.1 ≡ ends → Outcome kind w text errs p (s.0, ends)
  told ends e = transport (λ i. Outcome kind w text errs p (s.0, e i)) (subst (Outcome kind w text errs p)
      (sym (is ∙ ap (λ (k : CommentKind). comment_step k w p.ch) (kind_of kind w text errs h))) (outcome kind w text errs p h))

  pub told_end : s.1 ≡ true → (end : ℕ) (rest : List Placed) → IsCommentSpan kind end rest (text ++ p ∷ []) w.data (errs ++ char_errors s.0 p)
  told_end e = told true e

  pub told_more : s.1 ≡ false → HasReadOf kind (with_char w.kind w p.ch) (text ++ p ∷ []) (errs ++ char_errors s.0 p)
  told_more e = subst (λ k. HasReadOf kind (with_char k w p.ch) (text ++ p ∷ []) (errs ++ char_errors s.0 p)) (sym (kind_of kind w text errs h)) (told false e)

  -- in each case the errors of the span begin with those so far
  pub begins_so : BeginsSpans (IsCommentSpan kind) (text ++ p ∷ []) (errs ++ char_errors s.0 p)
  begins_so = by s.1 (told s.1 refl) where
    by : (ends : Bool) → Outcome kind w text errs p (s.0, ends) → BeginsSpans (IsCommentSpan kind) (text ++ p ∷ []) (errs ++ char_errors s.0 p)
    by true o = begins_whole (IsCommentSpan kind) (one_of kind) (text ++ p ∷ []) w.data _ o
    by false o = begins_of kind _ _ _ o

-- A run of characters that are only data in a comment.

-- what is only data is no mark, and no error
no_greater : (c : ℕ) → is_only_data c ≡ true → eqb c 62 ≡ false
no_greater c h = grind (arith, nat_tests)

no_null : (c : ℕ) → is_only_data c ≡ true → eqb c 0 ≡ false
no_null c h = grind (arith, nat_tests)

-- the characters of a run, by its bytes
by_size : (c : ℕ) → list_all is_only_data (encode_utf8 c) ≡ true → is_only_data c ≡ true
by_size c h = grind (arith, nat_tests, encode_ascii c)

run_characters : (at : ℕ) (cs : List ℕ) → list_all is_only_data (encode_utf8_all cs) ≡ true → all is_only_data (placed at cs) ≡ true
run_characters at [] h = refl
run_characters at (c ∷ cs) h = let k = and_parts _ _ (sym (list_all-append is_only_data (encode_utf8 c) (encode_utf8_all cs)) ∙ h) in
    rw (by_size c k.0) (run_characters (at + len_utf8 c) cs k.1)

-- the bytes of a run
run_bytes : (at : ℕ) (cs : List ℕ) → all is_only_data (placed at cs) ≡ true → text_bytes (placed at cs) ≡ encode_utf8_all cs
run_bytes at [] h = refl
run_bytes at (c ∷ cs) h = let k = and_parts _ _ h in rw (no_null c k.0) (ap (λ (x : List ℕ). encode_utf8 c ++ x) (run_bytes (at + len_utf8 c) cs k.1))

-- what a character of a run does
next_data : (kind : CommentKind) (w : Progress) (c : ℕ) → is_only_data c ≡ true → with_char kind w c ≡ with_data kind w (encode_utf8 (without_null c))
next_data Comment w c h = grind (arith, nat_tests)
next_data Bogus w c h = refl

first_data : (kind : CommentKind) (w : Progress) (text : List Placed) (errs : List ParseError) (p : Placed) → is_only_data p.ch ≡ true
    → HasReadOf kind w text errs
    → HasReadOf kind (with_data kind w (encode_utf8 (without_null p.ch))) (text ++ p ∷ []) (errs ++ error_if (is_nested_comment kind w) NestedComment p.at)
first_data kind w text errs p h k =
    transport (λ i. HasReadOf kind (next_data kind w p.ch h i) (text ++ p ∷ []) (errs ++ data_error (is_nested_comment kind w) i))
    (rw (no_greater p.ch h) at (outcome kind w text errs p k)) where
      data_error : (nested : Bool) → char_errors (if nested then Some NestedComment else None) p ≡ error_if nested NestedComment p.at
      data_error true = simp (no_null p.ch h)
      data_error false = simp (no_null p.ch h)

-- and those after it
none_nested : (kind : CommentKind) (w : Progress) (run : List ℕ) → is_nested_comment kind (with_data kind w run) ≡ false
none_nested Comment w run = refl
none_nested Bogus w run = refl

with_two : (kind : CommentKind) (w : Progress) (xs ys : List ℕ) → with_data kind (with_data kind w xs) ys ≡ with_data kind w (xs ++ ys)
with_two Comment w xs ys = simp append_assoc
with_two Bogus w xs ys = simp append_assoc

run_data : (kind : CommentKind) (w : Progress) (text : List Placed) (errs : List ParseError) (p : Placed) (ps : List Placed) → all is_only_data (p ∷ ps) ≡ true
    → HasReadOf kind w text errs
    → HasReadOf kind (with_data kind w (text_bytes (p ∷ ps))) (text ++ p ∷ ps) (errs ++ error_if (is_nested_comment kind w) NestedComment p.at)
run_data kind w text errs p [] h k = rw (append-nil (encode_utf8 (without_null p.ch))) (first_data kind w text errs p (and_parts _ _ h).0 k)
run_data kind w text errs p (q ∷ ps) h k = let parts = and_parts _ _ h in let first : List ℕ = encode_utf8 (without_null p.ch) in
    let so_far : List ParseError = errs ++ error_if (is_nested_comment kind w) NestedComment p.at in
    transport (λ i. HasReadOf kind (with_two kind w first (text_bytes (q ∷ ps)) i) (append_assoc text (p ∷ []) (q ∷ ps) i)
    (((λ j. so_far ++ error_if (none_nested kind w first j) NestedComment q.at) ∙ append-nil so_far) i))
    (run_data kind (with_data kind w first) (text ++ p ∷ []) so_far q ps parts.1 (first_data kind w text errs p parts.0 k))

-- a run in UTF-8, whose first byte is at `at`
pub run_read : (at : ℕ) (run : List ℕ) → IsUtf8 run → list_all is_only_data run ≡ true → (length run ≡ 0 → ⊥)
    → (kind : CommentKind) (w : Progress) (text : List Placed) (errs : List ParseError) (nested : Bool) → nested ≡ is_nested_comment w.kind w
    → HasReadOf kind w text errs → HasReadOf kind (with_data w.kind w run) (text ++ placed at (chars run)) (errs ++ error_if nested NestedComment at)
run_read at run utf8 plain some kind w text errs nested is k = let same : w.kind ≡ kind = kind_of kind w text errs k in
    transport (λ i. HasReadOf kind (with_data (sym same i) w run) (text ++ placed at (chars run))
    (errs ++ error_if (sym (is ∙ ap (λ (x : CommentKind). is_nested_comment x w) same) i) NestedComment at)) (by (chars run) refl) where
      by : (cs : List ℕ) → chars run ≡ cs
          → HasReadOf kind (with_data kind w run) (text ++ placed at (chars run)) (errs ++ error_if (is_nested_comment kind w) NestedComment at)
      by [] e = absurd (some (ap length (sym (encodes-chars run utf8) ∙ ap encode_utf8_all e)))
      by (c ∷ cs) e = let bytes : encode_utf8_all (c ∷ cs) ≡ run = ap encode_utf8_all (sym e) ∙ encodes-chars run utf8 in
          let h : all is_only_data (placed at (c ∷ cs)) ≡ true = run_characters at (c ∷ cs) (ap (list_all is_only_data) bytes ∙ plain) in
          transport (λ i. HasReadOf kind (with_data kind w ((run_bytes at (c ∷ cs) h ∙ bytes) i)) (text ++ placed at (sym e i))
          (errs ++ error_if (is_nested_comment kind w) NestedComment at))
          (run_data kind w text errs (record { ch = c; at = at }) (placed (at + len_utf8 c) cs) h k)
