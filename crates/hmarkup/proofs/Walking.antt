-- A comment that has not ended, its last characters, and one more character or the end.
use Rattle.hmarkup.proofs.Names.{◌≡◌, ℕ, Bool, true, false, eqb, List, [], ◌∷◌, ◌++◌, sym, refl, ◌∙◌, subst, append-nil, codes, arith, ◌≤◌, length, false≢true, eqb-true, false_from_ne_true, encode, Placed, characters, is_front, before, Avoids, text_bytes, Ending, Plain, Dash, Dashes, Bang, closes_comment, is_ending, holds_nothing, next_ending, decided, IsHeldEnding, holds_dash, holds_dashes, holds_bang, nat_tests, and_parts, ◌&&◌, ap, encode_utf8, ParseError, all, null_errors, without_null, Bogus, closes_bogus, IsBogus, closed_bogus, unclosed_bogus, Progress, comment_begun, IsInBogus, with_char, is_plain_in_bogus, map, append_assoc, length-append, AbruptClosingOfEmptyComment, EofInComment, IncorrectlyClosedComment, error, Comment, closes_at_once, errors_here, comment_errors_after, IsComment, closed_at_once, closed_with_bang, unclosed, IsInComment, backwards, is_whole, next_progress, length-le-encodes, Opening, ends_with_opening, IsOpening, next_opening}
use Rattle.hmarkup.proofs.Marks.{front-less, front-longer, spells-more, Avoids-more, Avoids-append, before-avoids, text_bytes-append, null_errors-append}
use Rattle.hmarkup.specs.Comment.{closed}

-- one more character makes no mark within the data
pub ending-more : (p q : Placed) (x : List Placed) → is_ending (q ∷ x) ≡ false → is_ending (q ∷ x) ≡ false → is_ending (q ∷ x ++ p ∷ []) ≡ false
ending-more p q x h _ = false_from_ne_true (is_ending (q ∷ x ++ p ∷ [])) (λ e. false≢true (sym h ∙ front-less (q ∷ x) p (codes "--!") e))

pub closes-more : (p q : Placed) (x : List Placed) → is_ending (q ∷ x) ≡ false → closes_comment (q ∷ x) ≡ false → closes_comment (q ∷ x ++ p ∷ []) ≡ false
closes-more p q x h k = grind
    (arith, front-longer (q ∷ x) (codes "--") (codes "!"), spells-more (codes "--") 62 (q ∷ x) p, spells-more (codes "--!") 62 (q ∷ x) p)

-- The characters held, and one more: some are data now, and some are held.
pub record Moves (ending : Ending) (held : List Placed) (p : Placed) : Type 0 where
  pub moved : List Placed
  pub left : List Placed
  pub split : held ++ p ∷ [] ≡ moved ++ left
  pub is_held : IsHeldEnding (next_ending ending p.ch) left
  pub no_close : Avoids closes_comment moved left
  pub no_ending : Avoids is_ending moved left
  pub bytes_are : text_bytes moved ≡ decided ending p.ch

-- all of them, or none
all_moved : (ending : Ending) (held : List Placed) (p : Placed) → IsHeldEnding (next_ending ending p.ch) [] → Avoids closes_comment (held ++ p ∷ []) []
    → Avoids is_ending (held ++ p ∷ []) [] → text_bytes (held ++ p ∷ []) ≡ decided ending p.ch → Moves ending held p
all_moved ending held p is_held no_close no_ending bytes_are = record {
  moved = held ++ p ∷ [];
  left = [];
  split = sym (append-nil (held ++ p ∷ []));
  is_held = is_held;
  no_close = no_close;
  no_ending = no_ending;
  bytes_are = bytes_are;
}

none_moved : (ending : Ending) (held : List Placed) (p : Placed) → IsHeldEnding (next_ending ending p.ch) (held ++ p ∷ []) → [] ≡ decided ending p.ch
    → Moves ending held p
none_moved ending held p is_held bytes_are = record
    { moved = []; left = held ++ p ∷ []; split = refl; is_held = is_held; no_close = tt; no_ending = tt; bytes_are = bytes_are }

pub moves_dash : (ending : Ending) (held : List Placed) (at : ℕ) → IsHeldEnding ending held → Moves ending held (record { ch = 45; at = at })
unfolding encode
moves_dash ending held at holds_nothing = none_moved _ _ _ (holds_dash at) refl
moves_dash ending held at (holds_dash a) = none_moved _ _ _ (holds_dashes a at) refl
moves_dash ending held at (holds_dashes a b) = record {
  moved = record { ch = 45; at = a } ∷ [];
  left = record { ch = 45; at = b } ∷ record { ch = 45; at = at } ∷ [];
  split = refl;
  is_held = holds_dashes b at;
  no_close = (refl, tt);
  no_ending = (refl, tt);
  bytes_are = refl;
}
moves_dash ending held at (holds_bang a b d) = record {
  moved = record { ch = 45; at = a } ∷ record { ch = 45; at = b } ∷ record { ch = 33; at = d } ∷ [];
  left = record { ch = 45; at = at } ∷ [];
  split = refl;
  is_held = holds_dash at;
  no_close = (refl, (refl, (refl, tt)));
  no_ending = (refl, (refl, (refl, tt)));
  bytes_are = refl;
}

pub moves_bang : (ending : Ending) (held : List Placed) (at : ℕ) → IsHeldEnding ending held → Moves ending held (record { ch = 33; at = at })
unfolding encode
moves_bang ending held at holds_nothing = all_moved _ _ _ holds_nothing (refl, tt) (refl, tt) refl
moves_bang ending held at (holds_dash a) = all_moved _ _ _ holds_nothing (refl, (refl, tt)) (refl, (refl, tt)) refl
moves_bang ending held at (holds_dashes a b) = none_moved _ _ _ (holds_bang a b at) refl
moves_bang ending held at (holds_bang a b d) = all_moved _ _ _ holds_nothing (refl, (refl, (refl, (refl, tt)))) (refl, (refl, (refl, (refl, tt)))) refl

-- whether a `>` right after it closes the comment
abbrev pub closes : Ending → Bool
closes Plain = false
closes Dash = false
closes Dashes = true
closes Bang = true

pub moves_other : (ending : Ending) (held : List Placed) (p : Placed) → eqb p.ch 45 ≡ false → eqb p.ch 33 ≡ false → (closes ending ≡ true → eqb p.ch 62 ≡ false)
    → IsHeldEnding ending held → Moves ending held p
unfolding encode
moves_other ending held p n45 n33 n62 holds_nothing =
    all_moved _ _ _ (simp (n45, n33) holds_nothing) (simp (n45), tt) (simp (n45), tt) (simp (n45, n33, append-nil))
moves_other ending held p n45 n33 n62 (holds_dash a) =
    all_moved _ _ _ (simp (n45, n33) holds_nothing) (simp (n45), (simp (n45), tt)) (simp (n45), (simp (n45), tt)) (simp (n45, n33, append-nil))
moves_other ending held p n45 n33 n62 (holds_dashes a b) = all_moved _ _ _ (simp (n45, n33) holds_nothing)
    (simp (n33, n62 refl), (simp (n45), (simp (n45), tt))) (simp (n33), (simp (n45), (simp (n45), tt))) (simp (n45, n33, append-nil))
moves_other ending held p n45 n33 n62 (holds_bang a b d) = all_moved _ _ _ (simp (n45, n33) holds_nothing) (simp (n62 refl), (refl, (refl, (simp (n45), tt))))
    (refl, (refl, (refl, (simp (n45), tt)))) (simp (n45, n33, append-nil))

on_tests : (ending : Ending) (held : List Placed) (ch at : ℕ) → (closes ending ≡ true → eqb ch 62 ≡ false) → IsHeldEnding ending held → (dash bang : Bool)
    → eqb ch 45 ≡ dash → eqb ch 33 ≡ bang → Moves ending held (record { ch = ch; at = at })
on_tests ending held ch at n62 h true bang e f = rw (eqb-true ch 45 e) (moves_dash ending held at h)
on_tests ending held ch at n62 h false true e f = rw (eqb-true ch 33 f) (moves_bang ending held at h)
on_tests ending held ch at n62 h false false e f = moves_other ending held (record { ch = ch; at = at }) e f n62 h

pub moves : (ending : Ending) (held : List Placed) (ch at : ℕ) → (closes ending ≡ true → eqb ch 62 ≡ false) → IsHeldEnding ending held
    → Moves ending held (record { ch = ch; at = at })
moves ending held ch at n62 h = on_tests ending held ch at n62 h (eqb ch 45) (eqb ch 33) refl refl

-- what is held at the closing character, and at the end
pub dashes_close : (ending : Ending) (held : List Placed) (at : ℕ) → IsHeldEnding ending held → ending ≡ Dashes
    → (before closes_comment (held ++ record { ch = 62; at = at } ∷ []) ≡ []) × (characters (held ++ record { ch = 62; at = at } ∷ []) ≡ codes "-->")
dashes_close ending held at (holds_dashes a b) e = (refl, refl)
dashes_close ending held at _ e = absurd cc

pub bang_closes : (ending : Ending) (held : List Placed) (at : ℕ) → IsHeldEnding ending held → ending ≡ Bang
    → (before closes_comment (held ++ record { ch = 62; at = at } ∷ []) ≡ []) × (characters held ≡ codes "--!")
bang_closes ending held at (holds_bang a b d) e = (refl, refl)
bang_closes ending held at _ e = absurd cc

pub dash_held : (ending : Ending) (held : List Placed) → IsHeldEnding ending held → closes ending ≡ false → is_front held (codes "-") ≡ true
dash_held ending held holds_nothing e = refl
dash_held ending held (holds_dash a) e = refl
dash_held ending held _ e = absurd cc

pub held_at_end : (ending : Ending) (held : List Placed) → IsHeldEnding ending held → (before closes_comment held ≡ held) × (before is_ending held ≡ [])
held_at_end ending held holds_nothing = (refl, refl)
held_at_end ending held _ = (refl, refl)

pub held_long : (ending : Ending) (held : List Placed) → IsHeldEnding ending held → closes ending ≡ true → 2 ≤ length held
held_long ending held (holds_dashes a b) e = omega arith
held_long ending held (holds_bang a b d) e = omega arith
held_long ending held _ e = absurd cc

-- A bogus comment that has not ended, and one more character or the end.
module _ (w : Progress) (text : List Placed) (errs : List ParseError) (p : Placed) (h : IsInBogus w text errs) where
  avoids_more : Avoids closes_bogus text (p ∷ [])
  avoids_more = Avoids-more closes_bogus closes_bogus p (λ q x a b. b) text [] h.no_close h.no_close

  pub bogus_kept : eqb p.ch 62 ≡ false → IsInBogus (with_char Bogus w p.ch) (text ++ p ∷ []) (errs ++ null_errors (p ∷ []))
  bogus_kept e = record {
    kind_is = h.kind_is;
    no_close = Avoids-append closes_bogus text (p ∷ []) [] avoids_more (ap (λ (b : Bool). b && true) e, tt);
    data_is = cc (append-nil (encode_utf8 (without_null p.ch)), text_bytes-append text (p ∷ []));
    errors_are = ap (λ (x : List ParseError). x ++ null_errors (p ∷ [])) h.errors_are ∙ sym (null_errors-append text (p ∷ []));
  }

pub bogus_closed : (w : Progress) (text : List Placed) (errs : List ParseError) (at : ℕ) → IsInBogus w text errs → (end : ℕ) (rest : List Placed)
    → IsBogus rest (text ++ record { ch = 62; at = at } ∷ []) w.data (errs ++ [])
bogus_closed w text errs at h end rest = let close : List Placed = record { ch = 62; at = at } ∷ [] in
    closed_bogus text close refl (sym (before-avoids closes_bogus text close (avoids_more w text errs (record { ch = 62; at = at }) h) ∙ append-nil text)) refl
    h.data_is (append-nil errs ∙ h.errors_are)

-- no `>` is in it
pub before-bogus : (w : Progress) (text : List Placed) (errs : List ParseError) → IsInBogus w text errs → text ≡ before closes_bogus text
before-bogus w text errs h = sym (ap (before closes_bogus) (sym (append-nil text)) ∙ before-avoids closes_bogus text [] h.no_close ∙ append-nil text)

-- the input ends in it
pub bogus_unclosed : (w : Progress) (text : List Placed) (errs : List ParseError) → IsInBogus w text errs → IsBogus [] text w.data (errs ++ [])
bogus_unclosed w text errs h = unclosed_bogus refl (before-bogus w text errs h) h.data_is (append-nil errs ∙ h.errors_are)

-- plain characters have been read: they close nothing, and none is an error
plain_avoids : (text : List Placed) → all is_plain_in_bogus text ≡ true → Avoids closes_bogus text []
plain_avoids [] h = tt
plain_avoids (p ∷ ps) h = (grind (arith, nat_tests), plain_avoids ps (and_parts _ _ h).1)

plain_errors : (text : List Placed) → all is_plain_in_bogus text ≡ true → null_errors text ≡ []
plain_errors [] h = refl
plain_errors (p ∷ ps) h = let null : eqb p.ch 0 ≡ false = grind (arith, nat_tests) in rw null (plain_errors ps (and_parts _ _ h).1)

pub plain_read : (text : List Placed) → all is_plain_in_bogus text ≡ true → IsInBogus (comment_begun Bogus (text_bytes text)) text []
plain_read text h = record { kind_is = refl; no_close = plain_avoids text h; data_is = refl; errors_are = sym (plain_errors text h) }

-- A comment that has not ended, and one more character or the end.

-- nothing was read
pub comment_begins : IsInComment (comment_begun Comment []) [] []
comment_begins = record {
  kind_is = refl;
  inner = [];
  held = [];
  text_is = refl;
  is_held = holds_nothing;
  not_at_once = refl;
  no_close = tt;
  no_ending = tt;
  opening = record { less = refl; less_bang = refl; less_bang_dash = refl; whole = refl };
  data_is = refl;
  errors_are = refl;
}

-- how much of an inner `<!--` was read
pub opening-next : (o : Opening) (seen : List Placed) (ch at : ℕ) → IsOpening o seen → IsOpening (next_opening o ch) (record { ch = ch; at = at } ∷ seen)
opening-next o seen ch at h = record {
  less = grind (arith, nat_tests);
  less_bang = grind (arith, nat_tests, h.less);
  less_bang_dash = grind (arith, nat_tests, h.less_bang);
  whole = grind (arith, nat_tests, h.less_bang_dash);
}

-- one character more, backwards; more text, in the errors
pub backwards-snoc : (seen xs : List Placed) (p : Placed) → backwards seen (xs ++ p ∷ []) ≡ p ∷ backwards seen xs
backwards-snoc seen [] p = refl
backwards-snoc seen (x ∷ xs) p = backwards-snoc (x ∷ seen) xs p

pub errors-append : (seen xs ys : List Placed)
    → comment_errors_after seen (xs ++ ys) ≡ comment_errors_after seen xs ++ comment_errors_after (backwards seen xs) ys
errors-append seen [] ys = refl
errors-append seen (x ∷ xs) ys = ap (λ (es : List ParseError). errors_here (ends_with_opening seen) x ++ es) (errors-append (x ∷ seen) xs ys)
    ∙ sym (append_assoc (errors_here (ends_with_opening seen) x) (comment_errors_after (x ∷ seen) xs) (comment_errors_after (backwards (x ∷ seen) xs) ys))

-- data
pub data-none : (xs : List Placed) → length (text_bytes xs) ≡ 0 → xs ≡ []
data-none [] h = refl
data-none (x ∷ xs) h = absurd (omega (arith, h, length-le-encodes (map (λ (p : Placed). without_null p.ch) (x ∷ xs))))

none_of : (xs : List Placed) → length xs ≡ 0 → length (text_bytes xs) ≡ 0
none_of [] h = refl
none_of (x ∷ xs) h = absurd (omega (arith, h))

-- one character more closes no comment at its start
pub once-long : (xs ys : List Placed) → 2 ≤ length xs → closes_at_once xs ≡ false → closes_at_once (xs ++ ys) ≡ false
once-long (x ∷ y ∷ xs) ys l h = h
once-long _ ys l h = absurd (omega (arith, l))

once-other : (text : List Placed) (p : Placed) → eqb p.ch 62 ≡ false → closes_at_once text ≡ false → closes_at_once (text ++ p ∷ []) ≡ false
once-other [] p e h = grind (arith, nat_tests)
once-other (q ∷ []) p e h = grind (arith, nat_tests)
once-other (q ∷ r ∷ more) p e h = h

once-past : (inner held : List Placed) (p : Placed) → (length inner ≡ 0 → ⊥) → Avoids is_ending inner held → closes_at_once (inner ++ held) ≡ false
    → closes_at_once ((inner ++ held) ++ p ∷ []) ≡ false
once-past [] held p some k h = absurd (some refl)
once-past (q ∷ []) [] p some k h = grind (arith, nat_tests, k.0)
once-past _ _ p some k h = h

module _ (w : Progress) (text : List Placed) (errs : List ParseError) (p : Placed) (h : IsInComment w text errs) where
  abbrev now : List Placed
  now = text ++ p ∷ []

  abbrev errors_now : List ParseError
  errors_now = errs ++ errors_here (is_whole w.opening) p

  now_is : now ≡ h.inner ++ (h.held ++ p ∷ [])
  now_is = ap (λ (x : List Placed). x ++ p ∷ []) h.text_is ∙ append_assoc h.inner h.held (p ∷ [])

  avoids_closing : Avoids closes_comment h.inner (h.held ++ p ∷ [])
  avoids_closing = Avoids-more is_ending closes_comment p (closes-more p) h.inner h.held h.no_ending h.no_close

  avoids_ending : Avoids is_ending h.inner (h.held ++ p ∷ [])
  avoids_ending = Avoids-more is_ending is_ending p (ending-more p) h.inner h.held h.no_ending h.no_ending

  errors_now_are : errors_now ≡ comment_errors_after [] now
  errors_now_are = (λ i. h.errors_are i ++ errors_here (sym h.opening.whole i) p)
      ∙ ap (λ (es : List ParseError). comment_errors_after [] text ++ es) (sym (append-nil (errors_here (ends_with_opening (backwards [] text)) p)))
      ∙ sym (errors-append [] text (p ∷ []))

  -- the comment goes on
  kept : closes_at_once now ≡ false → (closes w.ending ≡ true → eqb p.ch 62 ≡ false) → IsInComment (next_progress w p.ch) now errors_now
  kept starts unclosed' = let m = moves w.ending h.held p.ch p.at unclosed' h.is_held in
      record {
        kind_is = h.kind_is;
        inner = h.inner ++ m.moved;
        held = m.left;
        text_is = now_is ∙ ap (λ (x : List Placed). h.inner ++ x) m.split ∙ sym (append_assoc h.inner m.moved m.left);
        is_held = m.is_held;
        not_at_once = starts;
        no_close = Avoids-append closes_comment h.inner m.moved m.left (subst (λ x. Avoids closes_comment h.inner x) m.split avoids_closing) m.no_close;
        no_ending = Avoids-append is_ending h.inner m.moved m.left (subst (λ (x : List Placed). Avoids is_ending h.inner x) m.split avoids_ending) m.no_ending;
        opening = rw (backwards-snoc [] text p) (opening-next w.opening (backwards [] text) p.ch p.at h.opening);
        data_is =
            ap (λ d. d ++ decided w.ending p.ch) h.data_is ∙ ap (λ d. text_bytes h.inner ++ d) (sym m.bytes_are) ∙ sym (text_bytes-append h.inner m.moved);
        errors_are = errors_now_are;
      }

  pub kept_other : eqb p.ch 62 ≡ false → IsInComment (next_progress w p.ch) now errors_now
  kept_other e = kept (once-other text p e h.not_at_once) (λ _. e)

-- a `>` is no error by itself
greater_alone : (nested : Bool) (at : ℕ) → errors_here nested (record { ch = 62; at = at }) ≡ []
greater_alone true at = refl
greater_alone false at = refl

module _ (w : Progress) (text : List Placed) (errs : List ParseError) (at : ℕ) (h : IsInComment w text errs) where
  abbrev greater : Placed
  greater = record { ch = 62; at = at }

  same_errors : errs ≡ comment_errors_after [] (text ++ record { ch = 62; at = at } ∷ [])
  same_errors = sym (append-nil errs) ∙ ap (λ es. errs ++ es) (sym (greater_alone (is_whole w.opening) at)) ∙ errors_now_are w text errs greater h

  -- what is before the closing mark that ends here
  before_now : before closes_comment (h.held ++ record { ch = 62; at = at } ∷ []) ≡ []
      → h.inner ≡ before closes_comment (text ++ record { ch = 62; at = at } ∷ [])
  before_now e = sym (ap (before closes_comment) (now_is w text errs greater h)
      ∙ before-avoids closes_comment h.inner (h.held ++ greater ∷ []) (avoids_closing w text errs greater h) ∙ ap (λ x. h.inner ++ x) e ∙ append-nil h.inner)

  starts_not : closes w.ending ≡ true → closes_at_once (text ++ record { ch = 62; at = at } ∷ []) ≡ false
  starts_not e = once-long text (greater ∷ [])
      (let k = held_long w.ending h.held h.is_held e in omega (arith, k, ap length h.text_is, length-append h.inner h.held)) h.not_at_once

  -- it closes the comment by `-->`, by `--!>`, and at its start
  pub closed_now : w.ending ≡ Dashes → (end : ℕ) (rest : List Placed) → IsComment end rest (text ++ record { ch = 62; at = at } ∷ []) w.data (errs ++ [])
  closed_now e end rest = let k = dashes_close w.ending h.held at h.is_held e in
      closed h.inner (h.held ++ greater ∷ []) (now_is w text errs greater h) (starts_not (ap closes e)) (before_now k.0) k.1 h.data_is
      (append-nil errs ∙ same_errors)

  pub bang_closed_now : w.ending ≡ Bang → (end : ℕ) (rest : List Placed)
      → IsComment end rest (text ++ record { ch = 62; at = at } ∷ []) w.data (errs ++ error IncorrectlyClosedComment at ∷ [])
  bang_closed_now e end rest = let k = bang_closes w.ending h.held at h.is_held e in
      closed_with_bang h.inner h.held (greater ∷ []) (ap (λ (x : List Placed). x ++ greater ∷ []) h.text_is) (starts_not (ap closes e)) (before_now k.0) k.1
      refl h.data_is (ap (λ (es : List ParseError). es ++ error IncorrectlyClosedComment at ∷ []) same_errors)

  pub empty_now : closes w.ending ≡ false → length w.data ≡ 0 → (end : ℕ) (rest : List Placed)
      → IsComment end rest (text ++ record { ch = 62; at = at } ∷ []) w.data (errs ++ error AbruptClosingOfEmptyComment at ∷ [])
  empty_now e none end rest = let nothing : h.inner ≡ [] = data-none h.inner (sym (ap length h.data_is) ∙ none) in let text_is : text ≡ h.held = cc in
      closed_at_once h.held (greater ∷ []) (ap (λ (x : List Placed). x ++ greater ∷ []) text_is) (dash_held w.ending h.held h.is_held e) refl
      (h.data_is ∙ ap text_bytes nothing) (ap (λ (es : List ParseError). es ++ error AbruptClosingOfEmptyComment at ∷ []) same_errors)

  -- or goes on after data
  pub kept_past : closes w.ending ≡ false → (length w.data ≡ 0 → ⊥) → IsInComment (next_progress w 62) (text ++ record { ch = 62; at = at } ∷ []) (errs ++ [])
  kept_past e some = subst (λ (es : List ParseError). IsInComment (next_progress w 62) (text ++ greater ∷ []) (errs ++ es))
      (greater_alone (is_whole w.opening) at) (kept w text errs greater h (ap (λ (x : List Placed). closes_at_once (x ++ greater ∷ [])) h.text_is
      ∙ once-past h.inner h.held greater (λ z. some (ap length h.data_is ∙ none_of h.inner z)) h.no_ending (cc)) (λ k. absurd (false≢true (sym e ∙ k))))

-- no closing mark is in it
pub before-text : (w : Progress) (text : List Placed) (errs : List ParseError) → IsInComment w text errs → text ≡ before closes_comment text
before-text w text errs h = sym (ap (before closes_comment) h.text_is ∙ before-avoids closes_comment h.inner h.held h.no_close
    ∙ ap (λ (x : List Placed). h.inner ++ x) (held_at_end w.ending h.held h.is_held).0 ∙ sym h.text_is)

-- the input ends in it
pub unclosed_at : (w : Progress) (text : List Placed) (errs : List ParseError) → IsInComment w text errs → (end : ℕ)
    → IsComment end [] text w.data (errs ++ error EofInComment end ∷ [])
unclosed_at w text errs h end = unclosed refl h.not_at_once (before-text w text errs h)
    (h.data_is ∙ ap text_bytes (sym (ap (before is_ending) h.text_is ∙ before-avoids is_ending h.inner h.held h.no_ending
    ∙ ap (λ (x : List Placed). h.inner ++ x) (held_at_end w.ending h.held h.is_held).1 ∙ append-nil h.inner)))
    (ap (λ (es : List ParseError). es ++ error EofInComment end ∷ []) h.errors_are)
