-- A text as it is written, in runs of characters that are written as they are.
use Rattle.hserialize.proofs.Names.{◌≡◌, ℕ, ◌+◌, ◌-◌, ◌≤◌, List, [], ◌++◌, length, take, drop, refl, sym, ◌∙◌, ap, arith, length-append, append_assoc, take_rest, encode_utf8, flat_map, Refusal, escaped, Taken, AddsBytes, Fails, Escaping, drop-append_seam, take-append_seam, nil_from_length, chars-nil, chars_past_char, IsUtf8-past_char, IsUtf8, written_char, Setting, subst}
use Rattle.hserialize.proofs.Output.{HasLeft, none_put, part_put, part_failed}

-- What is before `done` is written, and so far each character after it is written as it is.
pub record IsEscaping (how : Escaping) (setting : Setting) (source : List ℕ) (done at : ℕ) (rest : List ℕ) (old now : Taken) : Type 0 where
  pub before : List ℕ
  pub run : List ℕ
  pub parts : source ≡ before ++ (run ++ rest)
  pub done_is : done ≡ length before
  pub at_is : at ≡ length before + length run
  pub utf8 : IsUtf8 rest
  pub left : HasLeft old now (escaped how setting source) (run ++ escaped how setting rest)

pub begins_at : (how : Escaping) (setting : Setting) (source : List ℕ) (at : ℕ) (rest : List ℕ) (old : Taken) → at ≡ 0 → rest ≡ source → IsUtf8 source
    → IsEscaping how setting source 0 at rest old old
begins_at how setting source at rest old none all utf8 = record
    { before = []; run = []; parts = sym all; done_is = refl; at_is = none; utf8 = rw (all) utf8; left = rw (all) (none_put old (escaped how setting source)) }

module _ (how : Escaping) (setting : Setting) (source : List ℕ) (done at : ℕ) (rest : List ℕ) (old now : Taken)
    (s : IsEscaping how setting source done at rest old now) where
  pub run_left : drop done source ≡ s.run ++ rest
  run_left = (λ i. drop (s.done_is i) (s.parts i)) ∙ drop-append_seam s.before (s.run ++ rest)

  pub run_is : (lent : List ℕ) (end : ℕ) → lent ≡ source → end ≡ at → take (end - done) (drop done lent) ≡ s.run
  run_is lent end same here = (λ i. take (count i) (drop done (same i))) ∙ ap (take (length s.run)) run_left ∙ take-append_seam s.run rest where
    count : end - done ≡ length s.run
    count = omega (arith, s.done_is, s.at_is, here)

  pub stands : (lent : List ℕ) → lent ≡ source → length lent ≡ at + length rest
  stands lent same = ap length (same ∙ s.parts) ∙ simp length-append (omega (arith, s.at_is))

  pub at_within : (lent : List ℕ) (end : ℕ) → lent ≡ source → end ≡ at → end ≤ length lent
  at_within lent end same here = omega (arith, stands lent same, here)

  pub done_within : (lent : List ℕ) → lent ≡ source → done ≤ length lent
  done_within lent same = omega (arith, stands lent same, s.done_is, s.at_is)

  module _ (ch : ℕ) (next : List ℕ) (split : rest ≡ encode_utf8 ch ++ next) where
    escaped_next : escaped how setting rest ≡ written_char how setting ch ++ escaped how setting next
    escaped_next = ap (flat_map (written_char how setting)) (chars_past_char rest next ch s.utf8 split)

    -- one character more that is written as it is
    pub kept : (later : ℕ) → later ≡ at + length (encode_utf8 ch) → written_char how setting ch ≡ encode_utf8 ch
        → IsEscaping how setting source done later next old now
    kept later moved plain = record {
      before = s.before;
      run = s.run ++ encode_utf8 ch;
      parts = s.parts ∙ ap (λ r. s.before ++ (s.run ++ r)) split ∙ ap (λ r. s.before ++ r) (sym (append_assoc s.run (encode_utf8 ch) next));
      done_is = s.done_is;
      at_is = simp length-append (omega (arith, s.at_is, moved));
      utf8 = IsUtf8-past_char rest next ch s.utf8 split;
      left = subst (HasLeft old now (escaped how setting source)) (ap (λ l. s.run ++ l) (escaped_next ∙ ap (λ l. l ++ escaped how setting next) plain)
          ∙ sym (append_assoc s.run (encode_utf8 ch) (escaped how setting next))) s.left;
    }

    -- one that is not, after the run before it
    module _ (part : List ℕ) (is : part ≡ s.run) (text : List ℕ) (same : written_char how setting ch ≡ text) where
      parted : s.run ++ escaped how setting rest ≡ (part ++ text) ++ escaped how setting next
      parted =
          (λ i. sym is i ++ escaped_next i) ∙ ap (λ t. part ++ (t ++ escaped how setting next)) same ∙ sym (append_assoc part text (escaped how setting next))

      pub replaced : (new : Taken) (past later : ℕ) → past ≡ at + length (encode_utf8 ch) → later ≡ at + length (encode_utf8 ch)
          → AddsBytes now new (part ++ text) → IsEscaping how setting source past later next old new
      replaced new past later stands moved put = record {
        before = s.before ++ (s.run ++ encode_utf8 ch);
        run = [];
        parts = s.parts ∙ ap (λ r. s.before ++ (s.run ++ r)) split ∙ ap (λ r. s.before ++ r) (sym (append_assoc s.run (encode_utf8 ch) next))
            ∙ sym (append_assoc s.before (s.run ++ encode_utf8 ch) next);
        done_is = omega (arith, place, stands);
        at_is = omega (arith, place, moved);
        utf8 = IsUtf8-past_char rest next ch s.utf8 split;
        left = part_put old now new _ _ _ _ s.left parted put;
      } where
        place : at + length (encode_utf8 ch) ≡ length (s.before ++ (s.run ++ encode_utf8 ch))
        place = simp (length-append) (omega (arith, s.at_is))

      pub put_failed : (new : Taken) {e : Refusal} → Fails e now new (part ++ text) → Fails e old new (escaped how setting source)
      put_failed new = part_failed old now new _ _ _ _ s.left parted

  -- the last run
  pub last_is : length rest ≡ 0 → (lent : List ℕ) → lent ≡ source → s.run ++ escaped how setting rest ≡ take (length lent - done) (drop done lent)
  last_is h lent same = let none = nil_from_length rest h in
      ap (λ r. s.run ++ escaped how setting r) none ∙ ap (λ cs. s.run ++ flat_map (written_char how setting) cs) chars-nil
      ∙ sym (run_left ∙ ap (λ r. s.run ++ r) none) ∙ ap (drop done) (sym same) ∙ sym (take_rest lent done)
