-- What an index of lines has after a byte more, and with more memory.
use Rattle.hwrite.proofs.Vocabulary.{◌≡◌, ◌≢◌, ℕ, zero, suc, ◌<◌, ◌+◌, ◌-◌, ◌*◌, ◌/◌, ◌%◌, ◌^◌, ◌==◌, ◌||◌, ◌&&◌, ◌++◌, ◌∷◌, [], List, Bool, add-one, ap, ap₂, arith, get_or, if◌then◌else◌, inl, inr, length, not, refl, sym, ◌∙◌, cases_eq, get_or_append_left, length_push, get_or-append_seam, begins_character, column_at, ends_line, is_end, line_at, IndexHasRead, AreAlikeBytes, kind_at, kind_of, LineIndex}
use Rattle.hwrite.proofs.Marks.{place_next}

ends_is : (text : List ℕ) (at : ℕ) → ends_line text at ≡ is_end (get_or text at 0) (get_or text (suc at) 0 == 10)
ends_is text at = let next : 1 + at ≡ suc at = omega arith in ap (λ after. is_end (get_or text at 0) (get_or text after 0 == 10)) next

-- ---- the place of a byte does not depend on what comes after it
ends_append : (text more : List ℕ) (at : ℕ) → suc at < length text → ends_line (text ++ more) at ≡ ends_line text at
ends_append text more at inside =
    rw (ends_is, ends_is text at, get_or_append_left text more 0 at (omega arith), get_or_append_left text more 0 (suc at) inside) refl

line_append : (text more : List ℕ) (at : ℕ) → at < length text → line_at (text ++ more) at ≡ line_at text at
line_append text more zero inside = refl
line_append text more (suc at) inside = rw (ends_append text more at inside, line_append text more at (omega arith)) refl

column_append : (text more : List ℕ) (at : ℕ) → at < length text → column_at (text ++ more) at ≡ column_at text at
column_append text more zero inside = refl
column_append text more (suc at) inside =
    rw (ends_append text more at inside, get_or_append_left text more 0 at (omega arith), column_append text more at (omega arith)) refl

-- ---- a byte before the text that counts for nothing
ends_behind : (text : List ℕ) (at : ℕ) → ends_line (128 ∷ text) (suc at) ≡ ends_line text at
ends_behind text at = ends_is (128 ∷ text) (suc at) ∙ sym (ends_is text at)

line_behind : (text : List ℕ) (at : ℕ) → line_at (128 ∷ text) (suc at) ≡ line_at text at
line_behind text zero = refl
line_behind text (suc at) = ap₂ (λ ends line. (if ends then 1 else 0) + line) (ends_behind text at) (line_behind text at)

column_behind : (text : List ℕ) (at : ℕ) → column_at (128 ∷ text) (suc at) ≡ column_at text at
column_behind text zero = refl
column_behind text (suc at) = rw (ends_behind text at, column_behind text at) refl

-- of bytes of one kind a line ends with both or none
pub ends_alike : (a b : ℕ) (before_lf : Bool) → AreAlikeBytes a b → is_end a before_lf ≡ is_end b before_lf
ends_alike a b before_lf alike = ap₂ (λ feeds returns. feeds || (returns && not before_lf)) alike.feeds alike.returns

-- ---- the index
paired : {place : ℕ × ℕ} {line column : ℕ} → place.0 ≡ line → place.1 ≡ column → ◌≡◌ {A = ℕ × ℕ} place (line, column)
paired first second = ap₂ {C = ℕ × ℕ} (λ line column. (line, column)) first second

-- what counts of an index with more memory is as before
pub grown : (old new : LineIndex) (bytes : List ℕ) → IndexHasRead old bytes → new.length ≡ old.length
    → ((k : ℕ) → get_or new.kinds.items k 0 ≡ get_or old.kinds.items k 0) → ((k : ℕ) → get_or new.marks.items k (1, 1) ≡ get_or old.marks.items k (1, 1))
    → new.last ≡ old.last → new.place ≡ old.place → IndexHasRead new bytes
grown old new bytes was length_is kinds marks last place = record {
  length_is = length_is ∙ was.length_is;
  fits = was.fits;
  kinds = λ at inside. ap (λ number. number / 2 ^ (at % 4 * 2) % 4) (kinds (at / 4)) ∙ was.kinds at inside;
  marks = λ k inside. marks k ∙ was.marks k inside;
  last = last ∙ was.last;
  line = ap (λ (p : ℕ × ℕ). p.0) place ∙ was.line;
  column = ap (λ (p : ℕ × ℕ). p.1) place ∙ was.column;
}

-- a byte more has been read
pub read_on : (old new : LineIndex) (bytes : List ℕ) (byte : ℕ) → IndexHasRead old bytes → new.length ≡ old.length + 1 → old.length + 1 < 2 ^ 64 - 1
    → kind_at new.kinds.items old.length ≡ kind_of byte → ((k : ℕ) → k < old.length → kind_at new.kinds.items k ≡ kind_at old.kinds.items k)
    → ((k : ℕ) → k * 256 ≡ old.length → get_or new.marks.items k (1, 1) ≡ new.place)
    → ((k : ℕ) → k * 256 ≢ old.length → get_or new.marks.items k (1, 1) ≡ get_or old.marks.items k (1, 1)) → new.last ≡ byte
    → (old.place.0 < 2 ^ 64 - 1 → new.place.0 ≡ (if is_end old.last (byte == 10) then 1 else 0) + old.place.0)
    → (old.place.1 < 2 ^ 64 - 1 → new.place.1 ≡ (if is_end old.last (byte == 10) then 1 else (if begins_character old.last then 1 else 0) + old.place.1))
    → IndexHasRead new (bytes ++ byte ∷ [])
read_on old new bytes byte was length_is fits kind_here kind_before mark_here mark_others last line column =
    let whole = bytes ++ byte ∷ [] in let at = length bytes in let grows : length whole ≡ at + 1 = length_push bytes byte in
    let old_last : get_or (128 ∷ whole) at 0 ≡ old.last = get_or_append_left (128 ∷ bytes) (byte ∷ []) 0 at (omega arith) ∙ sym was.last in
    let ends : is_end old.last (byte == 10) ≡ ends_line (128 ∷ whole) at =
    ap₂ (λ byte next. is_end byte (next == 10)) (sym old_last) (sym (get_or-append_seam bytes byte [] 0)) ∙ sym (ends_is (128 ∷ whole) at) in
    let place = place_next (128 ∷ whole) at old.last (byte == 10) old.place new.place (omega arith) ends (ap begins_character (sym old_last))
    (was.line ∙ sym (line_append (128 ∷ bytes) (byte ∷ []) at (omega arith)))
    (was.column ∙ sym (column_append (128 ∷ bytes) (byte ∷ []) at (omega arith))) line column in
    let next : length whole ≡ suc at = omega arith in
    record {
      length_is = length_is ∙ ap (λ n. n + 1) was.length_is ∙ sym grows;
      fits = omega arith;
      kinds = λ k inside. elim (cases_eq k at) [
        | inl same ↦ ap (kind_at new.kinds.items) (same ∙ sym was.length_is) ∙ kind_here
            ∙ ap kind_of (sym (ap (λ n. get_or whole n 0) same ∙ get_or-append_seam bytes byte [] 0))
        | inr other ↦ kind_before k (omega arith) ∙ was.kinds k (omega arith) ∙ ap kind_of (sym (get_or_append_left bytes (byte ∷ []) 0 k (omega arith)))
      ];
      marks = λ k inside. elim (cases_eq (k * 256) at) [
        | inl same ↦ mark_here k (same ∙ sym was.length_is)
            ∙ paired (place.0 ∙ ap (line_at (128 ∷ whole)) (add-one at) ∙ line_behind whole at ∙ ap (line_at whole) (sym same))
            (place.1 ∙ ap (column_at (128 ∷ whole)) (add-one at) ∙ column_behind whole at ∙ ap (column_at whole) (sym same))
        | inr other ↦ mark_others k (λ same. other (same ∙ was.length_is)) ∙ was.marks k (omega arith)
            ∙ paired (sym (line_append bytes (byte ∷ []) (k * 256) (omega arith))) (sym (column_append bytes (byte ∷ []) (k * 256) (omega arith)))
      ];
      last = last ∙ sym (ap (λ n. get_or (128 ∷ whole) n 0) next ∙ get_or-append_seam bytes byte [] 0);
      line = place.0 ∙ ap (line_at (128 ∷ whole)) (sym grows);
      column = place.1 ∙ ap (column_at (128 ∷ whole)) (sym grows);
    }
