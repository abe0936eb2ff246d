-- Laws of texts.
use Rattle.std.proofs.Common.{zero-add, add_assoc}
use Rattle.htext.proofs.Names.{◌≡◌, ℕ, zero, suc, ◌+◌, ◌-◌, ◌≤◌, ◌<◌, Bool, true, false, cond, ◌&&◌, List, [], ◌∷◌, ◌++◌, length, take, drop, sym, refl, ap, ◌∙◌, arith, append_assoc, eqb, map, length-append, length-drop, length-take-le, take-append-drop, take-append-add, encodes-chars, length-encode, len_utf8_bounds, utf8_valid_len_le, chars, utf8_valid_len, utf8_invalid_len, encode_utf8, len_utf8, placed, Placed, BadBytes, Bom, Read, Whole, Bad, character_of, PlacesRise, reads, reads_within, normalized, ends_in_return, text, front_len, reads_at, CharItem, Character, InputError, read_items, items, ◌||◌, ParseError, is_dropped_mark, read_errors, input_errors, characters_among, errors_among}
use Rattle.std.specs.Str.{encode_utf8_all}
use Rattle.htext.proofs.Valid.{front_utf8, invalid_bounds}
use Rattle.htext.proofs.Parts.{more_left}
use Rattle.htext.proofs.Fronts.{IsFront, front_more, front_is, front_past, front_le, reads_past}

-- one text after another
pub normalized-append : (bom : Bom) (after_return : Bool) (rs ss : List Read)
    → normalized bom after_return (rs ++ ss) ≡ normalized bom after_return rs ++ normalized bom (ends_in_return after_return rs) ss
normalized-append bom after_return [] ss = refl
normalized-append bom after_return (Whole p ∷ rs) ss = grind (arith, normalized-append bom (eqb p.ch 13) rs ss, append_assoc)
normalized-append bom after_return (Bad at ∷ rs) ss = grind (arith, normalized-append bom false rs ss)

pub ends_in_return-append : (after_return : Bool) (rs ss : List Read)
    → ends_in_return after_return (rs ++ ss) ≡ ends_in_return (ends_in_return after_return rs) ss
ends_in_return-append after_return [] ss = refl
ends_in_return-append after_return (Whole p ∷ rs) ss = ends_in_return-append (eqb p.ch 13) rs ss
ends_in_return-append after_return (Bad at ∷ rs) ss = ends_in_return-append false rs ss

-- what is read after a front
pub text_past : (bom : Bom) (bad : BadBytes) (front rest : List ℕ) (n : ℕ) → IsFront bad front rest
    → text bom (front ++ take n rest) ≡ text bom front ++ normalized bom (ends_in_return false (reads front)) (reads_at (length front) (take n rest))
text_past bom bad front rest n h = ap (normalized bom false) (reads_past bad front rest n h) ∙ normalized-append bom false (reads front) _

pub read_past : (e : Bool) (bom : Bom) (bad : BadBytes) (limit : ℕ) (front rest : List ℕ) → IsFront bad front rest → length front ≤ limit
    → text bom (take (front_len e bad limit (front ++ rest)) (front ++ rest)) ≡ text bom front
    ++ normalized bom (ends_in_return false (reads front)) (reads_at (length front) (take (front_len e bad (limit - length front) rest) rest))
read_past e bom bad limit front rest h within = let n : ℕ = front_len e bad (limit - length front) rest in
    grind (arith, front_past e bad limit front rest h within, take-append-add front rest n, text_past bom bad front rest n h)

-- more bytes change nothing of what is read whatever follows
pub goes_on : (e : Bool) (bom : Bom) (bad : BadBytes) (limit : ℕ) (bytes more : List ℕ) → (rest : List Read)
    × (text bom (take (front_len e bad limit (bytes ++ more)) (bytes ++ more)) ≡ text bom (take (front_len false bad limit bytes) bytes) ++ rest)
goes_on e bom bad limit bytes more = let n : ℕ = front_len false bad limit bytes in let front : List ℕ = take n bytes in let rest : List ℕ = drop n bytes in
    let le = front_le false bad limit bytes in let whole : front ++ (rest ++ more) ≡ bytes ++ more = grind (arith, append_assoc, take-append-drop n bytes) in
    let here = front_more bad front rest more (front_is bad limit bytes) in
    (_, rw whole at (read_past e bom bad limit front (rest ++ more) here (omega (arith, length-take-le n bytes le.1, le.0))))

-- PLACES RISE

rises_later : (first next end : ℕ) (ps : List Placed) → first ≤ next → PlacesRise next ps end → PlacesRise first ps end
rises_later first next end [] le h = omega (arith, h)
rises_later first next end (p ∷ ps) le h = (omega (arith, h.0), h.1)

-- from character to character
placed_rises : (at : ℕ) (cs : List ℕ) (rs : List Read) (end : ℕ) → PlacesRise (at + length (encode_utf8_all cs)) (map character_of rs) end
    → PlacesRise at (map character_of (map Whole (placed at cs) ++ rs)) end
placed_rises at [] rs end h = rises_later at (at + 0) end (map character_of rs) (omega arith) h
placed_rises at (c ∷ cs) rs end h = (
  omega arith,
  rises_later (at + 1) (at + len_utf8 c) end _ (omega (arith, len_utf8_bounds c))
      (placed_rises (at + len_utf8 c) cs rs end (rw (length-append (encode_utf8 c) (encode_utf8_all cs), length-encode c, ← add_assoc) at h)),
)

-- and from part to part
tail_rises : (b : Bool) (at next : ℕ) (rs : List Read) (end : ℕ) → at ≤ end → (b ≡ false → (at < next) × PlacesRise next (map character_of rs) end)
    → PlacesRise at (map character_of (cond b [] (Bad at ∷ rs))) end
tail_rises true at next rs end within h = within
tail_rises false at next rs end within h = let k = h refl in (omega arith, rises_later (at + 1) next end (map character_of rs) (omega (arith, k.0)) k.1)

reads_rises : (k at : ℕ) (bytes : List ℕ) → PlacesRise at (map character_of (reads_within k at bytes)) (at + length bytes)
unfolding reads_within
reads_rises zero at bytes = omega arith
reads_rises (suc k) at bytes = let n : ℕ = utf8_valid_len bytes in let m : ℕ = utf8_invalid_len (drop n bytes) in
    let le : n ≤ length bytes = utf8_valid_len_le bytes in
    let end : at + length (encode_utf8_all (chars (take n bytes))) ≡ at + n = grind
    (arith, encodes-chars (take n bytes) (front_utf8 bytes), length-take-le n bytes le) in
    let rest : List Read = reads_within k (at + n + m) (drop (n + m) bytes) in
    placed_rises at (chars (take n bytes)) _ (at + length bytes)
    (rw end (tail_rises (eqb n (length bytes)) (at + n) (at + n + m) rest (at + length bytes) (omega (arith, le)) (λ e.
    let bounds = invalid_bounds (drop n bytes) (more_left n bytes le e) in
    let left : at + n + m + length (drop (n + m) bytes) ≡ at + length bytes = omega (arith, bounds, length-drop n bytes, length-drop (n + m) bytes) in
    (omega (arith, bounds), rw left at (reads_rises k (at + n + m) (drop (n + m) bytes))))))

read_rises : (left_out : Bool) (first at end c : ℕ) (rs : List Read) → first ≤ at → PlacesRise (at + 1) (map character_of rs) end
    → PlacesRise first (map character_of (map Whole (cond left_out [] (record { ch = c; at = at } ∷ [])) ++ rs)) end
read_rises true first at end c rs le more = rises_later first (at + 1) end (map character_of rs) (omega arith) more
read_rises false first at end c rs le more = (le, more)

normalized_rises : (bom : Bom) (after_return : Bool) (first end : ℕ) (rs : List Read) → PlacesRise first (map character_of rs) end
    → PlacesRise first (map character_of (normalized bom after_return rs)) end
normalized_rises bom after_return first end [] h = h
normalized_rises bom after_return first end (Whole p ∷ rs) h = read_rises (is_dropped_mark bom p || (after_return && eqb p.ch 10)) first p.at end
    (cond (eqb p.ch 13) 10 p.ch) (normalized bom (eqb p.ch 13) rs) h.0 (normalized_rises bom (eqb p.ch 13) (p.at + 1) end rs h.1)
normalized_rises bom after_return first end (Bad at ∷ rs) h = (h.0, normalized_rises bom false (at + 1) end rs h.1)

pub text_rises : (bom : Bom) (bytes : List ℕ) → PlacesRise 0 (map character_of (text bom bytes)) (length bytes)
text_rises bom bytes = normalized_rises bom false 0 (length bytes) (reads bytes) (rw zero-add at (reads_rises (suc (length bytes)) 0 bytes))

-- what is handed over of a text
pub items-append : (xs ys : List Read) → items (xs ++ ys) ≡ items xs ++ items ys
items-append [] ys = refl
items-append (r ∷ rs) ys = ap (λ (x : List CharItem). read_items r ++ x) (items-append rs ys) ∙ sym (append_assoc (read_items r) (items rs) (items ys))

past_errors : (es : List ParseError) (p : Placed) (rest : List CharItem)
    → characters_among ((map InputError es ++ Character p ∷ []) ++ rest) ≡ p ∷ characters_among rest
past_errors [] p rest = refl
past_errors (e ∷ es) p rest = past_errors es p rest

among_errors : (es : List ParseError) (p : Placed) (rest : List CharItem)
    → errors_among ((map InputError es ++ Character p ∷ []) ++ rest) ≡ es ++ errors_among rest
among_errors [] p rest = refl
among_errors (e ∷ es) p rest = ap (λ (x : List ParseError). e ∷ x) (among_errors es p rest)

pub characters_among-items : (text : List Read) → characters_among (items text) ≡ map character_of text
characters_among-items [] = refl
characters_among-items (r ∷ rs) = grind (arith, past_errors (read_errors r) (character_of r) (items rs), characters_among-items rs)

pub errors_among-items : (text : List Read) → errors_among (items text) ≡ input_errors text
errors_among-items [] = refl
errors_among-items (r ∷ rs) = grind (arith, among_errors (read_errors r) (character_of r) (items rs), errors_among-items rs)
