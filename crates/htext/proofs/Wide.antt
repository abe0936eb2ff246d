-- Runs of characters in a text, by its bytes.
use Rattle.htext.proofs.Names.{◌≡◌, ℕ, ◌≤◌, ◌+◌, true, false, eqb, List, [], ◌∷◌, ◌++◌, map, length, take, drop, get_or, sym, refl, ap, ◌∙◌, subst, arith, append-nil, Result, Ok, Err, encode_utf8_all, list_all, nat_tests, and_parts, eqb-true, take_at, drop_at, take-append-drop, length-append, length-take-le, length-drop, drop-drop, nil_from_length, take-add, chars-append, encodes-chars, IsUtf8-append, IsUtf8-encode, IsUtf8-drop, length-encode, chars_past_char, chars-nil, scalars, chars, IsUtf8, IsScalar, encode_utf8, len_utf8, placed, Hands, Continues, Placed, Refusal, Bom, Whole, normalized, ends_in_return, CharItem, items, is_clean, run_items, IsCut, IsCleanFront, get_or-append_seam, scalars-chars, IsUtf8-take, IsCharBoundary, Continues-more}
use Rattle.htext.proofs.Handing.{Hands-front}
use Rattle.htext.proofs.Parts.{placed-append}
use Rattle.htext.proofs.Beginnings.{bytes_of, no_return, as_it_came, item_alone, begins_anew}

-- WHAT STANDS IN A TEXT

pub long_as : (bytes : List ℕ) → IsUtf8 bytes → length (encode_utf8_all (chars bytes)) ≡ length bytes
long_as bytes u = ap length (encodes-chars bytes u)

module _ (n : ℕ) (bytes : List ℕ) (cut : IsCut n bytes) where
  pub chars_cut : chars bytes ≡ chars (take n bytes) ++ chars (drop n bytes)
  chars_cut = ap chars (sym (take-append-drop n bytes)) ∙ chars-append (take n bytes) (drop n bytes) cut.front

  front_long : length (encode_utf8_all (chars (take n bytes))) ≡ n
  front_long = long_as (take n bytes) cut.front ∙ length-take-le n bytes cut.within

  pub placed_cut : (at : ℕ) → placed at (chars bytes) ≡ placed at (chars (take n bytes)) ++ placed (at + n) (chars (drop n bytes))
  placed_cut at = grind (arith, chars_cut, placed-append at (chars (take n bytes)) (chars (drop n bytes)), front_long)

-- and what follows is cut again
module _ (n m : ℕ) (bytes : List ℕ) (cut : IsCut n bytes) (again : IsCut m (drop n bytes)) where
  pub cut_more : IsCut (n + m) bytes
  cut_more = record {
    within = omega (arith, cut.within, again.within, length-drop n bytes);
    front = subst IsUtf8 (sym (take-add n m bytes)) (IsUtf8-append (take n bytes) (take m (drop n bytes)) cut.front again.front);
    back = subst IsUtf8 (drop-drop m n bytes) again.back;
  }

  pub placed_more : (at : ℕ) → placed at (chars (take (n + m) bytes)) ≡ placed at (chars (take n bytes)) ++ placed (at + n) (chars (take m (drop n bytes)))
  placed_more at = let more = take m (drop n bytes) in let both = chars-append (take n bytes) more cut.front in
      grind (arith, take-add n m bytes, both, placed-append at (chars (take n bytes)) (chars more), front_long n bytes cut)

-- a text that is empty has no characters, and another one has some
pub no_characters : (bytes : List ℕ) → true ≡ eqb (length bytes) 0 → chars bytes ≡ []
no_characters bytes none = ap chars (nil_from_length bytes (omega (arith, eqb-true (length bytes) 0 (sym none)))) ∙ chars-nil

pub has_characters : (bytes : List ℕ) → IsUtf8 bytes → false ≡ eqb (length bytes) 0 → false ≡ eqb (length (chars bytes)) 0
has_characters bytes u some = grind (arith, nat_tests, nil_from_length (chars bytes), encodes-chars bytes u)

-- the first character of a text
module _ (bytes : List ℕ) (u : IsUtf8 bytes) (c : ℕ) (cs : List ℕ) (is : chars bytes ≡ c ∷ cs) where
  first_bytes : bytes ≡ encode_utf8 c ++ encode_utf8_all cs
  first_bytes = sym (encodes-chars bytes u) ∙ ap encode_utf8_all is

  first_front : take (len_utf8 c) bytes ≡ encode_utf8 c
  first_front = ap (take (len_utf8 c)) first_bytes ∙ take_at (encode_utf8 c) (encode_utf8_all cs) (len_utf8 c) (length-encode c)

  first_scalars : (IsScalar c) × (scalars cs ≡ true)
  first_scalars = and_parts _ (scalars cs) (sym (ap scalars is) ∙ scalars-chars bytes u)

  pub first_cut : IsCut (len_utf8 c) bytes
  first_cut = let within : len_utf8 c ≤ length bytes = grind (arith, first_bytes, length-append (encode_utf8 c) (encode_utf8_all cs), length-encode c) in
      let rest : drop (len_utf8 c) bytes ≡ encode_utf8_all cs = rw first_bytes (drop_at (encode_utf8 c) (encode_utf8_all cs) (len_utf8 c) (length-encode c)) in
      record { within = within; front = rw first_front (IsUtf8-encode c first_scalars.0); back = rw rest (cs, (first_scalars.1, refl)) }

  pub first_char : (at : ℕ) → record { ch = c; at = at } ∷ [] ≡ placed at (chars (take (len_utf8 c) bytes))
  first_char at = grind (arith, first_front, append-nil (encode_utf8 c), chars_past_char (encode_utf8 c ++ []) [] c, IsUtf8-encode c first_scalars.0, chars-nil)

-- and the last one, which begins after `n` bytes
pub cut_last : (bytes xs : List ℕ) (c n : ℕ) → IsUtf8 bytes → bytes ≡ xs ++ encode_utf8 c → n ≡ length xs → IsCut n bytes
cut_last bytes xs c n u is here = let (b, bs, first, anew) = begins_anew c (encode_utf8 c) (bytes_of c) in
    let within : n ≤ length bytes = grind (arith, is, length-append xs (encode_utf8 c)) in
    let lead : get_or bytes n 0 ≡ b = grind (arith, is, first, here, get_or-append_seam xs b bs 0) in
    let edge : IsCharBoundary bytes n = (within, λ l a. omega (arith, lead, anew (omega (arith, lead, a)))) in
    record { within = within; front = IsUtf8-take bytes n u edge; back = IsUtf8-drop bytes n u edge }

pub last_char : (n at : ℕ) (bytes : List ℕ) (c : ℕ) → IsCut n bytes → drop n bytes ≡ encode_utf8 c
    → placed at (chars bytes) ≡ placed at (chars (take n bytes)) ++ record { ch = c; at = at + n } ∷ []
last_char n at bytes c cut is = grind (arith, placed_cut n bytes cut at, chars_past_char (drop n bytes) [] c cut.back, append-nil (encode_utf8 c), chars-nil)

text_of : (bom : Bom) (at : ℕ) (cs : List ℕ) (ps : List Placed) → list_all is_clean cs ≡ true
    → items (normalized bom false (map Whole (placed at cs ++ ps))) ≡ run_items at cs ++ items (normalized bom false (map Whole ps))
text_of bom at [] ps a = refl
text_of bom at (x ∷ xs) ps a = grind (arith, nat_tests, as_it_came bom x at, no_return x, item_alone x at, text_of bom (at + len_utf8 x) xs ps)

end_of : (at : ℕ) (cs : List ℕ) (ps : List Placed) → list_all is_clean cs ≡ true
    → ends_in_return false (map Whole (placed at cs ++ ps)) ≡ ends_in_return false (map Whole ps)
end_of at [] ps a = refl
end_of at (x ∷ xs) ps a = let k = and_parts (is_clean x) (list_all is_clean xs) a in rw (ends_in_return, no_return x k.0) (end_of (at + len_utf8 x) xs ps k.1)

pub ends_after : (n at : ℕ) (bytes : List ℕ) → IsCleanFront n bytes
    → ends_in_return false (map Whole (placed at (chars bytes))) ≡ ends_in_return false (map Whole (placed (at + n) (chars (drop n bytes))))
ends_after n at bytes is = grind (arith, placed_cut n bytes is.cut at, end_of at (chars (take n bytes)) (placed (at + n) (chars (drop n bytes))) is.clean)

-- A loop that hands over a text, of which `bytes` are left, at the place `at` and not after a CR, hands over a run at their front.
module _ {S : Type 0} (gives : S → CharItem → Result (Unit {0}) Refusal → S → Type 0) (bom : Bom) (old : S) (all : List CharItem) (now : S) (at n : ℕ)
    (bytes : List ℕ) (continues : Continues gives old all now (items (normalized bom false (map Whole (placed at (chars bytes))))))
    (is : IsCleanFront n bytes) where
  abbrev rest : List CharItem
  rest = items (normalized bom false (map Whole (placed (at + n) (chars (drop n bytes)))))

  run_on : Continues gives old all now (run_items at (chars (take n bytes)) ++ rest)
  run_on = rw (placed_cut n bytes is.cut at, text_of bom at (chars (take n bytes)) (placed (at + n) (chars (drop n bytes))) is.clean) at continues

  pub run_more : (next : S) → Hands gives now (run_items at (chars (take n bytes))) (Ok tt) next → Continues gives old all next rest
  run_more next h = Continues-more gives old now next all (run_items at (chars (take n bytes))) rest run_on h

  pub run_refused : (next : S) (e : Refusal) → Hands gives now (run_items at (chars (take n bytes))) (Err e) next → Hands gives old all (Err e) next
  run_refused next e h = run_on (Err e) next (Hands-front gives now (run_items at (chars (take n bytes))) _ e next h)

-- ONE CHARACTER OF A TEXT AFTER ANOTHER

pub text_step : (at : ℕ) (bytes others : List ℕ) (c : ℕ) → IsUtf8 bytes → bytes ≡ encode_utf8 c ++ others
    → placed at (chars bytes) ≡ record { ch = c; at = at } ∷ placed (at + length (encode_utf8 c)) (chars others)
text_step at bytes others c u is = grind (arith, chars_past_char bytes others c u is, length-encode c)

-- A loop that hands over the characters of a text, of which `bytes` are left, at the place `at`.
module _ {S X : Type 0} (gives : S → X → Result (Unit {0}) Refusal → S → Type 0) (item : Placed → X) (old : S) (all : List X) (now : S) (at : ℕ)
    (bytes : List ℕ) (continues : Continues gives old all now (map item (placed at (chars bytes)))) where
  pub none_left : length bytes ≡ 0 → Hands gives old all (Ok tt) now
  none_left none = continues (Ok tt) now (rw (nil_from_length bytes none, chars-nil) (refl, refl))

  module _ (c : ℕ) (others : List ℕ) (u : IsUtf8 bytes) (is : bytes ≡ encode_utf8 c ++ others) (place : ℕ) (here : place ≡ at) where
    one_on : Continues gives old all now (item (record { ch = c; at = place }) ∷ map item (placed (at + length (encode_utf8 c)) (chars others)))
    one_on = rw here (rw (text_step at bytes others c u is) at continues)

    pub one_more : (next : S) (later : ℕ) → later ≡ at + length (encode_utf8 c) → gives now (item (record { ch = c; at = place })) (Ok tt) next
        → Continues gives old all next (map item (placed later (chars others)))
    one_more next later l given = λ answer new h. one_on answer new (Ok tt, next, given, rw l at h)

    pub one_refused : (next : S) (e : Refusal) → gives now (item (record { ch = c; at = place })) (Err e) next → Hands gives old all (Err e) next
    one_refused next e given = one_on (Err e) next (Err e, next, given, (refl, refl))
