-- Where a text is cut, and ASCII characters, each of which is a byte.
use Rattle.htag.proofs.Vocabulary.{◌≡◌, ℕ, ◌<◌, ◌≤◌, ◌+◌, zero, suc, true, List, [], ◌∷◌, ◌++◌, length, take, drop, sym, refl, ap, ◌∙◌, subst, arith, nat_tests, and_parts, list_all, encode_utf8, len_utf8, take-append-drop, Placed, placed, is_ascii, chars, IsUtf8, IsCut, IsAscii, IsCharBoundary, chars-IsAscii, chars_past_char, encode_ascii, len_utf8_ascii, IsUtf8-from_ascii, IsUtf8-past_char, IsUtf8-take, IsUtf8-drop, IsCharBoundary-from_drop}

pub cut_at : (n : ℕ) (run : List ℕ) → IsUtf8 run → IsCharBoundary run n → IsCut n run
cut_at n run u edge = record { within = edge.0; front = IsUtf8-take run n u edge; back = IsUtf8-drop run n u edge }

pub edge_of : (n : ℕ) (run : List ℕ) → IsCut n run → IsCharBoundary run n
edge_of n run cut = IsCharBoundary-from_drop run n cut.within cut.back

pub each_ascii : (xs : List ℕ) → list_all is_ascii xs ≡ true → IsAscii xs
each_ascii [] h i = omega arith
each_ascii (x ∷ xs) h zero = let k = and_parts (is_ascii x) (list_all is_ascii xs) h in grind (arith, k.0, nat_tests)
each_ascii (x ∷ xs) h (suc i) = each_ascii xs (and_parts (is_ascii x) (list_all is_ascii xs) h).1 i

pub ascii_chars : (xs ys : List ℕ) → list_all is_ascii xs ≡ true → IsUtf8 (xs ++ ys) → IsUtf8 ys × (chars (xs ++ ys) ≡ xs ++ chars ys)
ascii_chars [] ys a u = (u, refl)
ascii_chars (x ∷ xs) ys a u = let k = and_parts (is_ascii x) (list_all is_ascii xs) a in let small : x < 128 = grind (arith, nat_tests) in
    let is : x ∷ (xs ++ ys) ≡ encode_utf8 x ++ (xs ++ ys) = ap (λ (e : List ℕ). e ++ (xs ++ ys)) (sym (encode_ascii x small)) in
    let more = ascii_chars xs ys k.1 (IsUtf8-past_char (x ∷ (xs ++ ys)) (xs ++ ys) x u is) in
    (more.0, chars_past_char (x ∷ (xs ++ ys)) (xs ++ ys) x u is ∙ ap (λ (cs : List ℕ). x ∷ cs) more.1)

pub ascii_placed : (at : ℕ) (xs ys : List ℕ) → list_all is_ascii xs ≡ true → placed at (xs ++ ys) ≡ placed at xs ++ placed (at + length xs) ys
ascii_placed at [] ys h = let same : at ≡ at + 0 = omega arith in ap (λ (n : ℕ). placed n ys) same
ascii_placed at (x ∷ xs) ys h = let k = and_parts (is_ascii x) (list_all is_ascii xs) h in let small : x < 128 = grind (arith, nat_tests) in
    let end : (at + len_utf8 x) + length xs ≡ at + length (x ∷ xs) = omega (arith, len_utf8_ascii x small) in
    ap (λ (ps : List Placed). record { ch = x; at = at } ∷ ps) (ascii_placed (at + len_utf8 x) xs ys k.1)
    ∙ ap (λ (n : ℕ). record { ch = x; at = at } ∷ (placed (at + len_utf8 x) xs ++ placed n ys)) end

-- a front that is ASCII
module _ (n : ℕ) (run : List ℕ) (within : n ≤ length run) (ascii : list_all is_ascii (take n run) ≡ true) where
  pub ascii_cut : IsUtf8 run → IsCut n run
  ascii_cut u = record {
    within = within;
    front = IsUtf8-from_ascii (take n run) (each_ascii (take n run) ascii);
    back = (ascii_chars (take n run) (drop n run) ascii (subst IsUtf8 (sym (take-append-drop n run)) u)).0;
  }

  pub ascii_taken : chars (take n run) ≡ take n run
  ascii_taken = chars-IsAscii (take n run) (each_ascii (take n run) ascii)
