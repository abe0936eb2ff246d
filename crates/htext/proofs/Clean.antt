-- Where a text is cut by the count of bytes that pass a test.
use Rattle.htext.proofs.Names.{◌≡◌, ℕ, ◌≤◌, ◌+◌, ◌-◌, zero, suc, Bool, true, false, cond, List, [], ◌∷◌, ◌++◌, length, take, drop, sym, refl, ap, ◌∙◌, arith, inl, inr, encode_utf8_all, list_all, prefix_len, and_from, cases_lt, nat_tests, take_at, drop_at, take-append-drop, length-append, length-drop, drop-drop, append-nil, take-add, chars-append, chars_past_char, length-encode, len_utf8, list_all-append, chars-nil, encode_ascii, IsUtf8-nil, scalars, chars, IsUtf8, encode_utf8, is_plain_character, is_clean, is_of_clean_bytes, is_clean_byte, is_text_byte, IsCut, IsCleanFront, chars-encodes, encodes-append, all_weaker}
use Rattle.htext.proofs.Beginnings.{bytes_of, BeginsOutside, of_clean_bytes, clean_bytes, other_bytes, long_bytes, plain_of_text}
use Rattle.htext.proofs.Runs.{counted}
use Rattle.htext.proofs.Wide.{chars_cut, cut_more, first_cut}

take_scalars : (n : ℕ) (cs : List ℕ) → scalars cs ≡ true → (scalars (take n cs) ≡ true) × (scalars (drop n cs) ≡ true)
take_scalars zero cs s = (refl, s)
take_scalars (suc n) [] s = (refl, refl)
take_scalars (suc n) (c ∷ cs) s = (grind (arith, take_scalars n cs), grind (arith, take_scalars n cs))

through : (test : ℕ → Bool) (xs ys : List ℕ) → list_all test xs ≡ true → prefix_len test (xs ++ ys) ≡ length xs + prefix_len test ys
through test [] ys h = omega arith
through test (x ∷ xs) ys h = grind (arith, nat_tests, through test xs ys)

-- a test of characters, and one of bytes that all bytes of the characters that pass do, and the first byte of no other
module _ (test byte_test : ℕ → Bool) (inside : (c : ℕ) → test c ≡ true → list_all byte_test (encode_utf8 c) ≡ true)
    (outside : (c : ℕ) → test c ≡ false → BeginsOutside byte_test (encode_utf8 c)) where
  abbrev IsFront : ℕ → List ℕ → Type 0
  IsFront n bytes = IsCut n bytes × (list_all test (chars (take n bytes)) ≡ true)

  counted_by : (b : Bool) (c : ℕ) (cs : List ℕ) → test c ≡ b
      → prefix_len byte_test (encode_utf8_all cs) ≡ length (encode_utf8_all (take (prefix_len test cs) cs))
      → prefix_len byte_test (encode_utf8 c ++ encode_utf8_all cs) ≡ length (encode_utf8_all (take (cond b (1 + prefix_len test cs) 0) (c ∷ cs)))
  counted_by true c cs e more = grind (arith, through byte_test (encode_utf8 c) (encode_utf8_all cs) (inside c e), length-append)
  counted_by false c cs e more = let (b, bs, is, fails) = outside c e in grind (arith, is, fails)

  -- the bytes that pass at the front of characters are those of the characters that do
  counts : (cs : List ℕ) → prefix_len byte_test (encode_utf8_all cs) ≡ length (encode_utf8_all (take (prefix_len test cs) cs))
  counts [] = refl
  counts (c ∷ cs) = counted_by (test c) c cs refl (counts cs)

  -- characters that are cut in two
  cut_characters : (xs ys : List ℕ) (n : ℕ) → scalars xs ≡ true → scalars ys ≡ true → n ≡ length (encode_utf8_all xs) → list_all test xs ≡ true
      → IsFront n (encode_utf8_all xs ++ encode_utf8_all ys)
  cut_characters xs ys n s t is all = let whole : List ℕ = encode_utf8_all xs ++ encode_utf8_all ys in
      let taken : take n whole ≡ encode_utf8_all xs = take_at (encode_utf8_all xs) (encode_utf8_all ys) n (sym is) in
      let left : drop n whole ≡ encode_utf8_all ys = drop_at (encode_utf8_all xs) (encode_utf8_all ys) n (sym is) in
      let within : n ≤ length whole = omega (arith, length-append (encode_utf8_all xs) (encode_utf8_all ys)) in
      (record { within = within; front = rw taken (xs, (s, refl)); back = rw left (ys, (t, refl)) }, rw (taken, chars-encodes xs s) all)

  pub front : (bytes : List ℕ) → IsUtf8 bytes → IsFront (prefix_len byte_test bytes) bytes
  front bytes u = let cs : List ℕ = u.0 in let k : ℕ = prefix_len test cs in let parts = take_scalars k cs u.1.0 in
      let both : encode_utf8_all (take k cs) ++ encode_utf8_all (drop k cs) ≡ bytes = grind (arith, encodes-append, take-append-drop k cs, u.1.1) in
      rw both at (cut_characters (take k cs) (drop k cs) (prefix_len byte_test bytes) parts.0 parts.1 (rw (← u.1.1) (counts cs)) (counted test cs))

-- CLEAN CHARACTERS

pub clean_front : (bytes : List ℕ) → IsUtf8 bytes → IsCleanFront (prefix_len is_clean_byte bytes) bytes
clean_front bytes u =
    let (cut, clean) = front is_of_clean_bytes is_clean_byte (λ c h. clean_bytes c (encode_utf8 c) h (bytes_of c))
    (λ c h. other_bytes c (encode_utf8 c) h (bytes_of c)) bytes u in
    record { cut = cut; clean = all_weaker is_of_clean_bytes is_clean of_clean_bytes (chars (take (prefix_len is_clean_byte bytes) bytes)) clean }

-- one after another
pub clean_more : (n m : ℕ) (bytes : List ℕ) → IsCleanFront n bytes → IsCleanFront m (drop n bytes) → IsCleanFront (n + m) bytes
clean_more n m bytes here more = let both = chars-append (take n bytes) (take m (drop n bytes)) here.cut.front in
    let all = list_all-append is_clean (chars (take n bytes)) (chars (take m (drop n bytes))) in
    record { cut = cut_more n m bytes here.cut more.cut; clean = grind (arith, take-add n m bytes, both, all, here.clean, more.clean) }

alone : (c : ℕ) → IsUtf8 (encode_utf8 c) → chars (encode_utf8 c) ≡ c ∷ []
alone c u = grind (arith, append-nil (encode_utf8 c), chars_past_char (encode_utf8 c ++ []) [] c, chars-nil)

-- a clean character
pub clean_first : (bytes after : List ℕ) (c : ℕ) → IsUtf8 bytes → bytes ≡ encode_utf8 c ++ after → is_clean c ≡ true → IsCleanFront (len_utf8 c) bytes
clean_first bytes after c u is clean = let cut = first_cut bytes u c (chars after) (chars_past_char bytes after c u is) in
    let front : take (len_utf8 c) bytes ≡ encode_utf8 c = rw is (take_at (encode_utf8 c) after (len_utf8 c) (length-encode c)) in
    record { cut = cut; clean = rw (front, alone c (rw front at cut.front)) (and_from _ _ clean refl) }

pub nothing_front : (bytes : List ℕ) → IsUtf8 bytes → IsCleanFront 0 bytes
nothing_front bytes u = record { cut = record { within = omega arith; front = IsUtf8-nil; back = u }; clean = ap (list_all is_clean) chars-nil }

pub clean_rest : (n : ℕ) (run : List ℕ) → IsCut n run → list_all is_clean (chars run) ≡ true
    → (list_all is_clean (chars (take n run)) ≡ true) × (list_all is_clean (chars (drop n run)) ≡ true)
clean_rest n run cut clean = grind (arith, list_all-append is_clean (chars (take n run)) (chars (drop n run)), chars_cut n run cut)

-- what is left of a text, where all before it is clean
pub record IsLeft (text rest : List ℕ) : Type 0 where
  pub clean : IsCleanFront (length text - length rest) text
  pub left : rest ≡ drop (length text - length rest) text

pub all_left : (text : List ℕ) → IsUtf8 text → IsLeft text text
all_left text u = let none : length text - length text ≡ 0 = omega arith in record { clean = rw none (nothing_front text u); left = rw none refl }

pub past_front : (n : ℕ) (text rest next : List ℕ) → IsLeft text rest → IsCleanFront n rest → next ≡ drop n rest → IsLeft text next
past_front n text rest next here more is = let before : ℕ = length text - length rest in
    let long : before + n ≡ length text - length next = grind (arith, is, length-drop n rest, more.cut.within, here.left, length-drop before text) in
    record { clean = rw long at (clean_more before n text here.clean (rw here.left at more)); left = grind (arith, is, here.left, drop-drop, long) }

pub past_char : (text rest after : List ℕ) (c : ℕ) → IsLeft text rest → IsUtf8 rest → rest ≡ encode_utf8 c ++ after → is_clean c ≡ true → IsLeft text after
past_char text rest after c here u is clean = past_front (len_utf8 c) text rest after here (clean_first rest after c u is clean)
    (sym (ap (drop (len_utf8 c)) is ∙ drop_at (encode_utf8 c) after (len_utf8 c) (length-encode c)))

-- THE FRONTS OF CLEAN CHARACTERS

both_pass : (first second third : ℕ → Bool) → ((c : ℕ) → first c ≡ true → second c ≡ true → third c ≡ true) → (cs : List ℕ) → list_all first cs ≡ true
    → list_all second cs ≡ true → list_all third cs ≡ true
both_pass first second third joined [] f s = refl
both_pass first second third joined (c ∷ cs) f s = grind (arith, joined c, both_pass first second third joined cs)

-- a test that all bytes of characters outside ASCII pass
module _ (test : ℕ → Bool) (of_long : (byte : ℕ) → 128 ≤ byte → test byte ≡ true) where
  all_bytes : (c : ℕ) → test c ≡ true → list_all test (encode_utf8 c) ≡ true
  all_bytes c h = elim (cases_lt c 128) [ inl one ↦ rw (encode_ascii c one) (and_from _ _ h refl) | inr above ↦ long_bytes test of_long c _ above (bytes_of c) ]

  first_fails : (c : ℕ) → test c ≡ false → BeginsOutside test (encode_utf8 c)
  first_fails c h = elim (cases_lt c 128) [ inl one ↦ (c, [], encode_ascii c one, h) | inr above ↦ (let no : test c ≡ true = of_long c above in absurd cc) ]

  pub front_of_test : (bytes : List ℕ) → IsUtf8 bytes
      → IsCut (prefix_len test bytes) bytes × (list_all test (chars (take (prefix_len test bytes) bytes)) ≡ true)
  front_of_test bytes u = front test test all_bytes first_fails bytes u

module _ (run : List ℕ) (utf8 : IsUtf8 run) (clean : list_all is_clean (chars run) ≡ true) where
  pub text_front : IsCut (prefix_len is_text_byte run) run × (list_all is_plain_character (chars (take (prefix_len is_text_byte run) run)) ≡ true)
  text_front = let n : ℕ = prefix_len is_text_byte run in let (cut, text) = front_of_test is_text_byte (λ byte l. grind (arith, l, nat_tests)) run utf8 in
      (cut, both_pass is_clean is_text_byte is_plain_character plain_of_text (chars (take n run)) (clean_rest n run cut clean).0 text)
