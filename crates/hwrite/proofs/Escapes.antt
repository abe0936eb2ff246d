-- How bytes and characters are between quotes.
use Rattle.hwrite.proofs.Vocabulary.{◌≡◌, ◌≢◌, ℕ, ◌<◌, ◌≤◌, suc, List, [], ◌∷◌, ◌++◌, length, get_or, true, false, refl, sym, ap, arith, codes, append-nil, encode_utf8, list_all, digits, nat_tests, escaped_byte, quote_escaped, is_unescaped, ◌-◌, ◌^◌, padded_integral, format_spec, dec_lt, inside_one, encode_ascii, hex_byte}

-- the bytes that are not escaped
pub escaped_byte-plain : (b : ℕ) → 32 ≤ b → b ≢ 34 → b ≢ 92 → escaped_byte b ≡ b ∷ []
escaped_byte-plain b low not_quote not_backslash = grind (arith, nat_tests)

pub escaped-high : (text : List ℕ) → ((k : ℕ) → k < length text → 128 ≤ get_or text k 0) → quote_escaped text ≡ text
escaped-high [] high = refl
escaped-high (b ∷ bs) high = let here : 128 ≤ b = high 0 (omega arith) in
    let plain : escaped_byte b ≡ b ∷ [] = escaped_byte-plain b (omega arith) (omega arith) (omega arith) in
    let rest : quote_escaped bs ≡ bs = escaped-high bs (λ k h. high (suc k) (omega arith)) in
    rw (plain, rest)

-- no byte of a character above ASCII is escaped
byte-high : (c k : ℕ) → 128 ≤ c → k < length (encode_utf8 c) → 128 ≤ get_or (encode_utf8 c) k 0
byte-high c k wide inside =
    let is = λ (low : get_or (encode_utf8 c) k 0 < 128). inside_one c [] (encode_utf8 c) k (sym (append-nil (encode_utf8 c))) inside low in grind arith

-- a character that is not escaped
pub escaped-plain : (c : ℕ) → 32 ≤ c → c ≢ 34 → c ≢ 92 → quote_escaped (encode_utf8 c) ≡ encode_utf8 c
escaped-plain c low not_quote not_backslash = elim (dec_lt c 128) [
  | yes ascii ↦ rw (encode_ascii c ascii) (ap (λ xs. xs ++ []) (escaped_byte-plain c low not_quote not_backslash))
  | no wide ↦ escaped-high (encode_utf8 c) (λ k inside. byte-high c k (omega arith) inside)
]

-- a text in which nothing is escaped
pub escaped-unescaped : (text : List ℕ) → list_all is_unescaped text ≡ true → quote_escaped text ≡ text
escaped-unescaped [] h = refl
escaped-unescaped (b ∷ text) h = let here : is_unescaped b ≡ true = grind (arith, h) in let rest : list_all is_unescaped text ≡ true = grind (arith, h) in
    let plain : escaped_byte b ≡ b ∷ [] =
    escaped_byte-plain b (grind (arith, nat_tests, here)) (grind (arith, nat_tests, here)) (grind (arith, nat_tests, here)) in
    rw (plain, escaped-unescaped text rest) refl

-- a control character in two hex digits
pub escaped_byte-hex : (n : ℕ) → n < 32 → n ≢ 10
    → escaped_byte n ≡ codes "\\x" ++ padded_integral (format_spec 32 0 4 2 (2 ^ 64 - 1)) false [] (digits 16 false n)
escaped_byte-hex n low not_line_feed = let two = hex_byte false n (omega arith) in rw two (grind (arith, nat_tests))
