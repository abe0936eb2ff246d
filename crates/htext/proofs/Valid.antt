-- Laws of the valid front.
use Rattle.htext.proofs.Names.{cases_eq, ◌≡◌, ℕ, zero, suc, ◌<◌, ◌≤◌, ◌+◌, ◌-◌, Bool, true, false, cond, List, [], ◌∷◌, ◌++◌, length, take, drop, sym, refl, ap, ◌∙◌, subst, arith, inl, inr, append_assoc, Some, Option, nat_tests, and_parts, take_at, take-take, drop_at, length-append, length-take, length-take-le, take-append-drop, take-append-add, IsUtf8-nil, IsUtf8-append, IsUtf8-drop, utf8_valid_len_le, length-encode, len_utf8_bounds, IsUtf8-encode, scalars, IsUtf8, utf8_valid_len, IsScalar, encode_utf8, Refusal, Refuse, Keep, valid_len, refusal_with, refusal_of, BeginsNoCharacter, IsCharBoundary-from_take, IsUtf8-from_is_utf8, is_utf8-from_IsUtf8, is_utf8, valid_len_up_to, None, ◌⊎◌, is_in_range, utf8_error_len, utf8_invalid_len, second_byte_min, second_byte_max, some_same}
use Rattle.std.specs.Str.{encode_utf8_all}

-- the longest front that is UTF-8 and fits, and why the bytes are refused for what follows it, if they are
abbrev pub valid_front : ℕ → List ℕ → List ℕ
valid_front limit bytes = take (valid_len limit bytes) bytes

abbrev pub refusal_within : ℕ → List ℕ → Option Refusal
refusal_within limit bytes = refusal_of (record { bom = Keep; bad = Refuse; limit = limit }) bytes

-- what follows a text in a text is one
tail_utf8 : (xs zs : List ℕ) → IsUtf8 xs → IsUtf8 (xs ++ zs) → IsUtf8 zs
tail_utf8 xs zs u v = rw (drop_at xs zs (length xs) refl) at (IsUtf8-drop (xs ++ zs) (length xs) v
    (IsCharBoundary-from_take (xs ++ zs) (length xs) v (omega (arith, length-append xs zs)) (rw (take_at xs zs (length xs) refl) u)))

-- the front of `k` bytes is UTF-8, and nothing longer of up to `n` bytes is
record IsLongest (bs : List ℕ) (n k : ℕ) : Type 0 where
  front : IsUtf8 (take k bs)
  longest : (m : ℕ) → k < m → m ≤ n → IsUtf8 (take m bs) → ⊥

step_longest : (b : Bool) (bs : List ℕ) (k n : ℕ) → is_utf8 (take (suc n) bs) ≡ b → IsLongest bs n k → IsLongest bs (suc n) (cond b (suc n) k)
step_longest true bs k n e h = record { front = IsUtf8-from_is_utf8 _ e; longest = λ m less within u. omega (arith, less, within) }
step_longest false bs k n e h = record {
  front = h.front;
  longest = λ m less within u. elim (cases_eq m (suc n))
      [ inl same ↦ let valid = is_utf8-from_IsUtf8 _ (rw same at u) in absurd cc | inr other ↦ h.longest m less (omega arith) u ];
}

up_to_longest : (bs : List ℕ) (n : ℕ) → IsLongest bs n (valid_len_up_to bs n)
up_to_longest bs zero = record { front = IsUtf8-nil; longest = λ m less within u. omega (arith, less, within) }
up_to_longest bs (suc n) = step_longest (is_utf8 (take (suc n) bs)) bs (valid_len_up_to bs n) n refl (up_to_longest bs n)

front_longest : (bs : List ℕ) → IsLongest bs (length bs) (utf8_valid_len bs)
unfolding utf8_valid_len
front_longest bs = up_to_longest bs (length bs)

-- the longest front that is UTF-8 is so
pub front_utf8 : (bs : List ℕ) → IsUtf8 (take (utf8_valid_len bs) bs)
front_utf8 bs = (front_longest bs).front

-- the valid length by what it says
valid_len_is : (bs : List ℕ) (n : ℕ) → n ≤ length bs → IsLongest bs (length bs) n → utf8_valid_len bs ≡ n
valid_len_is bs n within h = grind (arith, (front_longest bs).longest n, h.longest (utf8_valid_len bs), utf8_valid_len_le bs, front_utf8 bs, h.front)

-- after a text the valid front goes on
pub utf8_valid_len-append : (xs ys : List ℕ) → IsUtf8 xs → utf8_valid_len (xs ++ ys) ≡ length xs + utf8_valid_len ys
utf8_valid_len-append xs ys u = valid_len_is (xs ++ ys) (length xs + utf8_valid_len ys) (omega (arith, length-append xs ys, utf8_valid_len_le ys)) (record {
  front = rw (take-append-add xs ys (utf8_valid_len ys)) (IsUtf8-append _ _ u (front_utf8 ys));
  longest = λ m less within v.
      let k : m ≡ length xs + (m - length xs) = omega arith in
      let w : IsUtf8 (xs ++ take (m - length xs) ys) = subst IsUtf8 (ap (λ (x : ℕ). take x (xs ++ ys)) k ∙ take-append-add xs ys (m - length xs)) v in
      (front_longest ys).longest (m - length xs) (omega arith) (omega (arith, length-append xs ys)) (tail_utf8 xs _ u w);
})

pub valid_len-append : (limit : ℕ) (xs ys : List ℕ) → IsUtf8 xs → length xs ≤ limit → valid_len limit (xs ++ ys) ≡ length xs + valid_len (limit - length xs) ys
valid_len-append limit xs ys u within = grind (arith, take-append-add xs ys (limit - length xs), utf8_valid_len-append xs (take (limit - length xs) ys) u)

pub valid_len_le : (limit : ℕ) (bs : List ℕ) → (valid_len limit bs ≤ limit) × (valid_len limit bs ≤ length bs)
valid_len_le limit bs = grind (arith, utf8_valid_len_le (take limit bs), length-take limit bs)

pub valid_front_utf8 : (limit : ℕ) (bs : List ℕ) → IsUtf8 (valid_front limit bs)
valid_front_utf8 limit bs = subst IsUtf8 (take-take (valid_len limit bs) limit bs (valid_len_le limit bs).0) (front_utf8 (take limit bs))

pub length-valid_front : (limit : ℕ) (bs : List ℕ) → length (valid_front limit bs) ≡ valid_len limit bs
length-valid_front limit bs = length-take-le (valid_len limit bs) bs (valid_len_le limit bs).1

-- a character that begins bytes is in their valid front, and nothing else begins one
pub starts : (bs : List ℕ) → 0 < utf8_valid_len bs → (c : ℕ) × (more : List ℕ) × IsScalar c × (bs ≡ encode_utf8 c ++ more)
starts bs h = by (front_utf8 bs).0 (front_utf8 bs).1.0 (front_utf8 bs).1.1 where
  n : ℕ
  n = utf8_valid_len bs

  by : (cs : List ℕ) → scalars cs ≡ true → encode_utf8_all cs ≡ take n bs → (c : ℕ) × (more : List ℕ) × IsScalar c × (bs ≡ encode_utf8 c ++ more)
  by [] s e = absurd (omega (arith, h, ap length e, length-take-le n bs (utf8_valid_len_le bs)))
  by (c ∷ cs) s e = (
    c,
    encode_utf8_all cs ++ drop n bs,
    (and_parts _ _ s).0,
    sym (take-append-drop n bs) ∙ ap (λ (x : List ℕ). x ++ drop n bs) (sym e) ∙ append_assoc (encode_utf8 c) (encode_utf8_all cs) (drop n bs),
  )

pub starts_back : (bs more : List ℕ) (c : ℕ) → IsScalar c → bs ≡ encode_utf8 c ++ more → 0 < utf8_valid_len bs
starts_back bs more c s e = omega
    (arith, ap utf8_valid_len e, utf8_valid_len-append (encode_utf8 c) more (IsUtf8-encode c s), length-encode c, (len_utf8_bounds c).0)

-- where no character is at the front, nothing there is valid
pub none_valid : (bs : List ℕ) → BeginsNoCharacter bs → utf8_valid_len bs ≡ 0
none_valid bs none = grind (arith, starts bs, none)

-- what begins with a character does so whatever comes after
pub going_on : (rest more : List ℕ) → 0 < utf8_valid_len rest → 0 < utf8_valid_len (rest ++ more)
going_on rest more h = let (c, r, s, e) = starts rest h in starts_back (rest ++ more) (r ++ more) c s (grind (arith, append_assoc))

-- where the valid front ends before the bytes do
pub refusal_past : (limit : ℕ) (front rest : List ℕ) → IsUtf8 front → length front ≤ limit → valid_len (limit - length front) rest ≡ 0 → 0 < length rest
    → refusal_within limit (front ++ rest) ≡ Some (refusal_with Refuse (utf8_valid_len rest) (length front))
refusal_past limit front rest u within stuck some = grind
    (arith, nat_tests, valid_len-append limit front rest u within, length-append front rest, utf8_valid_len-append front rest u)

-- How long a bad part is, whatever follows it.

-- the length of a bad part by a test of each byte: where one fails after `n` bytes, or they all pass and one more byte comes
abbrev pub tested : List (ℕ → Bool) → ℕ → List ℕ → Option ℕ
tested ts n [] = None
tested [] n (b ∷ bs) = Some n
tested (t ∷ ts) n (b ∷ bs) = cond (t b) (tested ts (suc n) bs) (Some n)

-- what the bytes after the first one are tested for
abbrev pub next_tests : ℕ → List (ℕ → Bool)
next_tests x = is_in_range (second_byte_min x) (second_byte_max x) ∷ is_in_range 0x80 0xBF ∷ []

abbrev pub by_bytes : List ℕ → Option ℕ
by_bytes [] = None
by_bytes (x ∷ xs) = cond (is_in_range 0xC2 0xF4 x) (tested (next_tests x) 1 xs) (Some 1)

pub is_by_bytes : (bs : List ℕ) → utf8_error_len bs ≡ by_bytes bs
unfolding utf8_error_len
is_by_bytes [] = refl
is_by_bytes (x ∷ []) = refl
is_by_bytes (x ∷ y ∷ []) = refl
is_by_bytes (x ∷ y ∷ z ∷ []) = refl
is_by_bytes (x ∷ y ∷ z ∷ w ∷ ws) = grind (arith, nat_tests)

pub test_passed : (b : Bool) (o : Option ℕ) (n : ℕ) → cond b o (Some n) ≡ None → (b ≡ true) × (o ≡ None)
test_passed true o n h = (refl, h)
test_passed false o n h = absurd cc

-- the least and the greatest length
tested_is : (ts : List (ℕ → Bool)) (n : ℕ) (bs : List ℕ) (m : ℕ) → tested ts n bs ≡ Some m → (n ≤ m) × (m < n + length bs)
tested_is ts n [] m h = absurd cc
tested_is [] n (b ∷ bs) m h = let e = some_same n m h in (omega arith, omega arith)
tested_is (t ∷ ts) n (b ∷ bs) m h = (grind (arith, nat_tests, tested_is ts (suc n) bs m), grind (arith, nat_tests, tested_is ts (suc n) bs m))

-- more bytes change nothing
tested_more : (ts : List (ℕ → Bool)) (n : ℕ) (bs more : List ℕ) (m : ℕ) → tested ts n bs ≡ Some m → tested ts n (bs ++ more) ≡ Some m
tested_more ts n [] more m h = absurd cc
tested_more [] n (b ∷ bs) more m h = h
tested_more (t ∷ ts) n (b ∷ bs) more m h = grind (arith, tested_more ts (suc n) bs more m)

-- a bad part that begins with open bytes has them all
tested_open : (ts : List (ℕ → Bool)) (n : ℕ) (bs more : List ℕ) (m : ℕ) → tested ts n bs ≡ None → tested ts n (bs ++ more) ≡ Some m → n + length bs ≤ m
tested_open ts n [] more m h g = omega (arith, (tested_is ts n more m g).0)
tested_open [] n (b ∷ bs) more m h g = absurd cc
tested_open (t ∷ ts) n (b ∷ bs) more m h g = grind (arith, tested_open ts (suc n) bs more m)

-- open bytes are no more than the tests
pub tested_short : (ts : List (ℕ → Bool)) (n : ℕ) (bs : List ℕ) → tested ts n bs ≡ None → length bs ≤ length ts
tested_short ts n [] h = omega arith
tested_short [] n (b ∷ bs) h = absurd cc
tested_short (t ∷ ts) n (b ∷ bs) h = grind (arith, tested_short ts (suc n) bs)

-- THE SAME OF THE LENGTH ITSELF

-- a bad part of more than one byte is told by the byte after it
pub error_short : (bs : List ℕ) (m : ℕ) → utf8_error_len bs ≡ Some m → (m ≡ 1) ⊎ (m < length bs)
error_short [] m h = let none = is_by_bytes [] in absurd cc
error_short (x ∷ xs) m h = elim (cases_eq m 1) [ inl one ↦ inl one | inr more ↦ inr (grind (arith, is_by_bytes (x ∷ xs), tested_is (next_tests x) 1 xs m)) ]

pub error_bounds : (bs : List ℕ) (m : ℕ) → utf8_error_len bs ≡ Some m → (1 ≤ m) × (m ≤ length bs)
error_bounds [] m h = let none = is_by_bytes [] in absurd cc
error_bounds (x ∷ xs) m h = grind (arith, is_by_bytes (x ∷ xs), tested_is (next_tests x) 1 xs m)

-- a byte that is a bad part by itself: it begins no character, or the next one can't follow it
pub error_first : (x : ℕ) (xs : List ℕ) → is_in_range 0xC2 0xF4 x ≡ false → utf8_error_len (x ∷ xs) ≡ Some 1
error_first x xs h = is_by_bytes (x ∷ xs) ∙ rw h refl

pub error_second : (x y : ℕ) (ys : List ℕ) → is_in_range (second_byte_min x) (second_byte_max x) y ≡ false → utf8_error_len (x ∷ y ∷ ys) ≡ Some 1
error_second x y ys h = is_by_bytes (x ∷ y ∷ ys) ∙ grind (arith, nat_tests)

pub error_follows : (x y : ℕ) (ys : List ℕ) (m : ℕ) → is_in_range 0xC2 0xF4 x ≡ true → is_in_range (second_byte_min x) (second_byte_max x) y ≡ true
    → utf8_error_len (x ∷ y ∷ ys) ≡ Some m → 2 ≤ m
error_follows x y ys m first second h = (tested_is _ 2 ys m (rw (first, second) at (sym (is_by_bytes (x ∷ y ∷ ys)) ∙ h))).0

pub error_more : (bs more : List ℕ) (m : ℕ) → utf8_error_len bs ≡ Some m → utf8_error_len (bs ++ more) ≡ Some m
error_more [] more m h = let none = is_by_bytes [] in absurd cc
error_more (x ∷ xs) more m h = grind (arith, is_by_bytes (x ∷ xs), is_by_bytes (x ∷ xs ++ more), tested_more (next_tests x) 1 xs more m)

pub error_open : (bs more : List ℕ) (m : ℕ) → utf8_error_len bs ≡ None → utf8_error_len (bs ++ more) ≡ Some m → length bs ≤ m
error_open [] more m h g = omega arith
error_open (x ∷ xs) more m h g = grind (arith, is_by_bytes (x ∷ xs), is_by_bytes (x ∷ xs ++ more), tested_open (next_tests x) 1 xs more m)

-- where the bytes end within or right after the part, or later
pub error_cut : (bs more : List ℕ) (m : ℕ) → utf8_error_len (bs ++ more) ≡ Some m → m ≤ length bs → utf8_invalid_len bs ≡ m
error_cut bs more m h within = grind (arith, error_open bs more m, error_more bs more)

pub invalid_bounds : (bs : List ℕ) → 0 < length bs → (1 ≤ utf8_invalid_len bs) × (utf8_invalid_len bs ≤ length bs)
invalid_bounds bs some = (grind (arith, error_bounds bs), grind (arith, error_bounds bs))
