-- Fronts of bytes that end where a character or a bad part ends.
use Rattle.htext.proofs.Names.{drop_at, take-add, ◌≡◌, ℕ, zero, suc, ◌<◌, ◌≤◌, ◌+◌, ◌-◌, Bool, true, false, cond, List, [], ◌∷◌, ◌++◌, length, take, drop, sym, refl, ap, ◌∙◌, subst, arith, append_assoc, append-nil, Option, None, Some, nat_le, nat_lt, nat_tests, le-leb, length-append, length-drop, length-take-le, take-append-drop, drop-drop, drop-append-add, IsUtf8-append, IsUtf8, utf8_valid_len, utf8_error_len, BadBytes, Refuse, Replace, Bad, valid_len, or_rest, bad_len, after_part, fitting_within, fitting, front_len, reads_at}
use Rattle.htext.proofs.Valid.{valid_len_le, valid_len-append, valid_front_utf8, going_on, error_bounds, error_more, error_cut}
use Rattle.htext.proofs.Beginnings.{none_after, under_limit}
use Rattle.htext.proofs.Parts.{reads_nil, reads_after_text, reads_after_bad}

-- The front is characters and bad parts that are settled, where `rest` follows it.
pub data Parts : List ℕ → List ℕ → Type 0 where
  no_part : (rest : List ℕ) → Parts [] rest
  after_text : (xs ys rest : List ℕ) → IsUtf8 xs → Parts ys rest → Parts (xs ++ ys) rest
  after_bad : (part ys rest : List ℕ) → utf8_valid_len (part ++ (ys ++ rest)) ≡ 0 → utf8_error_len (part ++ (ys ++ rest)) ≡ Some (length part) → Parts ys rest
      → Parts (part ++ ys) rest

pub of_text : (xs rest : List ℕ) → IsUtf8 xs → Parts xs rest
of_text xs rest u = subst (λ (x : List ℕ). Parts x rest) (append-nil xs) (after_text xs [] rest u (no_part rest))

-- one front after another
then_front : (xs ys rest zs : List ℕ) → zs ≡ ys ++ rest → Parts xs zs → Parts ys rest → Parts (xs ++ ys) rest
then_front _ ys rest zs is (no_part r) p = p
then_front _ ys rest zs is (after_text a b r u q) p = rw (append_assoc a b ys) (after_text a (b ++ ys) rest u (then_front b ys rest zs is q p))
then_front _ ys rest zs is (after_bad part b r none bad q) p = rw (append_assoc part b ys) (after_bad part (b ++ ys) rest
    (rw (append_assoc b ys rest, ← is) none) (rw (append_assoc b ys rest, ← is) bad) (then_front b ys rest zs is q p))

pub Parts-append : (xs ys rest : List ℕ) → Parts xs (ys ++ rest) → Parts ys rest → Parts (xs ++ ys) rest
Parts-append xs ys rest q p = then_front xs ys rest (ys ++ rest) refl q p

-- more bytes change nothing
pub Parts-more : (front rest more : List ℕ) → Parts front rest → Parts front (rest ++ more)
Parts-more _ rest more (no_part r) = no_part (rest ++ more)
Parts-more _ rest more (after_text a b r u q) = after_text a b (rest ++ more) u (Parts-more b rest more q)
Parts-more _ rest more (after_bad part b r none bad q) = let f = none_after (part ++ (b ++ rest)) more (length part) none bad in
    let e = error_more (part ++ (b ++ rest)) more (length part) bad in
    after_bad part b (rest ++ more) (simp append_assoc at f) (simp append_assoc at e) (Parts-more b rest more q)

-- how much is read after a front, and what
pub cut_none : (xs ys : List ℕ) → utf8_valid_len (xs ++ ys) ≡ 0 → utf8_valid_len xs ≡ 0
cut_none xs ys none = grind (arith, going_on xs ys)

reads_after_part : (at : ℕ) (part ys rest : List ℕ) → utf8_valid_len (part ++ (ys ++ rest)) ≡ 0 → utf8_error_len (part ++ (ys ++ rest)) ≡ Some (length part)
    → (n : ℕ) → reads_at at (part ++ (ys ++ take n rest)) ≡ Bad at ∷ reads_at (at + length part) (ys ++ take n rest)
reads_after_part at part ys rest none bad n = let cut : List ℕ = part ++ (ys ++ take n rest) in
    let whole : cut ++ drop n rest ≡ part ++ (ys ++ rest) = grind (arith, append_assoc, take-append-drop n rest) in
    reads_after_bad at part (ys ++ take n rest) (cut_none cut (drop n rest) (rw whole none))
    (error_cut cut (drop n rest) (length part) (rw whole bad) (omega (arith, length-append part (ys ++ take n rest))))
    (omega (arith, error_bounds (part ++ (ys ++ rest)) (length part) bad))

reads_after : (at : ℕ) (front rest : List ℕ) (n : ℕ) → Parts front rest
    → reads_at at (front ++ take n rest) ≡ reads_at at front ++ reads_at (at + length front) (take n rest)
reads_after at _ rest n (no_part r) = grind (arith, reads_nil at)
reads_after at _ rest n (after_text a b r u q) = grind (arith, append_assoc, reads_after_text, reads_after (at + length a) b rest n q, length-append a b)
reads_after at _ rest n (after_bad part b r none bad q) = let here = reads_after_part at part b rest none bad in
    grind (arith, append_assoc, append-nil, here n, here 0, reads_after (at + length part) b rest n q, length-append part b)

-- HOW MUCH IS READ

pub bad_bounds : (e : Bool) (rest : List ℕ) (m : ℕ) → bad_len e rest ≡ Some m → (1 ≤ m) × (m ≤ length rest)
bad_bounds e rest m h = (grind (arith, nat_tests, error_bounds rest), grind (arith, nat_tests, error_bounds rest))

zero_plus : (n : ℕ) → 0 + n ≡ n
zero_plus n = omega arith

same_after : (o : Option ℕ) (room : ℕ) (f g : ℕ → ℕ) → ((m : ℕ) → o ≡ Some m → f m ≡ g m) → after_part o room f ≡ after_part o room g
same_after None room f g h = refl
same_after (Some m) room f g h = ap (λ (x : ℕ). cond (nat_le m room) (m + x) 0) (h m refl)

-- what fits after the first `n` bytes, which are characters
abbrev pub fit_after : Bool → ℕ → ℕ → List ℕ → ℕ → ℕ
fit_after e k room bytes n = after_part (bad_len e (drop n bytes)) (room - n) (λ m. fitting_within e k (room - (n + m)) (drop (n + m) bytes))

same_fit : (e : Bool) (k l room : ℕ) (bytes : List ℕ)
    → ((r : ℕ) (rest : List ℕ) → length rest < length bytes → fitting_within e k r rest ≡ fitting_within e l r rest)
    → fitting_within e (suc k) room bytes ≡ fitting_within e (suc l) room bytes
unfolding fitting_within
same_fit e k l room bytes same = let n : ℕ = valid_len room bytes in
    ap (λ (x : ℕ). n + x) (same_after (bad_len e (drop n bytes)) (room - n) _ _ (λ m h. same (room - (n + m)) (drop (n + m) bytes)
    (omega (arith, bad_bounds e (drop n bytes) m h, length-drop n bytes, length-drop (n + m) bytes, valid_len_le room bytes))))

fit_fuel : (e : Bool) (k l room : ℕ) (bytes : List ℕ) → length bytes ≤ k → length bytes ≤ l
    → fitting_within e (suc k) room bytes ≡ fitting_within e (suc l) room bytes
fit_fuel e zero l room bytes a b = same_fit e zero l room bytes (λ r rest less. absurd (omega (arith, less)))
fit_fuel e (suc k) zero room bytes a b = same_fit e (suc k) zero room bytes (λ r rest less. absurd (omega (arith, less)))
fit_fuel e (suc k) (suc l) room bytes a b =
    same_fit e (suc k) (suc l) room bytes (λ r rest less. fit_fuel e k l r rest (omega (arith, less)) (omega (arith, less)))

fit_text : (e : Bool) (k room : ℕ) (xs ys : List ℕ) → IsUtf8 xs → length xs ≤ room
    → fitting_within e (suc k) room (xs ++ ys) ≡ length xs + fitting_within e (suc k) (room - length xs) ys
unfolding fitting_within
fit_text e k room xs ys u within = let n : ℕ = valid_len (room - length xs) ys in grind
    (arith, nat_tests, valid_len-append room xs ys u within, drop-append-add xs ys, same_after (bad_len e (drop n ys)) (room - length xs - n))

fit_bad : (e : Bool) (k room : ℕ) (part ys : List ℕ) → utf8_valid_len (part ++ ys) ≡ 0 → bad_len e (part ++ ys) ≡ Some (length part) → length part ≤ room
    → fitting_within e (suc k) room (part ++ ys) ≡ length part + fitting_within e k (room - length part) ys
unfolding fitting_within
fit_bad e k room part ys none bad within =
    rw (under_limit room (part ++ ys) none, bad, le-leb (length part) (room - 0) (omega arith), zero_plus (length part), drop_at part ys (length part) refl)
    (zero_plus _)

-- what is read of bytes that begin with a front, in whole parts
pub settled_bad : (e : Bool) (rest : List ℕ) (m : ℕ) → utf8_valid_len rest ≡ 0 → utf8_error_len rest ≡ Some m → bad_len e rest ≡ Some m
settled_bad e rest m none bad = ap (λ (n : ℕ). cond (nat_lt 0 n) None (or_rest e rest (utf8_error_len rest))) none ∙ ap (or_rest e rest) bad

fit_past : (e : Bool) (room : ℕ) (front rest : List ℕ) → Parts front rest → length front ≤ room
    → fitting e room (front ++ rest) ≡ length front + fitting e (room - length front) rest
fit_past e room _ rest (no_part r) within = grind arith
fit_past e room _ rest (after_text a b r u q) within = let k : ℕ = length (a ++ (b ++ rest)) in let left = room - length a in
    let first = fit_text e k room a (b ++ rest) u in let fuel = fit_fuel e k (length (b ++ rest)) left (b ++ rest) in
    grind (arith, append_assoc a b rest, first, length-append, fit_past e left b rest q, fuel)
fit_past e room _ rest (after_bad part b r none bad q) within = let k : ℕ = length (part ++ (b ++ rest)) - 1 in
    let left = room - length part in let fuel = fit_fuel e k (length (b ++ rest)) left (b ++ rest) in
    let first = fit_bad e (length (part ++ (b ++ rest))) room part (b ++ rest) none (settled_bad e (part ++ (b ++ rest)) (length part) none bad) in
    grind (arith, append_assoc part b rest, first, length-append, fit_past e left b rest q, fuel, error_bounds (part ++ (b ++ rest)) (length part) bad)

-- the front that is read is such a one
text_then : (n m : ℕ) (bytes : List ℕ) → n ≤ length bytes → IsUtf8 (take n bytes) → Parts (take m (drop n bytes)) (drop m (drop n bytes))
    → Parts (take (n + m) bytes) (drop (n + m) bytes)
text_then n m bytes within u p =
    rw (take-add n m bytes, sym (drop-drop m n bytes)) (after_text (take n bytes) (take m (drop n bytes)) (drop m (drop n bytes)) u p)

bad_then : (n m : ℕ) (bytes : List ℕ) → utf8_valid_len bytes ≡ 0 → utf8_error_len bytes ≡ Some n → Parts (take m (drop n bytes)) (drop m (drop n bytes))
    → Parts (take (n + m) bytes) (drop (n + m) bytes)
bad_then n m bytes none bad p = let part = take n bytes in let left = take m (drop n bytes) in let after = drop m (drop n bytes) in
    let whole : part ++ (left ++ after) ≡ bytes = grind (arith, take-append-drop) in let len = length-take-le n bytes (error_bounds bytes n bad).1 in
    rw (take-add n m bytes, sym (drop-drop m n bytes)) (after_bad part left after (rw whole none) (rw (whole, len) bad) p)

parts_after : (b : Bool) (m room : ℕ) (f : ℕ → ℕ) (bytes : List ℕ) → utf8_valid_len bytes ≡ 0 → utf8_error_len bytes ≡ Some m
    → Parts (take (f m) (drop m bytes)) (drop (f m) (drop m bytes)) → Parts (take (cond b (m + f m) 0) bytes) (drop (cond b (m + f m) 0) bytes)
parts_after true m room f bytes none bad p = bad_then m (f m) bytes none bad p
parts_after false m room f bytes none bad p = no_part bytes

pub undecided_bad : (rest : List ℕ) (n : ℕ) → bad_len false rest ≡ Some n → (utf8_valid_len rest ≡ 0) × (utf8_error_len rest ≡ Some n)
undecided_bad rest n h = (grind (arith, nat_tests), grind (arith, nat_tests))

parts_by : (o : Option ℕ) (room : ℕ) (f : ℕ → ℕ) (bytes : List ℕ) → bad_len false bytes ≡ o
    → ((m : ℕ) → Parts (take (f m) (drop m bytes)) (drop (f m) (drop m bytes))) → Parts (take (after_part o room f) bytes) (drop (after_part o room f) bytes)
parts_by None room f bytes e p = no_part bytes
parts_by (Some m) room f bytes e p = let bad = undecided_bad bytes m e in parts_after (nat_le m room) m room f bytes bad.0 bad.1 (p m)

parts_of_fitting : (k room : ℕ) (bytes : List ℕ) → Parts (take (fitting_within false k room bytes) bytes) (drop (fitting_within false k room bytes) bytes)
unfolding fitting_within
parts_of_fitting zero room bytes = no_part bytes
parts_of_fitting (suc k) room bytes = let n : ℕ = valid_len room bytes in let f : ℕ → ℕ = λ m. fitting_within false k (room - (n + m)) (drop (n + m) bytes) in
    text_then n (after_part (bad_len false (drop n bytes)) (room - n) f) bytes (valid_len_le room bytes).1 (valid_front_utf8 room bytes)
    (parts_by _ (room - n) f (drop n bytes) refl (λ m. rw (drop-drop m n bytes) (parts_of_fitting k (room - (n + m)) (drop (n + m) bytes))))

-- BOTH WAYS OF READING

-- the front is UTF-8, or whole parts
abbrev pub IsFront : BadBytes → List ℕ → List ℕ → Type 0
IsFront Refuse front rest = IsUtf8 front
IsFront Replace front rest = Parts front rest

parts_of_front : (bad : BadBytes) (front rest : List ℕ) → IsFront bad front rest → Parts front rest
parts_of_front Refuse front rest h = of_text front rest h
parts_of_front Replace front rest h = h

pub front_more : (bad : BadBytes) (front rest more : List ℕ) → IsFront bad front rest → IsFront bad front (rest ++ more)
front_more Refuse front rest more h = h
front_more Replace front rest more h = Parts-more front rest more h

-- a text after a front, and a bad part
pub text_more : (bad : BadBytes) (front xs rest : List ℕ) → IsFront bad front (xs ++ rest) → IsUtf8 xs → IsFront bad (front ++ xs) rest
text_more Refuse front xs rest h u = IsUtf8-append front xs h u
text_more Replace front xs rest h u = Parts-append front xs rest h (of_text xs rest u)

pub part_more : (bad : BadBytes) (front part rest : List ℕ) → bad ≡ Replace → IsFront bad front (part ++ rest) → utf8_valid_len (part ++ rest) ≡ 0
    → utf8_error_len (part ++ rest) ≡ Some (length part) → IsFront bad (front ++ part) rest
part_more Refuse front part rest how h none bad = absurd cc
part_more Replace front part rest how h none bad =
    Parts-append front part rest h (subst (λ (x : List ℕ). Parts x rest) (append-nil part) (after_bad part [] rest none bad (no_part rest)))

pub front_is : (bad : BadBytes) (limit : ℕ) (bytes : List ℕ)
    → IsFront bad (take (front_len false bad limit bytes) bytes) (drop (front_len false bad limit bytes) bytes)
front_is Refuse limit bytes = valid_front_utf8 limit bytes
front_is Replace limit bytes = parts_of_fitting (suc (length bytes)) limit bytes

pub front_past : (e : Bool) (bad : BadBytes) (limit : ℕ) (front rest : List ℕ) → IsFront bad front rest → length front ≤ limit
    → front_len e bad limit (front ++ rest) ≡ length front + front_len e bad (limit - length front) rest
front_past e Refuse limit front rest h within = valid_len-append limit front rest h within
front_past e Replace limit front rest h within = fit_past e limit front rest h within

pub reads_past : (bad : BadBytes) (front rest : List ℕ) (n : ℕ) → IsFront bad front rest
    → reads_at 0 (front ++ take n rest) ≡ reads_at 0 front ++ reads_at (length front) (take n rest)
reads_past bad front rest n h = grind (arith, reads_after 0 front rest n (parts_of_front bad front rest h))

-- it fits, and is one of the bytes
after_le : (o : Option ℕ) (room len : ℕ) (f : ℕ → ℕ) → ((m : ℕ) → o ≡ Some m → (m ≤ room → f m ≤ room - m) × (m + f m ≤ len))
    → (after_part o room f ≤ room) × (after_part o room f ≤ len)
after_le None room len f h = (omega arith, omega arith)
after_le (Some m) room len f h = let k = h m refl in (grind (arith, nat_tests, k.0), grind (arith, nat_tests, k.1))

pub fit_le : (e : Bool) (k room : ℕ) (bytes : List ℕ) → (fitting_within e k room bytes ≤ room) × (fitting_within e k room bytes ≤ length bytes)
unfolding fitting_within
fit_le e zero room bytes = (omega arith, omega arith)
fit_le e (suc k) room bytes = let n : ℕ = valid_len room bytes in let a = after_le (bad_len e (drop n bytes)) (room - n) (length bytes - n)
    (λ m. fitting_within e k (room - (n + m)) (drop (n + m) bytes)) (λ m h. let more = fit_le e k (room - (n + m)) (drop (n + m) bytes) in
    grind (arith, more.0, more.1, bad_bounds e (drop n bytes) m h, length-drop n bytes, length-drop (n + m) bytes)) in
    grind (arith, valid_len_le room bytes, a)

pub front_le : (e : Bool) (bad : BadBytes) (limit : ℕ) (bytes : List ℕ) → (front_len e bad limit bytes ≤ limit) × (front_len e bad limit bytes ≤ length bytes)
front_le e Refuse limit bytes = valid_len_le limit bytes
front_le e Replace limit bytes = fit_le e (suc (length bytes)) limit bytes
