-- Keys and the texts of characters, read from the left.
use Rattle.charref.proofs.Names.{arith, ◌≡◌, ℕ, ◌≤◌, List, [], ◌∷◌, ◌++◌, length, None, encode_utf8_all, refl, sym, append_assoc, Value, codepoints, encode_utf8, items_view}

-- a list of more than two
pub codepoints_none : (vs : List Value) → 3 ≤ length vs → None ≡ codepoints (items_view vs)
codepoints_none (v ∷ w ∷ x ∷ vs) h = refl
codepoints_none _ h = absurd (omega arith)

pub encode_utf8_all-append : (cs ds : List ℕ) → encode_utf8_all (cs ++ ds) ≡ encode_utf8_all cs ++ encode_utf8_all ds
encode_utf8_all-append [] ds = refl
encode_utf8_all-append (c ∷ cs) ds = rw (encode_utf8_all-append cs ds) (sym (append_assoc (encode_utf8 c) (encode_utf8_all cs) (encode_utf8_all ds)))
