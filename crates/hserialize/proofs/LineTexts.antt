-- Lines that are put together of parts.
use Rattle.hserialize.proofs.Names.{◌≡◌, ℕ, suc, ◌+◌, ◌-◌, ◌<◌, ◌≤◌, List, ◌∷◌, ◌++◌, length, drop, get_or, map, sym, ap, ◌∙◌, arith, append_assoc, flat_map, repeat, codes, Attribute, attribute_line, indented, pair_of, drop-cons, add-one, Bor, between_quotes}

pub no_level : (depth level : ℕ) (after : List ℕ) → depth ≤ level → repeat (depth - level) (codes "  ") ++ after ≡ after
no_level depth level after h = let none : depth - level ≡ 0 = omega arith in ap (λ n. repeat n (codes "  ") ++ after) none

pub one_level : (depth level : ℕ) (after : List ℕ) → level < depth
    → repeat (depth - level) (codes "  ") ++ after ≡ codes "  " ++ (repeat (depth - (level + 1)) (codes "  ") ++ after)
one_level depth level after h = let one : depth - level ≡ suc (depth - (level + 1)) = omega arith in ap (λ n. repeat n (codes "  ") ++ after) one

pub attribute_parts : (depth : ℕ) (name value : List ℕ) → indented depth (name ++ (codes "=\"" ++ (value ++ codes "\""))) ≡ attribute_line depth (name, value)
attribute_parts depth name value = ap (indented depth) (sym (append_assoc name (codes "=") (between_quotes value)))

-- the line of an attribute, of its parts as they are lent, and the lines of the attributes after it
pub next_attribute : (depth : ℕ) (xs : List (Bor (List ℕ) × ℕ × Bor (List ℕ))) (i : ℕ) (d : Bor (List ℕ) × ℕ × Bor (List ℕ)) (name value : List ℕ)
    → i < length xs → name ≡ (get_or xs i d).0.now → value ≡ (get_or xs i d).2.now → flat_map (attribute_line depth) (map pair_of (drop i xs))
    ≡ indented depth (name ++ (codes "=\"" ++ (value ++ codes "\""))) ++ flat_map (attribute_line depth) (map pair_of (drop (i + 1) xs))
next_attribute depth xs i d name value h n v = ap (λ l. flat_map (attribute_line depth) (map pair_of l))
    (drop-cons xs i d h ∙ (λ k. get_or xs i d ∷ drop (sym (add-one i) k) xs)) ∙ ap (λ t. t ++ flat_map (attribute_line depth) (map pair_of (drop (i + 1) xs)))
    (sym ((λ k. indented depth (n k ++ (codes "=\"" ++ (v k ++ codes "\"")))) ∙ attribute_parts depth (get_or xs i d).0.now (get_or xs i d).2.now))

-- the line of an element, and those of its attributes
pub element_parts : (depth : ℕ) (name lent : List ℕ) (attrs sorted : List (Attribute (List ℕ))) → lent ≡ name → sorted ≡ attrs
    → indented depth (codes "<" ++ name ++ codes ">") ++ flat_map (attribute_line (suc depth)) attrs
    ≡ indented depth (codes "<" ++ (lent ++ codes ">")) ++ flat_map (attribute_line (depth + 1)) sorted
element_parts depth name lent attrs sorted same order =
    λ i. indented depth (codes "<" ++ (sym same i ++ codes ">")) ++ flat_map (attribute_line (sym (add-one depth) i)) (sym order i)
