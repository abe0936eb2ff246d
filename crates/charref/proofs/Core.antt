-- One key and its characters, looked up.
use Rattle.charref.proofs.Names.{◌≡◌, ℕ, zero, suc, false, true≢false, bytes_eq, List, [], ◌∷◌, map, length, slice_get, Some, refl, sym, ap, ◌∙◌, bytes_eq-Decides, slice_get_within, get_or_from_slice_get, slice_get-get_or, some_same, Entry, Entities, IsTable, longest, core, IsReadable, Contains}
use Rattle.std.specs.List.Sorted.{IsStrictlySortedBy}
use Rattle.std.specs.List.{IsDistinct}
use Rattle.charref.proofs.Keys.{below_each, whole, longest-whole}
-- under the name by which the crate above cites it
pub use Rattle.charref.proofs.Keys.{longest_among}
use Rattle.charref.proofs.Members.{readable_from}

-- a key is once in a table
same_key : (a b : List ℕ) → a ≡ b → bytes_eq a b ≡ false → ⊥
same_key a b is other = true≢false (sym ((bytes_eq-Decides a b).1 is) ∙ other)

pub once : (table : Entities) → IsDistinct bytes_eq (map (λ e. e.key) table) → (j k : ℕ) (e f : Entry) → slice_get table j ≡ Some e → slice_get table k ≡ Some f
    → e.key ≡ f.key → j ≡ k
unfolding IsDistinct
once [] distinct j k e f p q is = absurd (cc)
once (x ∷ xs) distinct zero zero e f p q is = refl
once (x ∷ xs) distinct zero (suc k) e f p q is = absurd
    (let same : x ≡ e = cc in same_key x.key f.key (ap (λ (y : Entry). y.key) same ∙ is) (below_each xs (λ y. bytes_eq x.key y ≡ false) k f distinct.0 q))
once (x ∷ xs) distinct (suc j) zero e f p q is = absurd
    (let same : x ≡ f = cc in same_key x.key e.key (ap (λ (y : Entry). y.key) same ∙ sym is) (below_each xs (λ y. bytes_eq x.key y ≡ false) j e distinct.0 p))
once (x ∷ xs) distinct (suc j) (suc k) e f p q is = let s : j ≡ k = once xs distinct.1 j k e f p q is in ap suc s

-- what is found under a whole key
pub has_true : (table : Entities) (key characters : List ℕ) (e : Entry) → longest table key ≡ Some e → length e.key ≡ length key → e.stands_for ≡ characters
    → Contains table (record { key = key; stands_for = characters })
has_true table key characters e found size stands = let among = longest_among table key e found in let key-is : e.key ≡ key = whole key e.key among.2 size in
    let made : Entry = record { key = key; stands_for = characters } in
    let is : e ≡ made = (λ i. record { key = key-is i; stands_for = stands i }) in
    (among.0, slice_get_within table among.0 made (among.1 ∙ ap Some is), get_or_from_slice_get table among.0 made made (among.1 ∙ ap Some is))

pub has_found : (table : Entities) (e : Entry) → IsTable table → Contains table e → longest table e.key ≡ Some e
has_found table e is_table (k, less, got) = let at : slice_get table k ≡ Some e = slice_get-get_or table k e less ∙ ap Some got in
    longest-whole table e.key k e (record { here = λ j f p is. once table is_table.distinct j k f e p at is }) at refl

pub core_readable : IsReadable core
unfolding IsStrictlySortedBy
core_readable = readable_from core refl ((refl, (refl, (refl, (refl, tt)))), ((refl, (refl, (refl, tt))), ((refl, (refl, tt)), ((refl, tt), (tt, tt)))))

pub has_only : (table : Entities) (key characters : List ℕ) (e : Entry) → IsTable table → longest table key ≡ Some e
    → Contains table (record { key = key; stands_for = characters }) → (e.key ≡ key) × (e.stands_for ≡ characters)
has_only table key characters e is_table found contains = let made : Entry = record { key = key; stands_for = characters } in
    let is : e ≡ made = some_same e made (sym found ∙ has_found table made is_table contains) in
    (ap (λ (y : Entry). y.key) is, ap (λ (y : Entry). y.stands_for) is)
