use Rattle.hopen.proofs.Names.{common_steps, [], ◌≡◌, ℕ, ◌+◌, ◌<◌, ◌++◌, ◌∷◌, List, length, take, get_or, sym, ◌∙◌, ap, arith, length-map, length-take-le, map-append, ne_eqb, EntryOf, item_of, number_by, numbers_by, Stored, set-append_seam, take-more}
use Rattle.hopen.proofs.slots.hash_items.Goals as goal

-- one number more
more : (of : EntryOf ℕ → ℕ) (items : List Stored) (i : ℕ) (x : Stored) (hashes : List ℕ) → i < length items → x ≡ get_or items i x
    → hashes ≡ numbers_by of (take i items) → hashes ++ number_by of (item_of x) ∷ [] ≡ numbers_by of (take (i + 1) items)
more of items i x hashes low is before = ap (λ ns. ns ++ number_by of (item_of x) ∷ []) before
    ∙ sym (map-append (λ y. number_by of (item_of y)) (take i items) (x ∷ [])) ∙ ap (numbers_by of) (sym (take-more items (i + 1) i x (omega arith) low is))

size : (of : EntryOf ℕ → ℕ) (items : List Stored) (i : ℕ) (hashes : List ℕ) → i < length items → hashes ≡ numbers_by of (take i items) → length hashes ≡ i
size of items i hashes low is = ap length is ∙ length-map (take i items) (λ x. number_by of (item_of x)) ∙ length-take-le i items (omega arith)

pub loop-index-preserved : goal.loop-index-preserved
loop-index-preserved c = grind (arith, common_steps, more, ne_eqb, set-append_seam, size)

pub clear-requires : goal.clear-requires
clear-requires c = grind (arith, common_steps)

pub returns : goal.returns
returns c = grind (arith, common_steps)
