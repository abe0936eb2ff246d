-- The nodes of a tree, listed one after another.
use Rattle.html_c.proofs.Names.{◌≡◌, ℕ, ◌<◌, ◌+◌, List, [], ◌∷◌, ◌++◌, refl, sym, ap, append-nil, ◌∙◌, flat_map, length, map, text_of, Forest, none, tree, children_of, mapped, rows_of, words_of, length-append, flat_map-append, map-append, Texts, AreCounted, order, what_of, Seen, seen, node_words_at, origin_at, origins_of, row_at, Origin, NodeRow, arith}

-- the row of a node, and its words
abbrev pub node_row : Forest ℕ → ℕ → List NodeRow
node_row f n = row_at n f ∷ []

abbrev pub node_bytes : Texts → Forest ℕ → ℕ → List ℕ
node_bytes names f n = node_words_at (text_of names) (what_of n f)

module _ (made : ℕ) (f : Forest ℕ) (root : ℕ) where
  rows_listed : (p : ℕ) (g : Forest ℕ) → Seen made f root p g → flat_map (node_row f) (order g) ≡ rows_of p g
  rows_listed p none s = refl
  rows_listed p (tree b w kids rest) (is, inside, after) = rw (
    is.what,
    is.parent,
    is.first,
    is.next,
    flat_map-append (node_row f) (order kids) (order rest),
    rows_listed b kids inside,
    rows_listed p rest after,
  ) refl

  words_listed : (names : Texts) (p : ℕ) (g : Forest ℕ) → Seen made f root p g → flat_map (node_bytes names f) (order g) ≡ words_of (mapped (text_of names) g)
  words_listed names p none s = refl
  words_listed names p (tree b w kids rest) (is, inside, after) = rw (
    is.what,
    flat_map-append (node_bytes names f) (order kids) (order rest),
    words_listed names b kids inside,
    words_listed names p rest after,
  ) refl

-- where none is left, the nodes so far are all of those inside a node
pub all_listed : (names : Texts) (made : ℕ) (f : Forest ℕ) (root : ℕ) (nodes left : List ℕ) → AreCounted made f → root < made
    → nodes ++ left ≡ order (children_of root f) → left ≡ [] → (flat_map (node_row f) nodes ≡ rows_of root (children_of root f))
    × (flat_map (node_bytes names f) nodes ≡ words_of (mapped (text_of names) (children_of root f)))
all_listed names made f root nodes left counted h are none_left = let s = seen made f counted root h in
    let all = sym (append-nil nodes) ∙ ap (λ l. nodes ++ l) (sym none_left) ∙ are in (
      ap (flat_map (node_row f)) all ∙ rows_listed made f root root (children_of root f) s,
      ap (flat_map (node_bytes names f)) all ∙ words_listed made f root names root (children_of root f) s,
    )

pub all_told : (list : List Origin) (f : Forest ℕ) (nodes left : List ℕ) → nodes ++ left ≡ order f → left ≡ [] → map (origin_at list) nodes ≡ origins_of list f
all_told list f nodes left are none_left = ap (map (origin_at list)) (sym (append-nil nodes) ∙ ap (λ l. nodes ++ l) (sym none_left) ∙ are)

-- there are as many rows of origins as of nodes
pub as_many : (list : List Origin) (p : ℕ) (f : Forest ℕ) → length (origins_of list f) ≡ length (rows_of p f)
as_many list p none = refl
as_many list p (tree b w kids rest) = rw (map-append (origin_at list) (order kids) (order rest)) (simp length-append
    (omega (arith, as_many list b kids, as_many list p rest)))
