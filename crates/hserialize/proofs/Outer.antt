-- A node with its own tags.
use Rattle.hserialize.proofs.Names.{◌≡◌, mapped_what, ℕ, ◌<◌, ◌≤◌, ◌⊎◌, inl, inr, Bool, cond, option_and_then, name_in, goes_in, closing_of, child-spot, at-most, List, [], ◌++◌, Some, refl, sym, ◌∙◌, ap, append-nil, option_map, AreNames, text_of, tag_of, tag_named, AreCounted, What, element, Forest, none, tree, times, tree_at, children_of, mapped, Spot, what_of, is-there, written, written_among, opening, opening_of, stands_raw, holds_raw, node_name, Escaping, root-spot, family, level, Here, Below, Written, closing_tag, name_around, opening_in, closing_in, listed, outer_text, Listing}
use Rattle.hserialize.proofs.KnownNames.{tags-agree}
use Rattle.hserialize.proofs.Wrote.{node-parts, own-written, stands-own}

-- a node's tree begins with what it is
what-there : (n : ℕ) (f : Forest ℕ) (one : times n f ≡ 1) → ((b : ℕ) → times b f ≤ 1) → what_of n f ≡ Some (family n f one).0
what-there n f one once = go (level n f one once) where
  go : Here n f ⊎ Below n f → what_of n f ≡ Some (family n f one).0
  go (inl p) = let alike = sym p.tree_is ∙ (family n f one).1 in
      ap (option_map (λ (s : Spot ℕ). s.what)) (root-spot n p.what p.left p.kids p.right f (once n) p.is) ∙ cc
  go (inr p) = let alike = sym p.tree_is ∙ (family n f one).1 in
      ap (option_map (λ (s : Spot ℕ). s.what)) (child-spot n p.parent p.what p.left p.kids p.right f p.one one p.is) ∙ cc

named-as : (texts : ℕ → List ℕ) (w : What ℕ) → name_in (mapped_what texts w) ≡ option_map texts (name_in w)
named-as texts (element name attrs) = refl
named-as texts _ = refl

-- a node that a walk over what is written goes into or not: its opening, what is in it and its closing
one-tree : (how : Escaping) (texts : ℕ → List ℕ) → ((id : ℕ) → tag_of id ≡ tag_named (texts id)) → (raw goes : Bool) (n : ℕ) (w : What ℕ) (kids : Forest ℕ)
    → goes_in Written w ≡ goes → written_among how raw (mapped texts (tree n w kids none))
    ≡ opening how texts raw w ++ (cond goes (written how (option_map texts (name_in w)) (mapped texts kids)) [] ++ closing_tag texts w)
one-tree how texts tags raw goes n w kids is = append-nil _ ∙ node-parts how texts tags raw w _
    ∙ (λ i. opening how texts raw w ++ (cond (is i) (written how (named-as texts w i) (mapped texts kids)) [] ++ closing_tag texts w))

-- a node is its opening, what is in it and its closing
pub outer-parts : (l : Listing) (goes : Bool) → AreNames l.names.now → AreCounted l.tree.now.made l.tree.now.trees → l.root < l.tree.now.made
    → l.raw ≡ holds_raw (node_name l.root l.tree.now.trees) → ((w : What ℕ) → what_of l.root l.tree.now.trees ≡ Some w → goes_in Written w ≡ goes)
    → outer_text l ≡ opening_in l l.root ++ (cond goes (listed l) [] ++ closing_in l l.root)
outer-parts l goes table counted h own walks = let how = l.escaping in let names = l.names.now in let texts = text_of names in let n = l.root in
    let f = l.tree.now.trees in
    let one = is-there l.tree.now.made f counted n h in
    let kids = children_of n f in
    let there = what-there n f one (at-most l.tree.now.made f counted) in
    let what = sym there in
    sym (own-written how names (mapped texts (tree_at n f)) (name_around n f) table)
    ∙ (λ i. written_among how (sym (stands-own n n f) i) (mapped texts ((family n f one).1 i)))
    ∙ one-tree how texts (tags-agree names table) (stands_raw n (holds_raw (node_name n f)) n f) goes n (family n f one).0 kids (walks _ there)
    ∙ (λ i. opening_of how texts (stands_raw n (holds_raw (node_name n f)) n f) (what i)
    ++ (cond goes (written how (option_map texts (option_and_then name_in (what i))) (mapped texts kids)) [] ++ closing_of texts (what i)))
    ∙ (λ i. opening_of how texts (stands_raw n (sym own i) n f) (what_of n f)
    ++ (cond goes (sym (own-written how names (mapped texts kids) (node_name n f) table) i) [] ++ closing_of texts (what_of n f)))
    ∙ (λ i. opening_in l n ++ (cond goes (written_among how (sym own i) (mapped texts kids)) [] ++ closing_in l n))
