-- What a walk writes.
use Rattle.hserialize.proofs.Names.{◌≡◌, ℕ, ◌<◌, Bool, true, false, cond, List, [], ◌∷◌, ◌++◌, map, Option, Some, None, refl, sym, ◌∙◌, ap, option_and_then, eqb, eq-eqb, parent_of, append_assoc, append-nil, option_map, Texts, AreNames, text_of, is_void, tag_of, tag_named, What, element, Forest, none, tree, children_of, AreCounted, mapped, mapped_attribute, what_of, name_in, Refusal, goes_in, visits, start_tag_text, end_tag_text, written_among, written, stands_raw, holds_raw, node_name, opening, opening_of, closing_of, Escaping, Visit, Leave, Taken, AddsBytes, Fails, not, raw_kind, mapped_what, has_no_references, is_raw_in, node_text, raw_in, name_around, closing_tag, visit_text, eqb-true, option_map_or, Written, flat_map, flat_map-append, listed, Listing, cond_both, arith}
use Rattle.hserialize.proofs.KnownNames.{tags-agree}
use Rattle.hserialize.proofs.Output.{HasLeft, none_put, part_put, part_failed, all_put}
use Rattle.hserialize.proofs.Seen.{Seen, IsSeen, seen}

-- whether an element holds raw texts, by its number and by its text
pub raw-same : (texts : ℕ → List ℕ) → ((id : ℕ) → tag_of id ≡ tag_named (texts id)) → (o : Option ℕ) → holds_raw o ≡ is_raw_in (option_map texts o)
raw-same texts tags None = refl
raw-same texts tags (Some name) = ap (λ t. has_no_references (raw_kind t)) (tags name)

-- the list of a node's children is written as its own name says, where that is said of it
pub own-written : (how : Escaping) (names : Texts) (g : Forest (List ℕ)) (o : Option ℕ) → AreNames names
    → written_among how (holds_raw o) g ≡ written how (option_map (text_of names) o) g
own-written how names g o table = ap (λ r. written_among how r g) (raw-same (text_of names) (tags-agree names table) o)

-- and each text then stands as the name around it says
pub stands-own : (n m : ℕ) (f : Forest ℕ) → stands_raw n (holds_raw (node_name n f)) m f ≡ holds_raw (name_around m f)
stands-own n m f = go (parent_of m f) where
  go : (o : Option ℕ) → option_map_or (λ p. raw_in n (holds_raw (node_name n f)) p f) o false ≡ holds_raw (option_and_then (λ p. node_name p f) o)
  go None = refl
  go (Some p) = cond_both (eqb p n) (holds_raw (node_name n f)) (holds_raw (node_name p f)) (λ r. r ≡ holds_raw (node_name p f))
      (λ e. ap (λ q. holds_raw (node_name q f)) (sym (eqb-true p n e))) (λ e. refl)

-- what is in an element that is not void, and its end tag
unless : (u : Bool) (t end : List ℕ) → cond u [] (t ++ end) ≡ (cond (not u) t [] ++ cond u [] end)
unless u t end = grind arith

module _ (how : Escaping) (texts : ℕ → List ℕ) (tags : (id : ℕ) → tag_of id ≡ tag_named (texts id)) (raw : Bool) where
  -- a node is its opening, what is in it, where a walk over what is written goes into it, and its closing
  pub node-parts : (w : What ℕ) (t : List ℕ)
      → node_text how raw (mapped_what texts w) t ≡ opening how texts raw w ++ (cond (goes_in Written w) t [] ++ closing_tag texts w)
  node-parts (element name attrs) t = rw (tags name) (ap (λ l. start_tag_text how (texts name) (map (mapped_attribute texts) attrs) ++ l)
      (unless (is_void (tag_named (texts name))) t (end_tag_text (texts name))))
  node-parts w t = sym (append-nil (opening how texts raw w))

module _ (how : Escaping) (texts : ℕ → List ℕ) (f : Forest ℕ) (root : ℕ) (own : Bool) where
  -- what visits write
  abbrev pub visits_text : List Visit → List ℕ
  visits_text left = flat_map (visit_text how texts root own f) left

  module _ (tags : (id : ℕ) → tag_of id ≡ tag_named (texts id)) (made : ℕ) where
    -- a node and what is inside it
    node-writes : (p b : ℕ) (w : What ℕ) (kids rest : Forest ℕ) → IsSeen made f root p b w kids rest
        → visits_text (visits Written kids) ≡ written_among how (raw_in root own b f) (mapped texts kids) → opening_of how texts (stands_raw root own b f)
        (what_of b f) ++ (visits_text (cond (goes_in Written w) (visits Written kids) []) ++ closing_of texts (what_of b f))
        ≡ node_text how (raw_in root own p f) (mapped_what texts w) (written_among how (is_raw_in (name_in (mapped_what texts w))) (mapped texts kids))
    node-writes p b w kids rest s inner =
        (λ i. opening_of how texts (begins i) (s.what i) ++ (visits_text (cond (goes_in Written w) (visits Written kids) []) ++ closing_of texts (s.what i)))
        ∙ ap (λ t. opening how texts raw w ++ (t ++ closing_tag texts w)) (go w s.what)
        ∙ sym (node-parts how texts tags raw w (written_among how (is_raw_in (name_in (mapped_what texts w))) (mapped texts kids))) where
          raw : Bool
          raw = raw_in root own p f

          begins : stands_raw root own b f ≡ raw
          begins = ap (λ o. option_map_or (λ q. raw_in root own q f) o false) s.parent

          under : (u : Bool) (inside : List ℕ) → visits_text (visits Written kids) ≡ inside → visits_text (cond u (visits Written kids) []) ≡ cond u inside []
          under true inside is = is
          under false inside is = refl

          go : (v : What ℕ) → what_of b f ≡ Some v → visits_text (cond (goes_in Written v) (visits Written kids) [])
              ≡ cond (goes_in Written v) (written_among how (is_raw_in (name_in (mapped_what texts v))) (mapped texts kids)) []
          go (element name attrs) e =
              let named : raw_in root own b f ≡ is_raw_in (Some (texts name)) =
              ap (λ u. cond u own (holds_raw (node_name b f))) s.other ∙ ap (λ o. holds_raw (option_and_then name_in o)) e ∙ raw-same texts tags (Some name) in
              under (not (is_void (tag_of name))) _ (inner ∙ ap (λ r. written_among how r (mapped texts kids)) named)
          go _ e = refl

    writes : (p : ℕ) (g : Forest ℕ) → Seen made f root p g → visits_text (visits Written g) ≡ written_among how (raw_in root own p f) (mapped texts g)
    writes p none s = refl
    writes p (tree b w kids rest) s = let inside = cond (goes_in Written w) (visits Written kids) [] in
        rw (flat_map-append (visit_text how texts root own f) inside (Leave b ∷ visits Written rest), writes p rest s.2)
        (rw (← node-writes p b w kids rest s.0 (writes b kids s.1)) (simp append_assoc))

-- the text that the visits that are left write
abbrev left_text : Listing → List Visit → List ℕ
left_text l = visits_text l.escaping (text_of l.names.now) l.tree.now.trees l.root l.raw

-- it is the rest of the list's
abbrev pub IsWriting : Listing → (old now : Taken) (left : List Visit) → Type 0
IsWriting l old now left = HasLeft old now (listed l) (left_text l left)

pub begun : (l : Listing) (old : Taken) (left items : List Visit) → AreNames l.names.now → AreCounted l.tree.now.made l.tree.now.trees
    → l.root < l.tree.now.made → left ≡ items → items ≡ visits Written (children_of l.root l.tree.now.trees) → IsWriting l old old left
begun l old left items table counted h same visited = let f = l.tree.now.trees in
    let all = writes l.escaping (text_of l.names.now) f l.root l.raw (tags-agree l.names.now table) l.tree.now.made l.root (children_of l.root f)
    (seen l.tree.now.made f counted l.root h) in
    rw (same, visited, all, eq-eqb l.root l.root refl) (none_put old (listed l))

module _ (l : Listing) (old now : Taken) (v : Visit) (before left : List Visit) (is : before ≡ v ∷ left) (s : IsWriting l old now before) where
  abbrev next_text : List ℕ
  next_text = visit_text l.escaping (text_of l.names.now) l.root l.raw l.tree.now.trees v

  -- one visit more
  pub goes_on : (new : Taken) → AddsBytes now new next_text → IsWriting l old new left
  goes_on new h = part_put old now new _ _ _ _ s (ap (left_text l) is) h

  -- one that failed
  pub failed : (new : Taken) {e : Refusal} → Fails e now new next_text → Fails e old new (listed l)
  failed new h = part_failed old now new _ _ _ _ s (ap (left_text l) is) h

-- the end
pub wrote : (l : Listing) (old now : Taken) (left : List Visit) → left ≡ [] → IsWriting l old now left → AddsBytes old now (listed l)
wrote l old now left is s = all_put old now _ _ s (ap (left_text l) is)
