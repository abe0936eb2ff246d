-- What is tested of a plain document is what its definition asks.
use Rattle.hserialize.proofs.Names.{◌≡◌, ℕ, ◌<◌, Bool, true, false, not, cond, List, [], Some, None, refl, sym, ◌∙◌, ap, arith, ◌&&◌, Option, tag_of, tag_named, Tag, AreCounted, What, element, comment, text, Forest, none, tree, children_of, mapped, mapped_what, first_or, first_child_of, next_of, what_of, row, takes_role, texts_in, Inside, inside_element, inside_node, codes, IfSome, is_some, is_none, takes_comments, trees_from, past_leaves, ArePassed, IsDoctypePassed, is_plain_doctype_at, is_leaf_at, is_text_alone, is_metadata_what, is_metadata_at, is_named_what, are_content, begins_with_text, is_plain_text, ends_document, is_leaf, leaves_then, comments_then, doctype_then, element_then, is_metadata, inside_head, are_metadata, are_in_html, body_on, html_on, is_plain_document, is_text_at, Role, join, join-assoc, list_all, roots, IsHeadAt}
use Rattle.hserialize.proofs.Following.{IsFirst, child, child-made, first-at, first-made, children-from}
use Rattle.hserialize.specs.declared.content.Texts.{Texts as Allowed}
use Rattle.hserialize.specs.declared.content.Texts.TheVariants as texts
use Rattle.names.specs.declared.tag.Tag.TheVariants as tag

regrouped : (p q e r : Bool) → ((p && q) && e && r) ≡ (p && e && (q && r))
regrouped p q e r = grind (arith)

-- PARTS OF A LIST

pub leaves : (allowed : Allowed) (next : Forest (List ℕ) → Bool) (g : Forest (List ℕ)) → leaves_then allowed next g ≡ next (past_leaves allowed g)
leaves allowed next none = refl
leaves allowed next (tree n w kids rest) = go (is_leaf allowed w kids rest) (leaves allowed next rest) where
  go : (u : Bool) → leaves_then allowed next rest ≡ next (past_leaves allowed rest)
      → cond u (leaves_then allowed next rest) (next (tree n w kids rest)) ≡ next (cond u (past_leaves allowed rest) (tree n w kids rest))
  go true same = same
  go false same = refl

-- without a node, or with one
none_is : {A : Type 0} (o : Option A) (u : Bool) → is_some o ≡ not u → u ≡ is_none o
none_is o u h = grind arith

-- AT MOST ONE TEXT

abbrev pub is_one_text : Allowed → Forest (List ℕ) → Bool
is_one_text allowed none = true
is_one_text allowed (tree n (text t) kids rest) = is_plain_text allowed t && ends_document kids && ends_document rest
is_one_text allowed (tree n w kids rest) = false

empty : (i : Inside) (w : What (List ℕ)) (g : Forest (List ℕ)) → are_content (inside_node (text []) i) g ≡ ends_document g
empty i w g = grind arith

module _ (i : Inside) (roles : (r : Role) → takes_role i.content r ≡ false) (comments : takes_comments i.content ≡ false) where
  after_text : (g : Forest (List ℕ)) → (not (begins_with_text g) && are_content i g) ≡ ends_document g
  after_text g = grind (arith, roles, comments)

  pub one_text : (g : Forest (List ℕ)) → are_content i g ≡ is_one_text i.texts g
  one_text none = refl
  one_text (tree n (text t) kids rest) = regrouped (is_plain_text i.texts t) (not (begins_with_text rest)) (are_content (inside_node (text t) i) kids)
      (are_content i rest) ∙ (λ k. is_plain_text i.texts t && empty i (text t) kids k && after_text rest k)
  one_text (tree n (element name attrs) kids rest) = grind (arith, roles)
  one_text (tree n (comment t) kids rest) = grind (arith, comments)
  one_text (tree n w kids rest) = refl

-- what is in an element of head
in_metadata : (t : Tag) (g : Forest (List ℕ)) → is_metadata t ≡ true → are_content (inside_element t inside_head) g ≡ is_one_text (texts_in (row t).1) g
in_metadata tag.Base g h = one_text (inside_element tag.Base inside_head) (λ r. refl) refl g
in_metadata tag.Basefont g h = one_text (inside_element tag.Basefont inside_head) (λ r. refl) refl g
in_metadata tag.Bgsound g h = one_text (inside_element tag.Bgsound inside_head) (λ r. refl) refl g
in_metadata tag.Link g h = one_text (inside_element tag.Link inside_head) (λ r. refl) refl g
in_metadata tag.Meta g h = one_text (inside_element tag.Meta inside_head) (λ r. refl) refl g
in_metadata tag.Script g h = one_text (inside_element tag.Script inside_head) (λ r. refl) refl g
in_metadata tag.Style g h = one_text (inside_element tag.Style inside_head) (λ r. refl) refl g
in_metadata tag.Title g h = one_text (inside_element tag.Title inside_head) (λ r. refl) refl g
in_metadata _ g h = absurd cc

-- NODE BY NODE

swapped : (a b c : Bool) → (a && b && c) ≡ ((c && a) && b)
swapped a b c = grind (arith)

held : (u v c d r : Bool) → (u ≡ true → c ≡ d) → (u && v && c && r) ≡ ((u && v && d) && r)
held u v c d r same = grind arith

module _ (spelling : ℕ → List ℕ) (f : Forest ℕ) where
  -- as the definition has it
  abbrev from : Option ℕ → Forest (List ℕ)
  from o = mapped spelling (trees_from o f)

  childless : (g : Forest ℕ) → is_none (first_or g None) ≡ ends_document (mapped spelling g)
  childless g = grind arith

  before_text : (o : Option ℕ) → is_text_at o f ≡ begins_with_text (from o)
  before_text o = grind arith

  leaf-is : (allowed : Allowed) (n : ℕ) (a : IsFirst n f)
      → is_leaf_at allowed n f ≡ is_leaf allowed (mapped_what spelling a.what) (mapped spelling a.kids) (mapped spelling a.rest)
  leaf-is allowed n a = grind (arith, childless, before_text, a.is, a.first, a.after)

  -- past what a list begins with
  pub past : (allowed : Allowed) (next : Forest (List ℕ) → Bool) (p o to : Option ℕ) → o ≡ p → ArePassed allowed o to f
      → leaves_then allowed next (from p) ≡ next (from to)
  past allowed next p o to same passed = ap (λ q. leaves_then allowed next (from q)) (sym same) ∙ leaves allowed next (from o) ∙ ap next (passed spelling)

  pub past-step : (allowed : Allowed) (o : Option ℕ) (n : ℕ) (a : IsFirst n f) (leaf : Bool) → o ≡ Some n → leaf ≡ is_leaf_at allowed n f
      → past_leaves allowed (from o) ≡ cond leaf (past_leaves allowed (from (next_of n f))) (from (Some n))
  past-step allowed o n a leaf is tested = ap (λ o. past_leaves allowed (from o)) is ∙ ap (λ g. past_leaves allowed (mapped spelling g)) a.trees
      ∙ (λ k. cond (sym (tested ∙ leaf-is allowed n a) k) (past_leaves allowed (mapped spelling (sym a.after k))) (mapped spelling (sym a.trees k)))

  pub doctype-step : (o : Option ℕ) (n : ℕ) (a : IsFirst n f) (plain : Bool) → o ≡ Some n → plain ≡ is_plain_doctype_at n f
      → doctype_then (comments_then html_on) (from o) ≡ cond plain (comments_then html_on (from (next_of n f))) (comments_then html_on (from (Some n)))
  doctype-step o n a plain is tested = grind (arith, childless, a.trees, a.is, a.first, a.after)

  pub element-step : (x : List ℕ) (children next : Forest (List ℕ) → Bool) (n : ℕ) (a : IsFirst n f) → element_then x children next (from (Some n))
      ≡ (is_named_what spelling x (what_of n f) && children (mapped spelling (children_of n f)) && next (from (next_of n f)))
  element-step x children next n a = grind (arith, a.trees, a.is, a.kids_are, a.after)

  module _ (made : ℕ) (counted : AreCounted made f) where
    -- the children of html, where this is what their comments end with
    pub in-html : (q : ℕ) (o to : Option ℕ) → q < made → o ≡ first_child_of q f → ArePassed texts.None o to f
        → are_in_html (mapped spelling (children_of q f)) ≡ element_then (codes "head") are_metadata (leaves_then texts.WhiteSpace body_on) (from to)
    in-html q o to h same passed = ap (λ g. are_in_html (mapped spelling g)) (sym (children-from made f counted q h) ∙ ap (λ o. trees_from o f) (sym same))
        ∙ past texts.None (element_then (codes "head") are_metadata (leaves_then texts.WhiteSpace body_on)) o o to refl passed

    -- a document, past its comments, its doctype and its other comments
    pub document-is : (q : ℕ) (r o p to : Option ℕ) → q < made → r ≡ first_child_of q f → ArePassed texts.None r o f → IsDoctypePassed o p f
        → ArePassed texts.None p to f → is_plain_document (mapped spelling (children_of q f)) ≡ html_on (from to)
    document-is q r o p to h same first between last =
        ap (λ g. is_plain_document (mapped spelling g)) (sym (children-from made f counted q h) ∙ ap (λ o. trees_from o f) (sym same))
        ∙ past texts.None (doctype_then (comments_then html_on)) r r o refl first ∙ between spelling ∙ past texts.None html_on p p to refl last

    ended : (o : Option ℕ) → IfSome o (λ n. n < made) → ends_document (from o) ≡ is_none o
    ended None h = refl
    ended (Some n) h = ap (λ g. ends_document (mapped spelling g)) (first-at made f counted n h).trees

    -- body, and html, where this is what the comments after it end with
    pub last-is : (x : List ℕ) (children : Forest (List ℕ) → Bool) (n : ℕ) (r to : Option ℕ) (u : Bool) → n < made → r ≡ next_of n f
        → ArePassed texts.None r to f → IfSome to (λ n. n < made) → is_some to ≡ not u → element_then x children (comments_then ends_document) (from (Some n))
        ≡ ((u && is_named_what spelling x (what_of n f)) && children (mapped spelling (children_of n f)))
    last-is x children n r to u h same passed within test = element-step x children (comments_then ends_document) n (first-at made f counted n h)
        ∙ swapped (is_named_what spelling x (what_of n f)) (children (mapped spelling (children_of n f))) (comments_then ends_document (from (next_of n f)))
        ∙ ap (λ e. (e && is_named_what spelling x (what_of n f)) && children (mapped spelling (children_of n f)))
        (past texts.None ends_document (next_of n f) r to same passed ∙ ended to within ∙ sym (none_is to u test))

    alone : (allowed : Allowed) (o : Option ℕ) → IfSome o (λ n. n < made) → is_text_alone allowed o f ≡ is_one_text allowed (from o)
    alone allowed None h = refl
    alone allowed (Some n) h = let a = first-at made f counted n h in
        grind (arith, childless, a.is, a.first, a.next, a.trees)

    module _ (tags : (id : ℕ) → tag_of id ≡ tag_named (spelling id)) where
      pub metadata-step : (n : ℕ) → n < made → are_metadata (from (Some n)) ≡ (is_metadata_at spelling n f && are_metadata (from (next_of n f)))
      metadata-step n h = ap (λ g. are_metadata (mapped spelling g)) a.trees ∙ go a.what (leaf-is texts.WhiteSpace n a)
          ∙ (λ k. is_metadata_what spelling n f (sym a.is k) && are_metadata (mapped spelling (sym a.after k))) where
            a : IsFirst n f
            a = first-at made f counted n h

            inner : (t : Tag) → is_metadata t ≡ true
                → are_content (inside_element t inside_head) (mapped spelling a.kids) ≡ is_text_alone (texts_in (row t).1) (first_child_of n f) f
            inner t m = in_metadata t (mapped spelling a.kids) m ∙ sym (alone (texts_in (row t).1) (first_child_of n f) (first-made made f counted n h)
                ∙ ap (λ g. is_one_text (texts_in (row t).1) (mapped spelling g)) (children-from made f counted n h ∙ a.kids_are))

            go : (w : What ℕ)
                → is_leaf_at texts.WhiteSpace n f ≡ is_leaf texts.WhiteSpace (mapped_what spelling w) (mapped spelling a.kids) (mapped spelling a.rest)
                → are_metadata (mapped spelling (tree n w a.kids a.rest)) ≡ (is_metadata_what spelling n f (Some w) && are_metadata (mapped spelling a.rest))
            go (element name attrs) l = rw (tags name) (held _ _ _ _ _ (inner (tag_named (spelling name))))
            go w l = ap (λ u. u && are_metadata (mapped spelling a.rest)) (sym l)

      metadata-from : (q : ℕ) (L g : Forest ℕ) → q < made → children_of q f ≡ join L g
          → are_metadata (mapped spelling g) ≡ list_all (λ n. is_metadata_at spelling n f) (roots g)
      metadata-from q L none h is = refl
      metadata-from q L (tree b w k R) h is = let here : trees_from (Some b) f ≡ tree b w k R = child made f counted q b w L k R h is in
          let a = first-at made f counted b (child-made made f counted q b w L k R is) in
          let after : trees_from (next_of b f) f ≡ R = a.after ∙ (let same = sym a.trees ∙ here in cc) in
          ap (λ g. are_metadata (mapped spelling g)) (sym here) ∙ metadata-step b (child-made made f counted q b w L k R is)
          ∙ (λ i. is_metadata_at spelling b f && (ap (λ g. are_metadata (mapped spelling g)) after
          ∙ metadata-from q (join L (tree b w k none)) R h (is ∙ sym (join-assoc L (tree b w k none) R))) i)

      -- the head, where it is known whether all in it is metadata
      pub head-is : (q : ℕ) (u : Bool) → q < made → is_named_what spelling (codes "head") (what_of q f) ≡ true
          → list_all (λ n. is_metadata_at spelling n f) (roots (children_of q f)) ≡ u → IsHeadAt spelling q f u
      head-is q u h named all next = element-step (codes "head") are_metadata next q (first-at made f counted q h)
          ∙ (λ k. named k && (metadata-from q none (children_of q f) h refl ∙ all) k && next (from (next_of q f)))
