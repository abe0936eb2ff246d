-- A list is content of what it is in exactly if each of its regions is, and no form is in a form.
use Rattle.hserialize.proofs.Names.{◌≡◌, ℕ, ◌<◌, Bool, true, false, not, cond, List, Some, None, refl, sym, ◌∙◌, and_parts, ap, arith, option_and_then, ◌&&◌, ◌||◌, Option, Texts, AreNames, text_of, tag_of, tag_named, Tag, AreCounted, What, element, Forest, none, tree, children_of, mapped, mapped_what, name_in, row, takes_role, Inside, are_plain_attributes, in_context_of, inside_node, is_form_element, is_nested, is_plain_node, inserts_marker, are_region_content, begins_region, in_region, without_form, tag_at, tag_or_other, texts_at_top, top_content, visits, Content, Visit, option_map, are_content, begins_with_line_feed, drops_line_feed, is_plain, form_after, have_plain_regions, makes_form, Whole, what_of}
use Rattle.hserialize.proofs.KnownNames.{tags-agree}
use Rattle.hserialize.proofs.Runs.{walked}
use Rattle.hserialize.proofs.Seen.{Seen, seen}
use Rattle.names.specs.declared.tag.Tag.TheVariants as tag
use Rattle.hserialize.specs.declared.content.Content.TheVariants as content
use Rattle.hserialize.proofs.Entering.{enters_region}
use Rattle.hserialize.proofs.Walks.{entering, leaving, Finds, finds-all, node-finds}

-- BY REGIONS

-- where the node is no form, and where it is one
no_form : (u v : Bool) → v ≡ (v && not (u && false))
no_form u v = grind (arith)

-- an element that is in none of its name, whether forms are asked for or not
nested_apart : (i : Inside) (t : Tag) → not (is_nested i t) ≡ (not (is_nested (without_form i) t) && not (i.in_form && is_form_element t))
nested_apart i tag.A = no_form i.in_form (not i.in_a)
nested_apart i tag.Button = no_form i.in_form (not i.in_button)
nested_apart i tag.Form = grind arith
nested_apart i _ = no_form i.in_form true

moved : (a b c d e : Bool) → (a && (b && e) && c && d) ≡ ((a && b && c && d) && e)
moved a b c d e = grind (arith)

-- a node by itself
node_apart : (i : Inside) (w : What (List ℕ)) (kids rest : Forest (List ℕ))
    → is_plain_node i w kids rest ≡ (is_plain_node (without_form i) w kids rest && not (i.in_form && makes_form w))
node_apart i (element name attrs) kids rest = let t = tag_named name in rw (nested_apart i t)
    (moved (takes_role i.content (row t).0) (not (is_nested (without_form i) t)) (are_plain_attributes attrs)
    (not (drops_line_feed t && begins_with_line_feed kids)) (not (i.in_form && is_form_element t)))
node_apart i w kids rest = no_form i.in_form (is_plain_node i w kids rest)

-- the children of a node that begins a region, and of another
region_below : (i : Inside) (w : What (List ℕ)) → begins_region w ≡ true → without_form (inside_node w i) ≡ in_region content.Flow
region_below i (element name attrs) h = enters_region (tag_named name) i h
region_below i _ h = absurd cc

below_again : (i : Inside) (w : What (List ℕ)) → without_form (inside_node w i) ≡ without_form (inside_node w (without_form i))
below_again i (element name attrs) = refl
below_again i _ = refl

form_below : (i : Inside) (w : What (List ℕ)) → (inside_node w i).in_form ≡ (i.in_form || makes_form w)
form_below i (element name attrs) = refl
form_below i _ = grind arith

-- the children of a node are in its region, or in one of their own
sorted : (m p d k j o a r b : Bool) → (m ≡ true → k ≡ o) → (m ≡ false → k ≡ j)
    → ((p && d) && (k && a) && (r && b)) ≡ ((p && cond m true j && r) && (d && cond m o true && a && b))
sorted m p d k j o a r b own same = grind arith

pub by_regions : (i : Inside) (f : Forest (List ℕ)) → are_content i f ≡ (are_region_content (without_form i) f && have_plain_regions i.in_form f)
by_regions i none = refl
by_regions i (tree n w kids rest) = rw (node_apart i w kids rest, by_regions (inside_node w i) kids, by_regions i rest, form_below i w)
    (sorted (begins_region w) _ _ _ _ _ _ _ _ (λ e. ap (λ j. are_region_content j kids) (region_below i w e))
    (λ _. ap (λ j. are_region_content j kids) (below_again i w)))

-- THE WALK THAT FINDS REGIONS

step : (x m r : Bool) (o : Option Bool) → cond x None (cond (m && not r) None o) ≡ cond (not x && cond m r true) o None
step x m r o = grind (arith)

back_again : (x v : Bool) → not (x && v) ≡ true → ((x || v) && not v) ≡ x
back_again x v h = grind (arith)

module _ (spelling : ℕ → List ℕ) (tags : (id : ℕ) → tag_of id ≡ tag_named (spelling id)) (f : Forest ℕ) where
  -- whether a form is around, as long as none is in a form and the regions are content
  abbrev enters : ℕ → Option Bool → Option Bool
  enters = entering (form_after spelling f)

  abbrev leaves : ℕ → Option Bool → Option Bool
  leaves = leaving (form_after spelling f)

  abbrev region : Forest ℕ → Bool
  region kids = are_region_content (in_region content.Flow) (mapped spelling kids)

  -- an element that inserts a marker, and a form
  seen_as : (b : ℕ) (w : What ℕ) → what_of b f ≡ Some w → (inserts_marker (tag_at b f) ≡ begins_region (mapped_what spelling w))
      × (is_form_element (tag_at b f) ≡ makes_form (mapped_what spelling w))
  seen_as b (element name attrs) e = let named : tag_at b f ≡ tag_named (spelling name) = ap (λ o. tag_or_other (option_and_then name_in o)) e ∙ tags name in
      (ap inserts_marker named, ap is_form_element named)
  seen_as b _ e = let named : tag_at b f ≡ tag.Other = ap (λ o. tag_or_other (option_and_then name_in o)) e in
      (ap inserts_marker named, ap is_form_element named)

  finds : (made root p : ℕ) (g : Forest ℕ) → Seen made f root p g → (u : Bool)
      → walked enters leaves Whole g (Some u) ≡ cond (have_plain_regions u (mapped spelling g)) (Some u) None
  finds made root p none s u = refl
  finds made root p (tree b w kids rest) s u = let form = makes_form (mapped_what spelling w) in let within = u || form in
      let apart = not (u && form) in let regions = cond (begins_region (mapped_what spelling w)) (region kids) true in
      let inner = have_plain_regions within (mapped spelling kids) in let others = have_plain_regions u (mapped spelling rest) in
      let (marks, forms) = seen_as b w s.0.what in
      node-finds (form_after spelling f) Whole false b kids rest u within (apart && regions) inner others
      ((λ k. cond (u && forms k) None (cond (marks k && not (region (s.0.kids_are k))) None (Some (u || forms k)))) ∙ step (u && form) _ (region kids) _)
      (λ _ _. finds made root b kids s.1 within)
      (λ all. ap (λ v. Some (within && not v)) forms ∙ ap (λ v. Some v) (back_again u form (and_parts _ _ all).0)) (finds made root p rest s.2 u)

-- where a list is at the top
abbrev top_inside : Bool → Content → Inside
top_inside form own = record { content = own; texts = texts_at_top own; in_a = false; in_button = false; in_form = form }

top_is : (c : Content) (form : Bool) → in_context_of c form ≡ option_map (top_inside form) (top_content c)
top_is content.Flow form = refl
top_is _ form = refl

-- a list is plain if its top region is content, and so are the others, and no form is in a form
pub plain_is : (context : List ℕ) (t : Tag) (top : Content) (f : Forest (List ℕ)) → t ≡ tag_named context → Some top ≡ top_content (row t).1
    → (are_region_content (in_region top) f && have_plain_regions (is_form_element t) f) ≡ is_plain context f
plain_is context t top f named topmost =
    rw (← named, top_is (row t).1 (is_form_element t), ← topmost) (sym (by_regions (top_inside (is_form_element t) top) f))

-- what is left of the walk finds whether the list is plain
abbrev pub IsFinding : (names : Texts) (f : Forest ℕ) (root : ℕ) (context : List ℕ) → Bool → List Visit → Type 0
IsFinding names f root context = Finds (form_after (text_of names) f) (is_plain context (mapped (text_of names) (children_of root f)))

pub begun : (names : Texts) (made : ℕ) (f : Forest ℕ) (root : ℕ) (top : Content) (context : List ℕ) (t : Tag) (in_form : Bool) (left items : List Visit)
    → AreNames names → AreCounted made f → root < made → t ≡ tag_named context → Some top ≡ top_content (row t).1
    → true ≡ are_region_content (in_region top) (mapped (text_of names) (children_of root f)) → in_form ≡ is_form_element t → left ≡ items
    → items ≡ visits Whole (children_of root f) → IsFinding names f root context in_form left
begun names made f root top context t in_form left items table counted h named topmost region begins same visited =
    let g = mapped (text_of names) (children_of root f) in
    let all : have_plain_regions in_form g ≡ is_plain context g =
    ap (λ u. have_plain_regions u g) begins ∙ ap (λ u. u && have_plain_regions (is_form_element t) g) region ∙ plain_is context t top g named topmost in
    finds-all (form_after (text_of names) f) Whole (children_of root f) _ in_form left items same visited (finds (text_of names) (tags-agree names table) f made
    root root (children_of root f) (seen made f counted root h) in_form ∙ ap (λ u. cond u (Some in_form) None) all)

-- a top region that is not content
pub not_plain : (context : List ℕ) (t : Tag) (top : Content) (f : Forest (List ℕ)) → t ≡ tag_named context → Some top ≡ top_content (row t).1
    → false ≡ are_region_content (in_region top) f → false ≡ is_plain context f
not_plain context t top f named topmost region = ap (λ u. u && have_plain_regions (is_form_element t) f) region ∙ plain_is context t top f named topmost
