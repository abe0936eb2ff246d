-- What a walk over a region tests.
use Rattle.hserialize.proofs.Names.{◌≡◌, ℕ, ◌<◌, Bool, true, false, not, cond, List, Some, None, refl, ◌∙◌, ap, option_and_then, and_parts, not-true, ◌&&◌, Option, Texts, AreNames, text_of, tag_of, tag_named, Tag, AreCounted, What, element, Forest, none, tree, children_of, mapped, mapped_what, name_in, row, takes_role, texts_in, Inside, inside_node, inside_element, is_nested, is_plain_node, inserts_marker, are_region_content, begins_region, in_region, without_form, is_phrasing, content_among, texts_at_top, tag_or_other, tag_at, marked, visits, Around, Content, Visit, eqb, eq-eqb, first_or, begins_with_text, alone, standing_of, inside_is, is_text_at, begins_at, is_plain_at, after_visit, goes_in, Region, arith}
use Rattle.hserialize.proofs.KnownNames.{tags-agree}
use Rattle.hserialize.proofs.Runs.{walked}
use Rattle.hserialize.proofs.Seen.{Seen, seen, IsSeen}
use Rattle.names.specs.declared.tag.Tag.TheVariants as tag
use Rattle.hserialize.specs.Plain.{begins_with_line_feed as begins_line}
use Rattle.hserialize.specs.declared.content.Content.TheVariants as content
use Rattle.hserialize.specs.declared.content.Texts.{Texts as Allowed}
use Rattle.hserialize.specs.declared.content.Texts.TheVariants as texts
use Rattle.hserialize.proofs.Entering.{fits, place_in, IsEntered, enter_element, enter_other, left_again}
use Rattle.hserialize.proofs.Walks.{entering, leaving, Finds, finds-all, node-finds}

module _ (spelling : ℕ → List ℕ) (tags : (id : ℕ) → tag_of id ≡ tag_named (spelling id)) (f : Forest ℕ) (root : ℕ) (top : Content) where
  -- what is around, as long as all is plain
  abbrev enters : ℕ → Option Around → Option Around
  enters = entering (after_visit spelling f root top)

  abbrev leaves : ℕ → Option Around → Option Around
  leaves = leaving (after_visit spelling f root top)

  -- where the children of a node are
  abbrev content_in : ℕ → Bool → Content
  content_in p u = cond (eqb p root) top (content_among u (row (tag_at p f)).1)

  abbrev texts_of : ℕ → Bool → Allowed
  texts_of p u = cond (eqb p root) (texts_at_top top) (texts_in (content_among u (row (tag_at p f)).1))

  abbrev place : ℕ → Around → Inside
  place p a = place_in (content_in p a.in_phrasing) (texts_of p a.in_phrasing) a

  placed : (p : ℕ) (a : Around) → inside_is (standing_of root top a (Some p) f) ≡ place p a
  placed p a = grind arith

  -- a node by itself
  line_feed : (made p : ℕ) (g : Forest ℕ) → Seen made f root p g → begins_at (first_or g None) f ≡ begins_line (mapped spelling g)
  line_feed made p none s = refl
  line_feed made p (tree b w kids rest) s = grind (arith, s.0.what)

  before_text : (made p : ℕ) (g : Forest ℕ) → Seen made f root p g → is_text_at (first_or g None) f ≡ begins_with_text (mapped spelling g)
  before_text made p none s = refl
  before_text made p (tree b w kids rest) s = grind (arith, s.0.what)

  tested : (made p b : ℕ) (w : What ℕ) (kids rest : Forest ℕ) → IsSeen made f root p b w kids rest → Seen made f root b kids → Seen made f root p rest
      → (i : Inside) → is_plain_at spelling i b f ≡ is_plain_node i (mapped_what spelling w) (mapped spelling kids) (mapped spelling rest)
  tested made p b w kids rest s below after i =
      grind (arith, s.what, s.first, s.next, line_feed made b kids below, before_text made p rest after, tags)

  -- whether a walk goes into a node
  abbrev begins : What ℕ → Bool
  begins w = begins_region (mapped_what spelling w)

  goes : (w : What ℕ) → goes_in Region w ≡ not (begins w)
  goes (element name attrs) = ap (λ t. not (inserts_marker t)) (tags name)
  goes _ = refl

  -- what a plain node asks of where its children are
  abbrev Stands : (p b : ℕ) → Around → Inside → Type 0
  Stands p b a i = (place b (marked (tag_at b f) true a) ≡ i)
      × (fits (content_in b (marked (tag_at b f) true a).in_phrasing) (marked (tag_at b f) true a).in_phrasing ≡ true)

  below_element : (p b : ℕ) (t : Tag) (a : Around) (i : Inside) → eqb b root ≡ false → tag_at b f ≡ t → IsEntered t i a → Stands p b a i
  below_element p b t a i other same e = rw (same, other) (e.below, e.fit)

  -- what is around a plain node is around what comes after it, and its children are in it where no marker hides that
  record IsAgain (p b : ℕ) (w : What ℕ) (a : Around) : Type 0 where
    below : begins w ≡ false → Stands p b a (without_form (inside_node (mapped_what spelling w) (place p a)))
    back : marked (tag_at b f) false (marked (tag_at b f) true a) ≡ a

  entered : (made p b : ℕ) (w : What ℕ) (kids rest : Forest ℕ) (a : Around) → IsSeen made f root p b w kids rest
      → fits (content_in p a.in_phrasing) a.in_phrasing ≡ true
      → is_plain_node (place p a) (mapped_what spelling w) (mapped spelling kids) (mapped spelling rest) ≡ true → IsAgain p b w a
  entered made p b (element name attrs) kids rest a s fit h = let t = tag_named (spelling name) in
      let same : tag_at b f ≡ t = ap (λ o. tag_or_other (option_and_then name_in o)) s.what ∙ tags name in
      let stands : (takes_role (content_in p a.in_phrasing) (row t).0 && not (is_nested (place p a) t)) ≡ true = (and_parts _ _ (and_parts _ _ h).0).0 in
      let (takes, apart) = and_parts _ _ stands in
      record {
        below = λ no_marker. below_element p b t a (without_form (inside_element t (place p a))) s.other same
            (enter_element t (content_in p a.in_phrasing) (texts_of p a.in_phrasing) a no_marker takes fit);
        back = ap (λ u. marked u false (marked u true a)) same
            ∙ left_again t (content_in p a.in_phrasing) (texts_of p a.in_phrasing) a takes (not-true _ apart) fit;
      }
  entered made p b w kids rest a s fit h = let same : tag_at b f ≡ tag.Other = ap (λ o. tag_or_other (option_and_then name_in o)) s.what in
      record {
        below = λ _. below_element p b tag.Other a (place_in content.Empty texts.None a) s.other same (enter_other a);
        back = ap (λ u. marked u false (marked u true a)) same;
      }

  -- a walk over the trees of a region finds whether they are content, and what is around them is as before
  tests_trees : (made p : ℕ) (g : Forest ℕ) → Seen made f root p g → (a : Around) → fits (content_in p a.in_phrasing) a.in_phrasing ≡ true
      → walked enters leaves Region g (Some a) ≡ cond (are_region_content (place p a) (mapped spelling g)) (Some a) None
  tests_trees made p none s a fit = refl
  tests_trees made p (tree b w kids rest) s a fit =
      let own = is_plain_node (place p a) (mapped_what spelling w) (mapped spelling kids) (mapped spelling rest) in
      let within = marked (tag_at b f) true a in let again = entered made p b w kids rest a s.0 fit in
      let first : enters b (Some a) ≡ cond own (Some within) None = rw (s.0.parent, placed p a, tested made p b w kids rest s.0 s.1 s.2 (place p a)) refl in
      ap (λ u. walked enters leaves Region rest (leaves b (cond u (walked enters leaves Region kids (enters b (Some a))) (enters b (Some a))))) (goes w)
      ∙ node-finds (after_visit spelling f root top) Region (begins w) b kids rest a within own
      (are_region_content (without_form (inside_node (mapped_what spelling w) (place p a))) (mapped spelling kids))
      (are_region_content (place p a) (mapped spelling rest)) first (λ bare plain. let at = (again plain).below bare in
      tests_trees made b kids s.1 within at.1 ∙ ap (λ i. cond (are_region_content i (mapped spelling kids)) (Some within) None) at.0)
      (λ plain. ap (λ x. Some x) (again plain).back) (tests_trees made p rest s.2 a fit)

not_phrasing : (c : Content) → is_phrasing c ≡ false → fits c false ≡ true
not_phrasing c h = grind arith

-- what is left of a walk finds whether the region is content
abbrev pub IsTesting : (names : Texts) (f : Forest ℕ) (root : ℕ) (top : Content) → Around → List Visit → Type 0
IsTesting names f root top = Finds (after_visit (text_of names) f root top) (are_region_content (in_region top) (mapped (text_of names) (children_of root f)))

pub begun : (names : Texts) (made : ℕ) (f : Forest ℕ) (root : ℕ) (top : Content) (left items : List Visit) → AreNames names → AreCounted made f → root < made
    → is_phrasing top ≡ false → left ≡ items → items ≡ visits Region (children_of root f) → IsTesting names f root top alone left
begun names made f root top left items table counted h other same visited =
    finds-all (after_visit (text_of names) f root top) Region (children_of root f) _ alone left items same visited
    (rw (eq-eqb root root refl) at (tests_trees (text_of names) (tags-agree names table) f root top made root (children_of root f)
    (seen made f counted root h) alone (rw (eq-eqb root root refl) (not_phrasing top other))))
