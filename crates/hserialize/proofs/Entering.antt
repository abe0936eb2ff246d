-- What is around the children of an element, and around the element once it is left.
use Rattle.hserialize.proofs.Names.{◌≡◌, Bool, true, false, not, cond, refl, sym, ◌∙◌, ap, subst, not-true, false≢true, arith, ◌||◌, Tag, row, takes_role, texts_in, Inside, is_nested, inside_element, inserts_marker, in_region, without_form, content_among, is_phrasing, marked, Around, Content, is_button, is_a, content_within, Role}
use Rattle.names.specs.declared.tag.Tag.TheVariants as tag
use Rattle.hserialize.specs.declared.content.Content.TheVariants as content
use Rattle.hserialize.specs.declared.content.Role.TheVariants as role
use Rattle.hserialize.specs.declared.content.Texts.{Texts}
use Rattle.hserialize.specs.declared.content.Texts.TheVariants as texts

-- phrasing content is in an element that takes phrasing elements alone, and content of other elements is not
abbrev pub fits : Content → Bool → Bool
fits content.Phrasing u = u
fits content.Flow u = not u
fits content.ListItems u = not u
fits content.Definitions u = not u
fits content.TableParts u = not u
fits content.Columns u = not u
fits content.TableRows u = not u
fits content.Cells u = not u
fits _ u = true

-- phrasing elements, and no others, have what is around them; but for those that insert a marker, whose content is flow, they
-- have no content of their own that takes elements
abbrev is_inline : Content → Bool
is_inline content.Around = true
is_inline content.Text = true
is_inline content.RawText = true
is_inline content.ScriptText = true
is_inline content.Empty = true
is_inline _ = false

abbrev has_own : Content → Bool
has_own content.Around = false
has_own _ = true

abbrev is_flow : Content → Bool
is_flow content.Flow = true
is_flow _ = false

abbrev agrees : (marks : Bool) → Role → Content → Bool
agrees true _ c = is_flow c
agrees false role.Phrasing c = is_inline c
agrees false _ c = has_own c

rows_agree : (t : Tag) → agrees (inserts_marker t) (row t).0 (row t).1 ≡ true
rows_agree tag.A = refl
rows_agree _ = refl

-- an element of content c that inserts no marker, where C is around it
record IsInner (C c : Content) (u : Bool) : Type 0 where
  own : content_among (cond (is_phrasing c) true u) c ≡ content_within C c
  fit : fits (content_within C c) (cond (is_phrasing c) true u) ≡ true
  back : cond (is_phrasing c) false (cond (is_phrasing c) true u) ≡ u

in_flow : (c : Content) → IsInner content.Flow c false
in_flow content.Around = record { own = refl; fit = refl; back = refl }
in_flow _ = record { own = refl; fit = refl; back = refl }

in_phrasing : (c : Content) → is_inline c ≡ true → IsInner content.Phrasing c true
in_phrasing content.Around h = record { own = refl; fit = refl; back = refl }
in_phrasing _ h = record { own = cc; fit = cc; back = cc }

in_other : (C c : Content) → has_own c ≡ true → IsInner C c false
in_other C content.Around h = absurd (false≢true h)
in_other C _ h = record { own = refl; fit = refl; back = refl }

inner : (C : Content) (r : Role) (c : Content) (u : Bool) → agrees false r c ≡ true → takes_role C r ≡ true → fits C u ≡ true → IsInner C c u
inner content.Flow r c u a h f = subst (IsInner content.Flow c) (sym (not-true u f)) (in_flow c)
inner content.Phrasing role.Phrasing c u a h f = subst (IsInner content.Phrasing c) (sym f) (in_phrasing c a)
inner content.ListItems role.ListItem c u a h f = subst (IsInner content.ListItems c) (sym (not-true u f)) (in_other content.ListItems c a)
inner content.Definitions role.Definition c u a h f = subst (IsInner content.Definitions c) (sym (not-true u f)) (in_other content.Definitions c a)
inner content.TableParts role.TablePart c u a h f = subst (IsInner content.TableParts c) (sym (not-true u f)) (in_other content.TableParts c a)
inner content.Columns role.Column c u a h f = subst (IsInner content.Columns c) (sym (not-true u f)) (in_other content.Columns c a)
inner content.TableRows role.TableRow c u a h f = subst (IsInner content.TableRows c) (sym (not-true u f)) (in_other content.TableRows c a)
inner content.Cells role.Cell c u a h f = subst (IsInner content.Cells c) (sym (not-true u f)) (in_other content.Cells c a)
inner _ _ c u a h f = absurd (false≢true h)

left_back : (m : Bool) (C : Content) (r : Role) (c : Content) (u : Bool) → agrees m r c ≡ true → takes_role C r ≡ true → fits C u ≡ true
    → cond (is_phrasing c) false (cond (is_phrasing c) true u) ≡ u
left_back true C r content.Flow u a h f = refl
left_back true C r _ u a h f = absurd (false≢true a)
left_back false C r c u a h f = (inner C r c u a h f).back

-- a list in this content with these texts, wherever forms are
abbrev pub place_in : Content → Texts → Around → Inside
place_in c t a = record { content = c; texts = t; in_a = a.in_a; in_button = a.in_button; in_form = false }

-- the children of an element of this name
abbrev pub place_below : Tag → Around → Inside
place_below t a = let own = content_among a.in_phrasing (row t).1 in place_in own (texts_in own) a

-- where the children of an element that inserts no marker are
pub record IsEntered (t : Tag) (inside : Inside) (a : Around) : Type 0 where
  pub below : place_below t (marked t true a) ≡ inside
  pub fit : fits (content_among (marked t true a).in_phrasing (row t).1) (marked t true a).in_phrasing ≡ true

set : (v x : Bool) → cond v true x ≡ (x || v)
set v x = grind (arith)

-- what an element marks is left again where it was not marked before
again : (v : Bool) (a : Around) → (v ≡ true → a.in_phrasing ≡ false)
    → cond v (record (cond v (record a { in_phrasing = true }) a) { in_phrasing = false }) (cond v (record a { in_phrasing = true }) a) ≡ a
again true a h = λ i. record a { in_phrasing = sym (h refl) i }
again false a h = refl

marks : (t : Tag) (a : Around) → marked t true a ≡ record
    { in_a = cond (is_a t) true a.in_a; in_button = cond (is_button t) true a.in_button; in_phrasing = cond (is_phrasing (row t).1) true a.in_phrasing }
marks tag.A a = refl
marks _ a = refl

-- what is around an element that is plain is around what comes after it too
pub left_again : (t : Tag) (c : Content) (allowed : Texts) (a : Around) → takes_role c (row t).0 ≡ true → is_nested (place_in c allowed a) t ≡ false
    → fits c a.in_phrasing ≡ true → marked t false (marked t true a) ≡ a
left_again tag.A c allowed a takes nested fit = λ i. record a { in_a = sym nested i }
left_again tag.Button c allowed a takes nested fit = λ i. record a { in_button = sym nested i }
left_again t c allowed a takes nested fit = again (is_phrasing (row t).1) a
    (λ e. sym (subst (λ v. cond v false (cond v true a.in_phrasing) ≡ a.in_phrasing) e
    (left_back (inserts_marker t) c (row t).0 (row t).1 a.in_phrasing (rows_agree t) takes fit)))

pub enter_element : (t : Tag) (c : Content) (allowed : Texts) (a : Around) → inserts_marker t ≡ false → takes_role c (row t).0 ≡ true
    → fits c a.in_phrasing ≡ true → IsEntered t (without_form (inside_element t (place_in c allowed a))) a
enter_element t c allowed a no_marker takes fit =
    let p = inner c (row t).0 (row t).1 a.in_phrasing (subst (λ m. agrees m (row t).0 (row t).1 ≡ true) no_marker (rows_agree t)) takes fit in
    rw no_marker (record {
      below = ap (place_below t) (marks t a) ∙ (λ i.
          record { content = p.own i; texts = texts_in (p.own i); in_a = set (is_a t) a.in_a i; in_button = set (is_button t) a.in_button i; in_form = false });
      fit = ap (λ m. fits (content_among m.in_phrasing (row t).1) m.in_phrasing) (marks t a)
          ∙ ap (λ k. fits k (cond (is_phrasing (row t).1) true a.in_phrasing)) p.own ∙ p.fit;
    })

-- an element that inserts a marker begins a region of flow
pub enters_region : (t : Tag) (inside : Inside) → inserts_marker t ≡ true → without_form (inside_element t inside) ≡ in_region content.Flow
enters_region tag.Caption inside h = refl
enters_region tag.Td inside h = refl
enters_region tag.Th inside h = refl
enters_region tag.Object inside h = refl
enters_region tag.Marquee inside h = refl
enters_region _ inside h = absurd (false≢true h)

-- a node that is no element
pub enter_other : (a : Around) → IsEntered tag.Other (place_in content.Empty texts.None a) a
enter_other a = record { below = refl; fit = refl }
