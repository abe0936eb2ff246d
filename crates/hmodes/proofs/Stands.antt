-- Every rule keeps what the open nodes need: they are in the document's tree, each outside of those below it.
use Rattle.hmodes.proofs.Vocabulary.{raw, void, by_test, cond_both, ◌≡◌, ℕ, ◌<◌, Bool, true, false, cond, leb, List, [], Option, Some, None, refl, subst, length, ◌&&◌, ◌||◌, ◌==◌, option_map_or, is_node, EntryOf, Listed, find_entry, without_entry, with_room, Tag, is_space, Naming, Outcome, SiteOf, stack, trees, with_error, from_top, open_node, place, is, adopted, Each, TellsTables, deep, OnGoes, goes-then, Plain, PlainEntries, plain-cleared, plain-without, Well, among-past, among-drop, fewer, listed-as, erred, closed-well, other-well, adopted-well, missing-well, first-fits, here-fits, root-fits, place-fits, added-well, inserted-well, put-well, reconstructed-well, Mode, AfterHead, family_of, TokenKind, Nul, Ws, Char, Start, Do, ◌▸◌, error, insert, insert_named, insert_root, insert_root_named, insert_comment, comment_in_document, comment_in_first, insert_doctype, put, add_missing_to_first, add_missing_to_second, pop, pop_to, pop_to_name, pop_to_group, implied, implied_except, implied_except_name, clear_to_table, clear_to_body, clear_to_row, push_head, remove_head, remove_form, reconstruct, push_to_list, clear_to_marker, close_p, adopt, adopt_listed, other_end, Token, character, start, State, Flow, kind_of, token_name, token_attrs, token_text, token_char, doctype_node, perform, with_site, flow_of, removed, forgotten, current_node, adopted_listed, head_pushed, rule_of, mode_error, Rule, after_head, late, Html, among-all, among-after, among-without, among-room, each-among, entries}
use Rattle.hnodes.specs.Forest as forest
use Rattle.names.specs.declared.tag.Tag.TheVariants as tag
use Rattle.hadopt.specs.Site as site
use Rattle.hmodes.specs.declared.family.Family.TheVariants as family
use Rattle.hmodes.specs.Words.{marker}
use Rattle.hmodes.proofs.Every.{never, both, in-each}
use Rattle.hmodes.proofs.Programs.{Comes, comes-then, comes-site, each_word, is_word, perform-comes}

-- a program opens the head again nowhere, and lists the current node only where it may
abbrev tame_word : (may_list is_token : Bool) → Do → Bool
tame_word v w push_head = false
tame_word v w push_to_list = v && w
tame_word v w _ = true

abbrev pub tame : (may_list : Bool) → Do → Bool
tame v = each_word (tame_word v) true

-- the tags that are listed
abbrev may_list : TokenKind → Bool
may_list (Start family.A) = true
may_list (Start family.Formatting) = true
may_list (Start family.Nobr) = true
may_list _ = false

module _ {N : Type 0} (n : Naming N) where
  abbrev pub FlowWell : Flow N → Type 0
  FlowWell = Comes (λ s. Well n s.site) (λ t s. Well n s.site) (λ r. Unit {0})

  on-site : (s : State N) (o : Outcome (SiteOf N)) → OnGoes (Well n) o → FlowWell (flow_of s o)
  on-site = comes-site (λ s. Well n s.site) (λ t s. Well n s.site) (λ r. Unit {0})

  flagged : (v : Bool) (s : SiteOf N) → Well n s → Well n (record s { foster = v })
  flagged v s h = record { counted = h.counted; each = h.each; order = h.order; plain = h.plain }

  removed-well : (o : Option ℕ) (s : SiteOf N) → Well n s → Well n (removed o s)
  removed-well None s h = fewer n s (stack s) (among-all (stack s)) h
  removed-well (Some k) s h = fewer n s _ (among-without (is_node k) (stack s)) h

  plain-room : (e : EntryOf N) (items : List (Listed N)) → PlainEntries n items → PlainEntries n (with_room n.same e items)
  plain-room e items h = each-among (λ d. Plain n d.name) (entries (with_room n.same e items)) (entries items) (among-room n.same e items) h

  module _ (tells : TellsTables n) where
    adopted-listed-well : (at : ℕ) (name : N) (s : SiteOf N) → Well n s → OnGoes (Well n) (adopted_listed n at name s)
    adopted-listed-well at name s h =
        goes-then (Well n) (Well n) (adopted n at name s) _ (adopted-well n tells at name s h) (λ y k. go y k (find_entry n.same name s.items)) where
          go : (y : SiteOf N) → Well n y → (o : Option (EntryOf N)) → Well n (option_map_or (λ e. forgotten e.node y) o y)
          go y k None = k
          go y k (Some e) =
              listed-as n (removed (Some e.node) y) (without_entry e.node y.items) (plain-without n e.node y.items k.plain) (removed-well (Some e.node) y k)

    well-word : (v w : Bool) (p : Do) → is_word p ≡ true → tame_word v w p ≡ true → (at : ℕ) (t : Token N) → (v ≡ true → w ≡ true → Plain n (token_name n t))
        → (s : State N) → Well n s.site → FlowWell (perform n at t p s)
    well-word v w (error m) i calm at t name s h = erred n s.site _ at h
    well-word v w insert i calm at t name s h = on-site s _ (inserted-well n at (token_name n t) (token_attrs t) _ s.site h (place-fits n _ s.site h))
    well-word v w (insert_named x) i calm at t name s h = on-site s _ (inserted-well n at (n.known x) [] _ s.site h (place-fits n _ s.site h))
    well-word v w insert_root i calm at t name s h = on-site s _ (inserted-well n at (token_name n t) (token_attrs t) _ s.site h (root-fits n _ s.site h))
    well-word v w (insert_root_named x) i calm at t name s h = on-site s _ (inserted-well n at (n.known x) [] _ s.site h (root-fits n _ s.site h))
    well-word v w insert_comment i calm at t name s h = on-site s _ (added-well n (forest.comment (token_text t)) s.site h _ (here-fits n _ s.site h) at)
    well-word v w comment_in_document i calm at t name s h = on-site s _ (added-well n (forest.comment (token_text t)) s.site h _ (root-fits n _ s.site h) at)
    well-word v w comment_in_first i calm at t name s h = on-site s _ (added-well n (forest.comment (token_text t)) s.site h _ (first-fits n _ s.site h) at)
    well-word v w insert_doctype i calm at t name s h = on-site s _ (added-well n (doctype_node t) s.site h _ (root-fits n _ s.site h) at)
    well-word v w put i calm at t name s h = on-site s _ (put-well n at (token_char t) (place n s.site) s.site h (place-fits n _ s.site h))
    well-word v w add_missing_to_first i calm at t name s h = missing-well n (open_node (from_top 0 s.site)) (token_attrs t) s.site h
    well-word v w add_missing_to_second i calm at t name s h = missing-well n (open_node (from_top 1 s.site)) (token_attrs t) s.site h
    well-word v w pop i calm at t name s h = fewer n s.site _ (among-drop (stack s.site)) h
    well-word v w (pop_to x) i calm at t name s h = fewer n s.site _ (among-after _ (stack s.site)) h
    well-word v w pop_to_name i calm at t name s h = fewer n s.site _ (among-after _ (stack s.site)) h
    well-word v w (pop_to_group group) i calm at t name s h = fewer n s.site _ (among-after _ (stack s.site)) h
    well-word v w implied i calm at t name s h = fewer n s.site _ (among-past _ (stack s.site)) h
    well-word v w (implied_except x) i calm at t name s h = fewer n s.site _ (among-past _ (stack s.site)) h
    well-word v w implied_except_name i calm at t name s h = fewer n s.site _ (among-past _ (stack s.site)) h
    well-word v w clear_to_table i calm at t name s h = fewer n s.site _ (among-past _ (stack s.site)) h
    well-word v w clear_to_body i calm at t name s h = fewer n s.site _ (among-past _ (stack s.site)) h
    well-word v w clear_to_row i calm at t name s h = fewer n s.site _ (among-past _ (stack s.site)) h
    well-word v w remove_head i calm at t name s h = removed-well s.control.head s.site h
    well-word v w remove_form i calm at t name s h = removed-well s.control.form s.site h
    well-word v w reconstruct i calm at t name s h = on-site s _ (reconstructed-well n at s.site h)
    well-word v w push_to_list i calm at t name s h = let so = both v w calm in
        let plain = plain-room (record { node = current_node s.site; name = token_name n t; attrs = token_attrs t }) s.site.items h.plain in
        listed-as n s.site _ (name so.0 so.1, plain) h
    well-word v w marker i calm at t name s h = listed-as n s.site _ h.plain h
    well-word v w clear_to_marker i calm at t name s h = listed-as n s.site _ (plain-cleared n s.site.items h.plain) h
    well-word v w close_p i calm at t name s h = closed-well n at (is n tag.P) s.site h
    well-word v w adopt i calm at t name s h = on-site s _ (adopted-well n tells at (token_name n t) s.site h)
    well-word v w adopt_listed i calm at t name s h = on-site s _ (adopted-listed-well at (token_name n t) s.site h)
    well-word v w other_end i calm at t name s h = other-well n at (token_name n t) s.site h
    well-word v w p i calm at t name s h = first_of (cc, assumption)

    pub perform-well : (v : Bool) (p : Do) → tame v p ≡ true → (at : ℕ) (t : Token N) → (v ≡ true → Plain n (token_name n t)) → (s : State N) → Well n s.site
        → FlowWell (perform n at t p s)
    perform-well v p calm at t name =
        perform-comes n (tame_word v) (λ w u. v ≡ true → w ≡ true → Plain n (token_name n u)) (λ s. Well n s.site) (λ u s. Well n s.site) (λ r. Unit {0})
        (λ c _ e. never e) (λ w s h. flagged w s.site h) (λ u s h. flagged false s.site h) (λ s h. h) (well-word v) true p calm at t (λ e _. name e)

-- what is late in the head
abbrev is_late : TokenKind → Bool
is_late (Start family.Base) = true
is_late (Start family.HeadVoid) = true
is_late (Start family.Noframes) = true
is_late (Start family.Script) = true
is_late (Start family.Style) = true
is_late (Start family.Title) = true
is_late _ = false

-- whether a rule opens the head again
abbrev opens_head : Mode → TokenKind → Bool
opens_head AfterHead k = is_late k
opens_head _ k = false

-- none of them is for a table
list-plain : (x : Tag) → may_list (Start (family_of x)) ≡ true → x ≡ tag.Table → ⊥
list-plain x may is = let clash : may_list (Start (family_of tag.Table)) ≡ true = subst (λ (y : Tag). may_list (Start (family_of y)) ≡ true) is may in cc

module _ {N : Type 0} (n : Naming N) (tells : TellsTables n) where
  plain-token : (t : Token N) → may_list (kind_of n t) ≡ true → Plain n (token_name n t)
  plain-token (start x attrs closing) may =
      by_test (n.same x (n.known tag.Table)) (λ v. v ≡ false) (λ e. absurd (list-plain (n.tag x) may (tells x e))) (λ e. refl)
  plain-token (character c) may = go (c == 0) (is_space c) may where
    go : (u v : Bool) → may_list (cond u Nul (cond v Ws Char)) ≡ true → Plain n (n.known Html)
    go true v e = never e
    go false true e = never e
    go false false e = never e
  plain-token t may = never may

  -- what a rule that opens the head again asks: the head is in the document's tree, and no open node is inside it
  pub record HeadIsOut (h : ℕ) (s : SiteOf N) : Type 0 where
    pub stands : (0 < deep h 0 (trees s)) × (0 < h)
    pub out : Each (λ x. deep x.node h (trees s) ≡ 0) (stack s)

  abbrev pub HeadOut : State N → Type 0
  HeadOut s = (h : ℕ) → s.control.head ≡ Some h → HeadIsOut h s.site

  pub head-pushed-well : (at : ℕ) (o : Option ℕ) (s : SiteOf N) → ((h : ℕ) → o ≡ Some h → HeadIsOut h s) → Well n s → OnGoes (Well n) (head_pushed n at o s)
  head-pushed-well at None s out k = k
  head-pushed-well at (Some h) s out k = cond_both (leb s.open_nodes.limit (length (stack s))) _ _ (OnGoes (Well n)) (λ _. tt)
      (λ _. let o = out h refl in record { counted = k.counted; each = (o.stands, k.each); order = (o.out, k.order); plain = k.plain })

  late-well : (p : Do) → tame false p ≡ true → (at : ℕ) (t : Token N) (s : State N) → HeadOut s → Well n s.site → FlowWell n (perform n at t (late p) s)
  late-well p calm at t s out h = comes-then (λ u. Well n u.site) (λ u. Well n u.site) (λ u v. Well n v.site) (λ r. Unit {0})
      (perform n at t push_head (with_site (with_error (mode_error AfterHead) at s.site) s)) (perform n at t (p ▸ remove_head))
      (on-site n (with_site (with_error (mode_error AfterHead) at s.site) s) _ (head-pushed-well at s.control.head (with_error (mode_error AfterHead) at s.site)
      (λ h' e. let o = out h' e in record { stands = o.stands; out = o.out }) (erred n s.site (mode_error AfterHead) at h)))
      (λ u m. perform-well n tells false (p ▸ remove_head) (rw calm refl) at t (λ e. cc) u m)

  -- what is late is late by name
  late-rule : (k : TokenKind) → is_late k ≡ true → (at : ℕ) (t : Token N) (s : State N) → HeadOut s → Well n s.site
      → FlowWell n (perform n at t (after_head k) s)
  late-rule (Start family.Base) e = late-well void refl
  late-rule (Start family.HeadVoid) e = late-well void refl
  late-rule (Start family.Noframes) e = late-well raw refl
  late-rule (Start family.Script) e = late-well raw refl
  late-rule (Start family.Style) e = late-well raw refl
  late-rule (Start family.Title) e = late-well raw refl
  late-rule _ e = never e

  -- every rule keeps it
  pub rule-well : (at : ℕ) (t : Token N) (s : State N) → (s.control.mode ≡ AfterHead → HeadOut s) → Well n s.site → FlowWell n (Rule n at t s)
  rule-well at t s out h = go s.control.mode refl (opens_head s.control.mode (kind_of n t)) refl
      (in-each (λ m k. opens_head m k || tame (may_list k) (rule_of m k)) refl s.control.mode (kind_of n t)) where
        go : (m : Mode) → s.control.mode ≡ m → (v : Bool) → opens_head m (kind_of n t) ≡ v
            → (v || tame (may_list (kind_of n t)) (rule_of m (kind_of n t))) ≡ true → FlowWell n (perform n at t (rule_of m (kind_of n t)) s)
        go m is false e calm = perform-well n tells (may_list (kind_of n t)) (rule_of m (kind_of n t)) calm at t (plain-token t) s h
        go AfterHead is true e calm = late-rule (kind_of n t) e at t s (out is) h
        go _ is true e calm = never e
