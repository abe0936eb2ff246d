-- Programs that never have the token go again, save no mode and adopt nothing: what refuses them is a limit, and no node is lost.
use Rattle.hmodes.proofs.Vocabulary.{cond_both, ◌≡◌, inl, inr, ℕ, zero, suc, Bool, true, false, leb, List, [], Option, Some, None, refl, length, is_none, ◌&&◌, option_map_or, Attribute, What, element, text_before, Place, LastIn, before, OpenNode, EntryOf, entry_at, TooManyNodes, Naming, Outcome, Goes, SiteOf, and_then, stack, trees, from_top, open_node, place, made, added, inserted, with_open, stops_going_back, renewed, renewed_each, Do, ◌▸◌, when, unless, choose, fostered, each_pending, again, again_as, save_mode, insert, insert_named, insert_root, insert_root_named, insert_comment, comment_in_document, comment_in_first, insert_doctype, put, push_head, reconstruct, adopt, adopt_listed, Token, State, Flow, token_name, token_attrs, token_text, token_char, doctype_node, perform, flow_of, head_pushed, current_node, IsLimit, ◌≤◌, cond, arith, char_into, TreeInBody, is, is_named, in_scope, without_implied, error_unless, current_is, close_p, is_special}
use Rattle.hnodes.specs.Forest as forest
use Rattle.names.specs.declared.tag.Tag.TheVariants as tag
use Rattle.hadopt.specs.Site as site
use Rattle.hadopt.specs.Inserts as inserts
use Rattle.hadopt.specs.Closes.{other_end}
use Rattle.hmodes.specs.Words as word
use Rattle.hmodes.proofs.Programs.{Comes, SiteComes, each_word, is_word, perform-comes}
use Rattle.hmodes.proofs.Every.{never}

abbrev mild_word : Bool → Do → Bool
mild_word v again = false
mild_word v (again_as x) = false
mild_word v save_mode = false
mild_word v adopt = false
mild_word v adopt_listed = false
mild_word v _ = true

abbrev pub is_mild : Do → Bool
is_mild = each_word mild_word true

module _ {N : Type 0} (k : ℕ) where
  -- an operation that only a limit refuses, after which at least this many nodes were made
  abbrev Limited : Outcome (SiteOf N) → Type 0
  Limited = SiteComes (λ x. k ≤ x.nodes.made) IsLimit

  limited-then : (o : Outcome (SiteOf N)) (f : SiteOf N → Outcome (SiteOf N)) → Limited o → ((x : SiteOf N) → k ≤ x.nodes.made → Limited (f x))
      → Limited (and_then o f)
  limited-then (Goes x) f h g = g x h
  limited-then (site.Refused r) f h g = h

  limited-added : (at : ℕ) (w : What N) (p : Place) (s : SiteOf N) → k ≤ s.nodes.made → Limited (added at w p s)
  limited-added at w p s h = limited-then (made at w s) _
      (cond_both (leb s.nodes.limit s.nodes.made) _ _ Limited (λ _. (at, inl refl)) (λ _. omega (arith, h))) (λ t g. g)

  limited-pushed : (at : ℕ) (x : OpenNode N) (s : SiteOf N) → k ≤ s.nodes.made → Limited (with_open at x s)
  limited-pushed at x s h = cond_both (leb s.open_nodes.limit (length (stack s))) _ _ Limited (λ _. (at, inr refl)) (λ _. h)

  limited-inserted : (at : ℕ) (name : N) (attrs : List (Attribute N)) (p : Place) (s : SiteOf N) → k ≤ s.nodes.made → Limited (inserted at name attrs p s)
  limited-inserted at name attrs p s h = limited-then (added at (element name attrs) p s) (with_open at (record { node = s.nodes.made; name = name }))
      (limited-added at (element name attrs) p s h) (limited-pushed at (record { node = s.nodes.made; name = name }))

  limited-put : (at c : ℕ) (p : Place) (s : SiteOf N) → k ≤ s.nodes.made → Limited (inserts.put at c p s)
  limited-put at c p s h = go (text_before p (trees s)) (is_none (text_before p (trees s)) && leb s.nodes.limit s.nodes.made) where
    go : (o : Option ℕ) (v : Bool) → Limited (cond v (site.Refused (TooManyNodes at)) (Goes (record s { nodes = char_into c p o s.nodes })))
    go o true = (at, inl refl)
    go None false = omega (arith, h)
    go (Some n) false = h

  module _ (n : Naming N) (at : ℕ) where
    limited-head : (o : Option ℕ) (s : SiteOf N) → k ≤ s.nodes.made → Limited (head_pushed n at o s)
    limited-head None s h = h
    limited-head (Some x) s h = limited-pushed at (record { node = x; name = n.known tag.Head }) s h

    limited-renewed : (back : ℕ) (o : Option (EntryOf N)) (s : SiteOf N) → k ≤ s.nodes.made → Limited (option_map_or (λ e. renewed n at back e s) o (Goes s))
    limited-renewed back None s h = h
    limited-renewed back (Some e) s h =
        limited-then (inserted at e.name e.attrs (place n s) s) _ (limited-inserted at e.name e.attrs (place n s) s h) (λ t g. g)

    limited-each : (back : ℕ) (s : SiteOf N) → k ≤ s.nodes.made → Limited (renewed_each n at back s)
    limited-each zero s h = h
    limited-each (suc back) s h = limited-then (option_map_or (λ e. renewed n at back e s) (entry_at back s.items) (Goes s)) (renewed_each n at back)
        (limited-renewed back (entry_at back s.items) s h) (limited-each back)

    pub error-made : (v : Bool) (s : SiteOf N) → k ≤ s.nodes.made → k ≤ (error_unless v TreeInBody at s).nodes.made
    error-made true s h = h
    error-made false s h = h

    pub other-made : (name : N) (s : SiteOf N) → k ≤ s.nodes.made → k ≤ (other_end n at name s).nodes.made
    other-made name s h = let t = without_implied n (is_named n.same name) s in
        cond_both (in_scope (λ x. is_special (n.tag x.name)) (is_named n.same name) (stack s)) _ _ (λ (x : SiteOf N). k ≤ x.nodes.made)
        (λ _. error-made (current_is (is_named n.same name) t) t h) (λ _. h)

module _ {N : Type 0} where
  -- the saved mode is as it was, and no node was lost
  abbrev Calm : State N → State N → Type 0
  Calm s v = (v.control.saved ≡ s.control.saved) × (s.site.nodes.made ≤ v.site.nodes.made)

  -- it ends so, or a limit refuses it
  abbrev pub Mild : State N → Flow N → Type 0
  Mild s = Comes (Calm s) (λ t v. ⊥) IsLimit

module _ {N : Type 0} (n : Naming N) where
  module _ (first : State N) where
    on-site : (s : State N) (o : Outcome (SiteOf N)) → Calm first s → Limited first.site.nodes.made o → Mild first (flow_of s o)
    on-site s (Goes x) h g = (h.0, g)
    on-site s (site.Refused r) h g = g

    pub mild : (v : Bool) (p : Do) → is_word p ≡ true → mild_word v p ≡ true → (at : ℕ) (t : Token N) (s : State N) → Calm first s
        → Mild first (perform n at t p s)
    mild v insert w e at t s h = on-site s _ h (limited-inserted _ at (token_name n t) (token_attrs t) (place n s.site) s.site h.1)
    mild v (insert_named x) w e at t s h = on-site s _ h (limited-inserted _ at (n.known x) [] (place n s.site) s.site h.1)
    mild v insert_root w e at t s h = on-site s _ h (limited-inserted _ at (token_name n t) (token_attrs t) (LastIn 0) s.site h.1)
    mild v (insert_root_named x) w e at t s h = on-site s _ h (limited-inserted _ at (n.known x) [] (LastIn 0) s.site h.1)
    mild v insert_comment w e at t s h = on-site s _ h (limited-added _ at (forest.comment (token_text t)) (LastIn (current_node s.site)) s.site h.1)
    mild v comment_in_document w e at t s h = on-site s _ h (limited-added _ at (forest.comment (token_text t)) (LastIn 0) s.site h.1)
    mild v comment_in_first w e at t s h =
        on-site s _ h (limited-added _ at (forest.comment (token_text t)) (LastIn (open_node (from_top 0 s.site))) s.site h.1)
    mild v insert_doctype w e at t s h = on-site s _ h (limited-added _ at (doctype_node t) (LastIn 0) s.site h.1)
    mild v put w e at t s h = on-site s _ h (limited-put _ at (token_char t) (place n s.site) s.site h.1)
    mild v push_head w e at t s h = on-site s _ h (limited-head _ n at s.control.head s.site h.1)
    mild v reconstruct w e at t s h = on-site s _ h (limited-each _ n at (length (before (stops_going_back s.site) s.site.items)) s.site h.1)
    mild v close_p w e at t s h =
        (h.0, error-made _ n at (current_is (is n tag.P) (without_implied n (is n tag.P) s.site)) (without_implied n (is n tag.P) s.site) h.1)
    mild v word.other_end w e at t s h = (h.0, other-made _ n at (token_name n t) s.site h.1)
    mild v again w e at t s h = never e
    mild v (again_as x) w e at t s h = never e
    mild v save_mode w e at t s h = never e
    mild v adopt w e at t s h = never e
    mild v adopt_listed w e at t s h = never e
    mild v (p ▸ q) w e at t s h = never w
    mild v (when question p) w e at t s h = never w
    mild v (unless question p) w e at t s h = never w
    mild v (choose question p q) w e at t s h = never w
    mild v (fostered p) w e at t s h = never w
    mild v (each_pending p) w e at t s h = never w
    mild v p w e at t s h = h

  pub perform-mild : (p : Do) → is_mild p ≡ true → (at : ℕ) (t : Token N) (s : State N) → Mild s (perform n at t p s)
  perform-mild p e at t s =
      perform-comes n mild_word (λ v u. Unit {0}) (Calm s) (λ u v. ⊥) IsLimit (λ c. tt) (λ v u h. h) (λ u v a. a) (λ u h. h)
      (λ v q w i k u _ x h. mild s v q w i k u x h) true p e at t tt s (refl, omega arith)
