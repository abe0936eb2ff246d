-- A start tag of a raw kind leads to the mode "text", by a test on the programs of each mode.
use Rattle.hmodes.proofs.Vocabulary.{cond_both, ◌≡◌, ◌≢◌, ◌⊎◌, inl, inr, ℕ, ◌<◌, Bool, true, false, not, leb, List, ◌∷◌, Option, Some, None, refl, sym, ◌∙◌, ap, subst, arith, length, ◌&&◌, ◌||◌, IfSome, ne_eqb, Attribute, OpenNode, current, Tag, Naming, Outcome, Goes, SiteOf, stack, with_error, OnGoes, Family, Mode, AfterHead, Text, InTableText, family_of, Do, Start, Char, ◌▸◌, choose, fostered, each_pending, again, TokenKind, to, to_saved, save_mode, insert, put, drop_lf, push_head, remove_head, pending_is_ws, raw, after_head, late, perform, with_foster, with_site, inserted_here, flow_of, head_pushed, removed, rule_of, mode_error, Token, start, Control, State, Flow, Done, Again, Refused, flow_then, flow_map, Rule, Chain, ends, refuses, goes_again, drops, goes, step_begun, finished, is_ended, IsLimit, Inserts, at_once, in_first, in_second, in_fostered, RulesInsert, by_rule, by_next, IsInText, ComesToText, RawFollows, place, in_table_text, other_in_table, inserted-goes, raw_kind, Title, Noframes, Style, Script, Textarea, Xmp, Iframe}
use Rattle.names.specs.declared.tag.Tag.TheVariants as tag
use Rattle.hadopt.specs.Site as site
use Rattle.hmodes.proofs.Mild.{is_mild, Mild, perform-mild}
use Rattle.hmodes.proofs.Facts.{is_texty}
use Rattle.hmodes.proofs.Between.{Tells, Orderly, orderly-head, orderly-begins, again-orderly, reached-orderly}
use Rattle.hmodes.proofs.Every.{never, both, other, in-each, by_outcome}

abbrev is_outside : Mode → Bool
is_outside Text = false
is_outside InTableText = false
is_outside _ = true

-- the programs that insert an element and go to text, at once or after others, or have the token go by rules outside of text
abbrev is_end : Do → Do → Bool
is_end insert (save_mode ▸ to Text) = true
is_end (insert ▸ (save_mode ▸ to Text)) drop_lf = true
is_end (to m) again = is_outside m
is_end _ _ = false

abbrev leads : Do → Bool
leads (p ▸ q) = is_end p q || (is_mild p && leads q)
leads (fostered p) = leads p
leads _ = false

-- the families of the names whose content is raw text
abbrev is_raw_family : Family → Bool
is_raw_family Title = true
is_raw_family Noframes = true
is_raw_family Style = true
is_raw_family Script = true
is_raw_family Textarea = true
is_raw_family Xmp = true
is_raw_family Iframe = true
is_raw_family _ = false

raw-family : (t : Tag) → is_ended (raw_kind t) ≡ true → is_raw_family (family_of t) ≡ true
raw-family tag.Title e = refl
raw-family _ e = cc

-- the rules of a mode, but those of what belongs in the head, after it, and those of text
abbrev is_ruled : Mode → Bool
is_ruled AfterHead = false
is_ruled m = is_outside m

abbrev ruled : Mode → TokenKind → Bool
ruled m (Start f) = not (is_ruled m && is_raw_family f) || leads (rule_of m (Start f))
ruled m k = true

either : (x y : Bool) → (x || y) ≡ true → (x ≡ true) ⊎ (y ≡ true)
either true y e = inl refl
either false y e = inr e

not-outside : (m inner : Mode) → is_outside m ≡ true → is_outside inner ≡ false → m ≢ inner
not-outside m inner e isnt is = let clash = sym e ∙ ap is_outside is ∙ isnt in cc

-- no raw text is being read, and none waits behind the text of a table
record IsOutsideText (c : Control) : Type 0 where
  mode : c.mode ≢ Text
  saved : c.mode ≡ InTableText → c.saved ≢ Text

module _ {N : Type 0} (n : Naming N) (at : ℕ) (name : N) (attrs : List (Attribute N)) (closing : Bool) where
  abbrev tag_token : Token N
  tag_token = start name attrs closing

  abbrev Ways : State N → State N → Type 0
  Ways s v = RulesInsert n at tag_token s v

  -- what comes of a rule, on the way from s0
  abbrev Leads : State N → Flow N → Type 0
  Leads s0 (Done s) = IsInText n at name attrs closing s0 s
  Leads s0 (Again t s) = (t ≡ tag_token) × IsOutsideText s.control
  Leads s0 (Refused r) = IsLimit r

  -- of a program that is on that way
  abbrev LeadsBy : State N → Do → State N → Type 0
  LeadsBy s0 p s = ((v : State N) → Inserts n at tag_token p s v → Ways s0 v) → Leads s0 (perform n at tag_token p s)

  after-mild : (s0 s : State N) (f : Flow N) (g : State N → Flow N) → Mild s f
      → ((v : State N) → f ≡ Done v → v.control.saved ≡ s.control.saved → Leads s0 (g v)) → Leads s0 (flow_then f g)
  after-mild s0 s (Done v) g m h = h v refl m.0
  after-mild s0 s (Again t v) g m h = absurd m
  after-mild s0 s (Refused r) g m h = m

  foster-off : (s0 : State N) (f : Flow N) → Leads s0 f → Leads s0 (flow_map (with_foster false) f)
  foster-off s0 (Done s) h = record
      { before = h.before; way = h.way; after = h.after; insertion = h.insertion; nodes_are = h.nodes_are; current_is = h.current_is; mode_is = h.mode_is }
  foster-off s0 (Again t s) h = h
  foster-off s0 (Refused r) h = h

  raw-leads : (s0 s : State N) → LeadsBy s0 raw s
  raw-leads s0 s on_way = by_outcome (inserted_here n at name attrs s.site)
      (λ o. Mild s (flow_of s o) → Leads s0 (flow_then (flow_of s o) (perform n at tag_token (save_mode ▸ to Text))))
      (λ x is m. record { before = s; way = on_way s (in_first at_once); after = x; insertion = is; nodes_are = refl; current_is = refl; mode_is = refl })
      (λ r is m. m) (perform-mild n insert refl at tag_token s)

  raw-drops : (s0 s : State N) → LeadsBy s0 (raw ▸ drop_lf) s
  raw-drops s0 s on_way = go (perform n at tag_token raw s) (raw-leads s0 s (λ v w. on_way v (in_first w))) where
    go : (f : Flow N) → Leads s0 f → Leads s0 (flow_then f (perform n at tag_token drop_lf))
    go (Done v) h = record
        { before = h.before; way = h.way; after = h.after; insertion = h.insertion; nodes_are = h.nodes_are; current_is = h.current_is; mode_is = h.mode_is }
    go (Again t v) h = h
    go (Refused r) h = h

  end-leads : (p q : Do) → is_end p q ≡ true → (s0 s : State N) → LeadsBy s0 (p ▸ q) s
  end-leads insert (save_mode ▸ to Text) e = raw-leads
  end-leads (insert ▸ (save_mode ▸ to Text)) drop_lf e = raw-drops
  end-leads (to m) again e = λ s0 s on_way. (refl, record { mode = not-outside m Text e refl; saved = λ i. absurd (not-outside m InTableText e refl i) })
  end-leads _ _ e = never e

  -- one after another, where what comes after leads
  then-leads : (p q : Do) (s0 s : State N) → (is_end p q ≡ true) ⊎ ((is_mild p && leads q) ≡ true) → (leads q ≡ true → (v : State N) → LeadsBy s0 q v)
      → LeadsBy s0 (p ▸ q) s
  then-leads p q s0 s (inl e) more = end-leads p q e s0 s
  then-leads p q s0 s (inr e) more = λ on_way.
      let parts = both (is_mild p) (leads q) e in
      after-mild s0 s (perform n at tag_token p s) (perform n at tag_token q) (perform-mild n p parts.0 at tag_token s)
      (λ v is same. more parts.1 v (λ u w. on_way u (in_second is w)))

  perform-leads : (p : Do) → leads p ≡ true → (s0 s : State N) → LeadsBy s0 p s
  perform-leads (p ▸ q) e s0 s = then-leads p q s0 s (either (is_end p q) (is_mild p && leads q) e) (λ h v. perform-leads q h s0 v)
  perform-leads (fostered p) e s0 s =
      λ on_way. foster-off s0 (perform n at tag_token p (with_foster true s)) (perform-leads p e s0 (with_foster true s) (λ v w. on_way v (in_fostered w)))
  perform-leads _ e s0 s = never e

  -- the head leaves the open nodes, and is not the one that was made after it
  head-leaves : (head : Option ℕ) (made : ℕ) (up : List (OpenNode N)) (y : SiteOf N) → ((h : ℕ) → head ≡ Some h → h < made)
      → stack y ≡ record { node = made; name = name } ∷ up → current (stack (removed head y)) ≡ current (stack y)
  head-leaves None made up y below top = refl
  head-leaves (Some h) made up y below top = rw (top, ne_eqb made h (λ e. let less = below h refl in omega (arith, less, e))) refl

  late-inserted : (s0 v : State N) → ((h : ℕ) → v.control.head ≡ Some h → h < v.site.nodes.made) → LeadsBy s0 (raw ▸ remove_head) v
  late-inserted s0 v below on_way = go (inserted_here n at name attrs v.site) refl
      (inserted-goes (λ y. stack y ≡ record { node = v.site.nodes.made; name = name } ∷ stack v.site) at name attrs (place n v.site) v.site refl)
      (perform-mild n insert refl at tag_token v) where
        go : (o : Outcome (SiteOf N)) → inserted_here n at name attrs v.site ≡ o
            → OnGoes (λ y. stack y ≡ record { node = v.site.nodes.made; name = name } ∷ stack v.site) o → Mild v (flow_of v o)
            → Leads s0 (flow_then (flow_then (flow_of v o) (perform n at tag_token (save_mode ▸ to Text))) (perform n at tag_token remove_head))
        go (Goes y) is top m = let way = on_way v (in_first (in_first at_once)) in
            let now = head-leaves v.control.head v.site.nodes.made (stack v.site) y below top in
            record { before = v; way = way; after = y; insertion = is; nodes_are = refl; current_is = now; mode_is = refl }
        go (site.Refused r) is top m = m

  late-leads : (s0 s : State N) → ((h : ℕ) → s.control.head ≡ Some h → h < s.site.nodes.made) → LeadsBy s0 (late raw) s
  late-leads s0 s below on_way =
      go (head_pushed n at s.control.head erred.site) refl (pushed-same s.control.head) (perform-mild n push_head refl at tag_token erred) where
        erred : State N
        erred = with_site (with_error (mode_error AfterHead) at s.site) s

        pushed-same : (head : Option ℕ) → OnGoes (λ x. x.nodes ≡ s.site.nodes) (head_pushed n at head erred.site)
        pushed-same None = refl
        pushed-same (Some h) =
            cond_both (leb s.site.open_nodes.limit (length (stack s.site))) _ _ (OnGoes (λ x. x.nodes ≡ s.site.nodes)) (λ _. tt) (λ _. refl)

        go : (o : Outcome (SiteOf N)) → head_pushed n at s.control.head erred.site ≡ o → OnGoes (λ x. x.nodes ≡ s.site.nodes) o → Mild erred (flow_of erred o)
            → Leads s0 (flow_then (flow_of erred o) (perform n at tag_token (raw ▸ remove_head)))
        go (Goes x) is same m =
            late-inserted s0 (with_site x erred) (λ h e. rw same (below h e)) (λ v w. on_way v (in_second refl (in_second (ap (flow_of erred) is) w)))
        go (site.Refused r) is same m = m

  after-head-leads : (f : Family) → is_raw_family f ≡ true → (s0 s : State N) → ((h : ℕ) → s.control.head ≡ Some h → h < s.site.nodes.made)
      → LeadsBy s0 (after_head (Start f)) s
  after-head-leads Title e = late-leads
  after-head-leads Noframes e = late-leads
  after-head-leads Style e = late-leads
  after-head-leads Script e = late-leads
  after-head-leads Textarea e = λ s0 s below. perform-leads (after_head (Start Textarea)) refl s0 s
  after-head-leads Xmp e = λ s0 s below. perform-leads (after_head (Start Xmp)) refl s0 s
  after-head-leads Iframe e = λ s0 s below. perform-leads (after_head (Start Iframe)) refl s0 s
  after-head-leads _ e = never e

  table-text-leads : (f : Family) (s0 s : State N) → s.control.saved ≢ Text → LeadsBy s0 (in_table_text (Start f)) s
  table-text-leads f s0 s out on_way =
      after-mild s0 s (perform n at tag_token (choose pending_is_ws (each_pending put) (each_pending (other_in_table Char))) s)
      (perform n at tag_token (to_saved ▸ again))
      (perform-mild n (choose pending_is_ws (each_pending put) (each_pending (other_in_table Char))) refl at tag_token s)
      (λ v is same. (refl, record { mode = λ e. out (sym same ∙ e); saved = λ i e. out (sym same ∙ e) }))

  rule-leads : (s0 s : State N) → IsOutsideText s.control → (s.control.mode ≡ AfterHead → (h : ℕ) → s.control.head ≡ Some h → h < s.site.nodes.made)
      → is_ended (raw_kind (n.tag name)) ≡ true → ((v : State N) → Ways s v → Ways s0 v) → Leads s0 (Rule n at tag_token s)
  rule-leads s0 s out below ended on_way = by_mode s.control.mode refl (λ v w. on_way v (by_rule w)) where
    family_is : is_raw_family (family_of (n.tag name)) ≡ true
    family_is = raw-family (n.tag name) ended

    by_rules : (m : Mode) → is_ruled m ≡ true → LeadsBy s0 (rule_of m (Start (family_of (n.tag name)))) s
    by_rules m e = let f : Family = family_of (n.tag name) in let so : (is_ruled m && is_raw_family f) ≡ true = rw (e, family_is) refl in
        perform-leads (rule_of m (Start f))
        (other (not (is_ruled m && is_raw_family f)) (leads (rule_of m (Start f))) (in-each ruled refl m (Start f)) (ap not so)) s0 s

    by_mode : (m : Mode) → s.control.mode ≡ m → LeadsBy s0 (rule_of m (Start (family_of (n.tag name)))) s
    by_mode Text is = absurd (out.mode is)
    by_mode InTableText is = table-text-leads (family_of (n.tag name)) s0 s (out.saved is)
    by_mode AfterHead is = after-head-leads (family_of (n.tag name)) family_is s0 s (below is)
    by_mode m is = by_rules m refl

module _ {N : Type 0} (n : Naming N) (tells : Tells n) (at : ℕ) (name : N) (attrs : List (Attribute N)) (closing : Bool)
    (ended : is_ended (raw_kind (n.tag name)) ≡ true) where
  finished-text : (s0 s : State N) → IsInText n at name attrs closing s0 s → IsInText n at name attrs closing s0 (finished at (start name attrs closing) s)
  finished-text s0 s h = cond_both (closing && not s.control.acknowledged) _ _ (IsInText n at name attrs closing s0) (λ _. record
      { before = h.before; way = h.way; after = h.after; insertion = h.insertion; nodes_are = h.nodes_are; current_is = h.current_is; mode_is = h.mode_is })
      (λ _. h)

  -- the rules from s on are on the way from s0
  abbrev OnWay : State N → State N → Type 0
  OnWay s0 s = (v : State N) → RulesInsert n at (start name attrs closing) s v → RulesInsert n at (start name attrs closing) s0 v

  one-rule : (t : Token N) (s0 s : State N) (f : Flow N) → t ≡ start name attrs closing → Orderly n s → IsOutsideText s.control → OnWay s0 s → Rule n at t s ≡ f
      → Leads n at name attrs closing s0 f
  one-rule t s0 s f same g out on_way rule = subst (Leads n at name attrs closing s0) (ap (λ u. Rule n at u s) (sym same) ∙ rule) (rule-leads n at name attrs
      closing s0 s out (λ is h e. (subst (λ (p : Option ℕ). IfSome p (λ k. (0 < k) × (k < s.site.nodes.made))) e (orderly-head n s g is)).1) ended on_way)

  chain-leads : (t : Token N) (s0 s : State N) (o : Outcome (State N)) → t ≡ start name attrs closing → Orderly n s → IsOutsideText s.control → OnWay s0 s
      → Chain n at t s o → ComesToText n at name attrs closing s0 o
  chain-leads t s0 s o same g out on_way (ends {s' = s'} rule) = subst (λ (u : Token N). IsInText n at name attrs closing s0 (finished at u s')) (sym same)
      (finished-text s0 s' (one-rule t s0 s (Done s') same g out on_way rule))
  chain-leads t s0 s o same g out on_way (refuses {r = r} rule) = one-rule t s0 s (Refused r) same g out on_way rule
  chain-leads t s0 s o same g out on_way (goes_again {t' = t'} {s' = s'} rule rest) = let next = one-rule t s0 s (Again t' s') same g out on_way rule in
      let again_is : Rule n at (start name attrs closing) s ≡ Again (start name attrs closing) s' =
      ap (λ u. Rule n at u s) (sym same) ∙ rule ∙ ap (λ u. Again u s') next.0 in
      chain-leads t' s0 s' o next.0 (again-orderly n tells at t t' s s' g rule) next.1 (λ v w. on_way v (by_next again_is w)) rest

module _ {N : Type 0} (n : Naming N) (tells : Tells n) where
  pub raw-follows : RawFollows n
  raw-follows s reached out at name attrs closing o ended (drops is) = cc
  raw-follows s reached out at name attrs closing o ended (goes isnt rest) = let g = reached-orderly n tells s reached in
      chain-leads n tells at name attrs closing ended (start name attrs closing) (step_begun s) (step_begun s) o refl (orderly-begins n s g)
      (record { mode = out; saved = λ i. outside s g i }) (λ v w. w) rest where
        outside : (s : State N) → Orderly n s → s.control.mode ≡ InTableText → s.control.saved ≢ Text
        outside s g i e = let late = g.sound (ap is_texty i) in let clash = sym late ∙ ap is_texty e in cc
