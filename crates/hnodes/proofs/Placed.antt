-- A new node at a place: where it is, and that a change of it changes what came there.
use Rattle.hnodes.proofs.Names.{◌≡◌, ◌≢◌, ℕ, ◌<◌, true, false, eqb, cond, List, Some, None, refl, sym, ◌∙◌, ap, arith, option_and_then, IsSome, ◌⊎◌, inl, inr, eq-eqb, option_map, What, text, Forest, none, tree, times, join, children_of, change_what, put_before, Spot, last_or, parent_of, Nodes, AreCounted, graft, IsPlace, Place, LastIn, Before, ◌+◌, length, [], ◌∷◌, ◌++◌, encode_utf8, AreNodes, with_text, with_char, text_before, char_into, append_assoc, append-nil, nil_from_length, chars-nil, encodes-chars, chars, encode_utf8_all, IsUtf8, add_char, add_chars}
use Rattle.hnodes.proofs.Forests.{children_of-changed, join-none, join-assoc, last_or-join}
use Rattle.hnodes.proofs.Levels.{level, Here, Below, cut-row, tree-row}
use Rattle.hnodes.proofs.Families.{last_child-is}
use Rattle.hnodes.proofs.Counts.{hung, times-hung, times-put}
use Rattle.hnodes.proofs.Counted.{at-most, is-there, not-there}
use Rattle.hnodes.proofs.ChildSpots.{child-spot, root-spot}
use Rattle.hnodes.proofs.Respots.{IsTextBefore, is-text_before, text_before-is, text_before-longer}

module _ {N : Type 0} where
  -- the forest with these trees at a place
  abbrev pub placed : Place → (t f : Forest N) → Forest N
  placed (LastIn p) t f = hung p t f
  placed (Before s) t f = put_before s t f

  -- a node that was just made is put at a place
  pub graft-made : (n : ℕ) (w : What N) (place : Place) (f : Forest N) → times n f ≡ 0
      → graft n place (join f (tree n w none none)) ≡ placed place (tree n w none none) f
  graft-made n w (LastIn p) f h = λ i. hung p (tree-row n w none none f h i) ((cut-row n w none none f h ∙ join-none f) i)
  graft-made n w (Before s) f h = λ i. put_before s (tree-row n w none none f h i) ((cut-row n w none none f h ∙ join-none f) i)

  -- What it is then.

  module _ (made : ℕ) (f : Forest N) (counted : AreCounted made f) (bytes : List ℕ) where
    abbrev new : Forest N
    new = tree made (text bytes) none none

    absent : times made f ≡ 0
    absent = not-there made f counted made (omega arith)

    one-new : times made new ≡ 1
    one-new = grind arith

    other-new : (x : ℕ) → x ≢ made → times x new ≡ 0
    other-new x h = grind arith

    last-text : (p : ℕ) → p < made → IsTextBefore (LastIn p) (hung p new f) made
    last-text p h = let one = is-there made f counted p h in let kids = children_of-changed p (λ k. join k new) f one in
        let still : times p (hung p new f) ≡ 1 = omega (arith, one, times-hung p p new f one, other-new p (λ e. omega arith)) in
        let once : times made (hung p new f) ≡ 1 = omega (arith, times-hung made p new f one, absent, one-new) in
        let what = ap (option_map (λ (s : Spot N). s.what)) (child-spot made p (text bytes) (children_of p f) none none (hung p new f) still once kids) in
        record { before = last_child-is p (hung p new f) still ∙ ap (last_or None) kids ∙ last_or-join None (children_of p f) new; bytes = bytes; what = what }

    root-alone : (s : ℕ) → Here s f → parent_of s f ≡ None
    root-alone s p = ap (option_and_then (λ (t : Spot N). t.parent)) (root-spot s p.what p.left p.kids p.right f (at-most made f counted s) p.is)

    text-before : (s : ℕ) → s < made → IsSome (parent_of s f) → IsTextBefore (Before s) (put_before s new f) made
    text-before s h up = go (level s f one (at-most made f counted)) where
      one : times s f ≡ 1
      one = is-there made f counted s h

      go : Here s f ⊎ Below s f → IsTextBefore (Before s) (put_before s new f) made
      go (inl p) = absurd (let no : false ≡ true = rw (root-alone s p) at up in cc)
      go (inr p) =
          let kids : children_of p.parent (put_before s new f) ≡ join p.left (join new (tree s p.what p.kids p.right)) =
          ap (children_of p.parent) (p.put_is new) ∙ children_of-changed p.parent (λ _. join p.left (join new (tree s p.what p.kids p.right))) f p.one in
          let other : p.parent ≢ made = λ e. omega (arith, p.one, absent, ap (λ m. times m f) e) in
          let still : times p.parent (put_before s new f) ≡ 1 = omega (arith, times-put p.parent s new f one, p.one, other-new p.parent other) in
          let once : times s (put_before s new f) ≡ 1 = omega (arith, one, times-put s s new f one, other-new s (λ e. omega arith)) in
          let once-new : times made (put_before s new f) ≡ 1 = omega (arith, times-put made s new f one, absent, one-new) in
          let spot = child-spot made p.parent (text bytes) p.left none (tree s p.what p.kids p.right) (put_before s new f) still once-new kids in
          let after = child-spot s p.parent p.what (join p.left new) p.kids p.right (put_before s new f) still once
          (kids ∙ sym (join-assoc p.left new (tree s p.what p.kids p.right))) in
          record { before = rw after (last_or-join None p.left new); bytes = bytes; what = rw spot refl }

  -- a new text is the text before its place
  pub placed-text : (place : Place) (t : Nodes N) (bytes : List ℕ) → AreCounted t.made t.trees → IsPlace place t
      → IsTextBefore place (placed place (tree t.made (text bytes) none none) t.trees) t.made
  placed-text (LastIn p) t bytes c h = last-text t.made t.trees c bytes p h
  placed-text (Before s) t bytes c h = text-before t.made t.trees c bytes s h.0 h.1

  -- A change of it.

  module _ (n : ℕ) (g : What N → What N) where
    what-absent : (f : Forest N) → times n f ≡ 0 → change_what n g f ≡ f
    what-absent none h = refl
    what-absent (tree b w kids rest) h = grind (arith, what-absent kids, what-absent rest)

    what-join : (f t : Forest N) → change_what n g (join f t) ≡ join (change_what n g f) (change_what n g t)
    what-join none t = refl
    what-join (tree b w kids rest) t = let r = what-join rest t in λ i. tree b (cond (eqb b n) (g w) w) (change_what n g kids) (r i)

    what-hung : (p : ℕ) (t f : Forest N) → change_what n g (hung p t f) ≡ hung p (change_what n g t) (change_what n g f)
    what-hung p t none = refl
    what-hung p t (tree b w kids rest) = grind (arith, what-hung p t kids, what-hung p t rest, what-join)

    what-put : (s : ℕ) (t f : Forest N) → change_what n g (put_before s t f) ≡ put_before s (change_what n g t) (change_what n g f)
    what-put s t none = refl
    what-put s t (tree b w kids rest) = grind (arith, what-put s t kids, what-put s t rest, what-join)

    what-new : (w : What N) → change_what n g (tree n w none none) ≡ tree n (g w) none none
    what-new w = rw (eq-eqb n n refl) refl

    pub what-placed : (place : Place) (w : What N) (f : Forest N) → times n f ≡ 0
        → change_what n g (placed place (tree n w none none) f) ≡ placed place (tree n (g w) none none) f
    what-placed (LastIn p) w f h = what-hung p (tree n w none none) f ∙ (λ i. hung p (what-new w i) (what-absent f h i))
    what-placed (Before s) w f h = what-put s (tree n w none none) f ∙ (λ i. put_before s (what-new w i) (what-absent f h i))

-- Characters that are put one by one make one text.

module _ {N : Type 0} where
  with_text-nil : (w : What N) → with_text [] w ≡ w
  with_text-nil (text t) = ap (λ u. text u) (append-nil t)
  with_text-nil _ = refl

  with_text-twice : (a b : List ℕ) (w : What N) → with_text b (with_text a w) ≡ with_text (a ++ b) w
  with_text-twice a b (text t) = ap (λ u. text u) (append_assoc t a b)
  with_text-twice a b _ = refl

  longer-nil : (n : ℕ) (f : Forest N) → change_what n (with_text []) f ≡ f
  longer-nil n none = refl
  longer-nil n (tree b w kids rest) = grind (arith, longer-nil n kids, longer-nil n rest, with_text-nil)

  longer-twice : (n : ℕ) (a b : List ℕ) (f : Forest N) → change_what n (with_text b) (change_what n (with_text a) f) ≡ change_what n (with_text (a ++ b)) f
  longer-twice n a b none = refl
  longer-twice n a b (tree k w kids rest) = grind (arith, longer-twice n a b kids, longer-twice n a b rest, with_text-twice)

  -- behind a text they join it
  pub run-joins : (cs : List ℕ) (place : Place) (t : Nodes N) (n : ℕ) → IsTextBefore place t.trees n
      → add_chars cs place t ≡ record t { trees = change_what n (with_text (encode_utf8_all cs)) t.trees }
  run-joins [] place t n is = rw (longer-nil n t.trees) refl
  run-joins (c ∷ cs) place t n is = let first = text_before-is place t.trees n is in
      let then = run-joins cs place (record t { trees = change_what n (with_char c) t.trees }) n (text_before-longer place t.trees n (encode_utf8 c) is) in
      rw (first, then, longer-twice n (encode_utf8 c) (encode_utf8_all cs) t.trees) refl

  -- else they make a text
  pub run-makes : (c : ℕ) (cs : List ℕ) (place : Place) (t : Nodes N) → AreNodes t → IsPlace place t → text_before place t.trees ≡ None → add_chars (c ∷ cs)
      place t ≡ record t { made = t.made + 1; trees = graft t.made place (join t.trees (tree t.made (text (encode_utf8_all (c ∷ cs))) none none)) }
  run-makes c cs place t nodes at no_text = let absent = not-there t.made t.trees nodes.counted t.made (omega arith) in
      let begun = graft-made t.made (text (encode_utf8 c)) place t.trees absent in
      let first : add_char c place t ≡ record t { made = t.made + 1; trees = placed place (tree t.made (text (encode_utf8 c)) none none) t.trees } =
      ap (λ o. char_into c place o t) no_text ∙ (λ i. record t { made = t.made + 1; trees = begun i }) in
      let then = run-joins cs place (record t { made = t.made + 1; trees = placed place (tree t.made (text (encode_utf8 c)) none none) t.trees }) t.made
      (placed-text place t (encode_utf8 c) nodes.counted at) in
      let all = what-placed t.made (with_text (encode_utf8_all cs)) place (text (encode_utf8 c)) t.trees absent in
      let made = graft-made t.made (text (encode_utf8_all (c ∷ cs))) place t.trees absent in
      ap (add_chars cs place) first ∙ then ∙ (λ i. record t { made = t.made + 1; trees = (all ∙ sym made) i })

  -- The same of the characters of a text.

  pub put-nothing : (bytes : List ℕ) (place : Place) (t : Nodes N) → length bytes ≡ 0 → t ≡ add_chars (chars bytes) place t
  put-nothing bytes place t h = sym (ap (λ cs. add_chars cs place t) (ap chars (nil_from_length bytes h) ∙ chars-nil))

  pub put-joins : (bytes : List ℕ) (place : Place) (t : Nodes N) (n : ℕ) → IsUtf8 bytes → text_before place t.trees ≡ Some n
      → record t { trees = change_what n (with_text bytes) t.trees } ≡ add_chars (chars bytes) place t
  put-joins bytes place t n utf8 is = let mapped = encodes-chars bytes utf8 in
      sym (run-joins (chars bytes) place t n (is-text_before place t.trees n is) ∙ (λ i. record t { trees = change_what n (with_text (mapped i)) t.trees }))

  pub put-makes : (bytes : List ℕ) (place : Place) (t : Nodes N) → IsUtf8 bytes → 0 < length bytes → AreNodes t → IsPlace place t
      → text_before place t.trees ≡ None
      → record t { made = t.made + 1; trees = graft t.made place (join t.trees (tree t.made (text bytes) none none)) } ≡ add_chars (chars bytes) place t
  put-makes bytes place t utf8 some nodes at no_text = go (chars bytes) (encodes-chars bytes utf8) where
    go : (cs : List ℕ) → encode_utf8_all cs ≡ bytes
        → record t { made = t.made + 1; trees = graft t.made place (join t.trees (tree t.made (text bytes) none none)) } ≡ add_chars cs place t
    go [] mapped = absurd (let none_there : length bytes ≡ 0 = ap length (sym mapped) in omega arith)
    go (c ∷ cs) mapped = sym (run-makes c cs place t nodes at no_text
        ∙ (λ i. record t { made = t.made + 1; trees = graft t.made place (join t.trees (tree t.made (text (mapped i)) none none)) }))
