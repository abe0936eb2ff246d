-- The modes of the head keep what they know of it.
use Rattle.hmodes.proofs.Vocabulary.{made-goes, ◌≡◌, ◌≢◌, ℕ, ◌+◌, ◌<◌, Bool, true, false, cond, leb, List, [], ◌∷◌, Option, Some, None, refl, sym, ◌∙◌, subst, arith, is_none, ◌&&◌, encode_utf8, is_present, Attribute, What, element, Forest, tree, join, change_what, graft, make, char_into, with_char, with_attribute, add_attribute, text_before, attributes_of, Place, OpenNode, TooManyNodes, Naming, Goes, SiteOf, stack, trees, with_trees, added, inserted, with_missing, deep, deep-is, at-most, not-there, deep-there, counted-new, OnGoes, Well, inserted-goes, deep-what, deep-new, deep-newest, graft-apart}
use Rattle.hnodes.specs.Forest.{text, none}
use Rattle.hadopt.specs.Site.{Refused}
use Rattle.hadopt.specs.Inserts.{put}

module _ {N : Type 0} (n : Naming N) where
  -- what was in the document's tree is there still, as much outside of the others
  pub record Steady (s t : SiteOf N) : Type 0 where
    pub out : (x h : ℕ) → 0 < deep x 0 (trees s) → 0 < deep h 0 (trees s) → deep x h (trees s) ≡ 0 → deep x h (trees t) ≡ 0
    pub stays : (x : ℕ) → 0 < deep x 0 (trees s) → 0 < deep x 0 (trees t)

  pub steady-same : (s t : SiteOf N) → trees s ≡ trees t → Steady s t
  steady-same s t e = record { out = λ x h a b c. subst (λ (f : Forest N). deep x h f ≡ 0) e c; stays = λ x a. subst (λ (f : Forest N). 0 < deep x 0 f) e a }

  pub steady-then : (s t u : SiteOf N) → Steady s t → Steady t u → Steady s u
  steady-then s t u a b = record { out = λ x h p q r. b.out x h (a.stays x p) (a.stays h q) (a.out x h p q r); stays = λ x p. b.stays x (a.stays x p) }

  module _ (w : What N) (p : Place) (s : SiteOf N) (h : Well n s) where
    abbrev grown : SiteOf N
    grown = with_trees (graft s.nodes.made p (join (trees s) (tree s.nodes.made w none none))) (record s { nodes = make w s.nodes })

    low : (x : ℕ) → 0 < deep x 0 (trees s) → (x ≢ s.nodes.made) × (0 ≢ s.nodes.made)
    low x a = let there = deep-there s.nodes.made (trees s) h.counted x 0 a in ((λ e. omega (arith, there.0)), (λ e. omega (arith, there.1)))

    same : (x y : ℕ) → 0 < deep x 0 (trees s) → y ≢ s.nodes.made → deep x y (trees grown) ≡ deep x y (trees s)
    same x y a hy = let f' = join (trees s) (tree s.nodes.made w none none) in
        graft-apart x y s.nodes.made p f'
        (sym (deep-is x s.nodes.made f' (at-most (s.nodes.made + 1) f' (counted-new s.nodes.made w (trees s) h.counted) s.nodes.made))
        ∙ deep-newest x s.nodes.made w (trees s) (not-there s.nodes.made (trees s) h.counted s.nodes.made (omega arith)) (low x a).0)
        ∙ deep-new x y s.nodes.made w (trees s) hy

    pub grown-steady : Steady s grown
    grown-steady = record { out = λ x y a b c. same x y a (low y b).0 ∙ c; stays = λ x a. rw (same x 0 a (low x a).1) a }

    pub added-steady : (at : ℕ) → OnGoes (λ t. Steady s t × (stack t ≡ stack s)) (added at w p s)
    added-steady at =
        made-goes (λ t. Steady s t × (stack t ≡ stack s)) at w s (λ t. Goes (with_trees (graft s.nodes.made p (trees t)) t)) (grown-steady, refl)

  abbrev pub Deeper : SiteOf N → SiteOf N → Type 0
  Deeper s t = Steady s t × ((x : OpenNode N) × (stack t ≡ x ∷ stack s) × (x.node ≡ s.nodes.made))

  pub inserted-steady : (at : ℕ) (name : N) (attrs : List (Attribute N)) (p : Place) (s : SiteOf N) → Well n s → OnGoes (Deeper s) (inserted at name attrs p s)
  inserted-steady at name attrs p s h = let grows = grown-steady (element name attrs) p s h in
      inserted-goes (Deeper s) at name attrs p s (record { out = grows.out; stays = grows.stays }, (record { node = s.nodes.made; name = name }, refl, refl))

  what-steady : (k : ℕ) (g : What N → What N) (s : SiteOf N) → Steady s (with_trees (change_what k g (trees s)) s)
  what-steady k g s = record { out = λ x h a b c. deep-what x h k g (trees s) ∙ c; stays = λ x a. rw (deep-what x 0 k g (trees s)) a }

  pub put-steady : (at c : ℕ) (p : Place) (s : SiteOf N) → Well n s → OnGoes (λ t. Steady s t × (stack t ≡ stack s)) (put at c p s)
  put-steady at c p s h = go (text_before p (trees s)) (is_none (text_before p (trees s)) && leb s.nodes.limit s.nodes.made) where
    go : (o : Option ℕ) (v : Bool)
        → OnGoes (λ t. Steady s t × (stack t ≡ stack s)) (cond v (Refused (TooManyNodes at)) (Goes (record s { nodes = char_into c p o s.nodes })))
    go o true = tt
    go None false = (record { out = (grown-steady (text (encode_utf8 c)) p s h).out; stays = (grown-steady (text (encode_utf8 c)) p s h).stays }, refl)
    go (Some k) false = (what-steady k (with_char c) s, refl)

  pub missing-steady : (k : ℕ) (attrs : List (Attribute N)) (s : SiteOf N) → Steady s (with_trees (with_missing n k attrs (trees s)) s)
  missing-steady k [] s = steady-same s s refl
  missing-steady k (a ∷ attrs) s = go (λ f. missing-steady k attrs (with_trees f s)) (is_present n.same a.0 (attributes_of k (trees s))) where
    go : ((f : Forest N) → Steady (with_trees f s) (with_trees (with_missing n k attrs f) s)) → (v : Bool)
        → Steady s (with_trees (with_missing n k attrs (cond v (trees s) (add_attribute k a (trees s)))) s)
    go rest true = rest (trees s)
    go rest false = steady-then s (with_trees (add_attribute k a (trees s)) s) (with_trees (with_missing n k attrs (add_attribute k a (trees s))) s)
        (what-steady k (with_attribute a) s) (rest (add_attribute k a (trees s)))
