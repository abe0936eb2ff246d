-- Where a node is once another one has become something else.
use Rattle.hnodes.proofs.Names.{arith, ◌≡◌, ℕ, eqb, if◌then◌else◌, List, ◌++◌, Option, Some, None, refl, ◌∙◌, option_map, What, text, Forest, none, tree, change_what, Spot, spot_below, spot_of, either_of, what_of, last_child_of, previous_of, with_text, before_place, if_text, text_before, Place, LastIn, Before}
use Rattle.hnodes.proofs.Linked.{last_or-what}

module _ {N : Type 0} (n : ℕ) (g : What N → What N) where
  -- the same spot of node m
  abbrev changed_spot : ℕ → Spot N → Spot N
  changed_spot m s = record {
    parent = s.parent;
    before = s.before;
    what = if eqb m n then g s.what else s.what;
    children = change_what n g s.children;
    after = change_what n g s.after;
  }

  either-changed : (m : ℕ) (o u : Option (Spot N))
      → either_of (option_map (changed_spot m) o) (option_map (changed_spot m) u) ≡ option_map (changed_spot m) (either_of o u)
  either-changed m o u = grind arith

  below-what : (m : ℕ) (p x : Option ℕ) (f : Forest N) → spot_below m p x (change_what n g f) ≡ option_map (changed_spot m) (spot_below m p x f)
  below-what m p x none = refl
  below-what m p x (tree b w kids rest) = grind (arith, below-what m (Some b) None kids, below-what m p (Some b) rest)

  pub spot-what : (m : ℕ) (f : Forest N) → spot_of m (change_what n g f) ≡ option_map (changed_spot m) (spot_of m f)
  spot-what m none = refl
  spot-what m (tree b w kids rest) = let l = below-what m None None (tree b w kids none) in let r = spot-what m rest in
      (λ i. either_of (l i) (r i)) ∙ either-changed m (spot_below m None None (tree b w kids none)) (spot_of m rest)

  pub what_of-what : (m : ℕ) (f : Forest N) → what_of m (change_what n g f) ≡ option_map (λ w. if eqb m n then g w else w) (what_of m f)
  what_of-what m f = grind (arith, spot-what)

  pub last_child-what : (m : ℕ) (f : Forest N) → last_child_of m (change_what n g f) ≡ last_child_of m f
  last_child-what m f = grind (arith, spot-what, last_or-what)

  pub previous-what : (m : ℕ) (f : Forest N) → previous_of m (change_what n g f) ≡ previous_of m f
  previous-what m f = grind (arith, spot-what)

  pub before_place-what : (place : Place) (f : Forest N) → before_place place (change_what n g f) ≡ before_place place f
  before_place-what (LastIn p) f = last_child-what p f
  before_place-what (Before s) f = previous-what s f

module _ {N : Type 0} where
  -- the text before a place is a text, and is what comes before the place
  pub record IsTextBefore (place : Place) (f : Forest N) (n : ℕ) : Type 0 where
    pub before : before_place place f ≡ Some n
    pub bytes : List ℕ
    pub what : what_of n f ≡ Some (text bytes)

  pub text_before-is : (place : Place) (f : Forest N) (n : ℕ) → IsTextBefore place f n → text_before place f ≡ Some n
  text_before-is place f n t = rw (t.before, t.what) refl

  pub is-text_before : (place : Place) (f : Forest N) (n : ℕ) → text_before place f ≡ Some n → IsTextBefore place f n
  is-text_before place f n e = go (what_of n f) refl (grind arith) (grind arith) where
    go : (o : Option (What N)) → what_of n f ≡ o → if_text n o ≡ Some n → before_place place f ≡ Some n → IsTextBefore place f n
    go None w i b = cc
    go (Some (text t)) w i b = record { before = b; bytes = t; what = w }
    go _ w i b = cc

  -- a text that goes on is still the text before the place
  pub text_before-longer : (place : Place) (f : Forest N) (n : ℕ) (more : List ℕ) → IsTextBefore place f n
      → IsTextBefore place (change_what n (with_text more) f) n
  text_before-longer place f n more t = record
      { before = before_place-what n (with_text more) place f ∙ t.before; bytes = t.bytes ++ more; what = grind (arith, what_of-what, t.what) }
