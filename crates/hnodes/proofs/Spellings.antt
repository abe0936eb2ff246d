-- A forest under other names.
use Rattle.hnodes.proofs.Names.{arith, ◌≡◌, ℕ, ◌+◌, [], ◌∷◌, Option, Some, None, refl, sym, ◌∙◌, ap, map-append, option_map, Attribute, What, document, element, Forest, none, tree, join, tree_at, cut, children_of, change_children, change_what, put_before, Spot, first_or, last_or, spot_below, spot_of, either_of, last_child_of, previous_of, what_of, Nodes, graft, graft_last, graft_before, move_all, with_attribute, with_char, text_before, char_into, Place, LastIn, Before, mapped_attribute, mapped_what, mapped, mapped_nodes, mapped_spot, EditsKnowNoNames, QuestionsKnowNoNames}

module _ {N M : Type 0} (g : N → M) where
  mapped-join : (f h : Forest N) → mapped g (join f h) ≡ join (mapped g f) (mapped g h)
  mapped-join none h = refl
  mapped-join (tree b w kids rest) h = ap (tree b (mapped_what g w) (mapped g kids)) (mapped-join rest h)

  mapped-tree_at : (n : ℕ) (f : Forest N) → mapped g (tree_at n f) ≡ tree_at n (mapped g f)
  mapped-tree_at n none = refl
  mapped-tree_at n (tree b w kids rest) = grind (arith, mapped-tree_at n kids, mapped-tree_at n rest, mapped-join)

  pub mapped-children_of : (n : ℕ) (f : Forest N) → mapped g (children_of n f) ≡ children_of n (mapped g f)
  mapped-children_of n none = refl
  mapped-children_of n (tree b w kids rest) = grind (arith, mapped-children_of n kids, mapped-children_of n rest, mapped-join)

  mapped-cut : (n : ℕ) (f : Forest N) → mapped g (cut n f) ≡ cut n (mapped g f)
  mapped-cut n none = refl
  mapped-cut n (tree b w kids rest) = grind (arith, mapped-cut n kids, mapped-cut n rest)

  mapped-change_children : (n : ℕ) (h : Forest N → Forest N) (h' : Forest M → Forest M) → ((k : Forest N) → mapped g (h k) ≡ h' (mapped g k)) → (f : Forest N)
      → mapped g (change_children n h f) ≡ change_children n h' (mapped g f)
  mapped-change_children n h h' same none = refl
  mapped-change_children n h h' same (tree b w kids rest) = grind (arith, mapped-change_children n h h' same kids, mapped-change_children n h h' same rest)

  mapped-put_before : (n : ℕ) (t f : Forest N) → mapped g (put_before n t f) ≡ put_before n (mapped g t) (mapped g f)
  mapped-put_before n t none = refl
  mapped-put_before n t (tree b w kids rest) = grind (arith, mapped-put_before n t kids, mapped-put_before n t rest, mapped-join)

  mapped-change_what : (n : ℕ) (h : What N → What N) (h' : What M → What M) → ((w : What N) → mapped_what g (h w) ≡ h' (mapped_what g w)) → (f : Forest N)
      → mapped g (change_what n h f) ≡ change_what n h' (mapped g f)
  mapped-change_what n h h' same none = refl
  mapped-change_what n h h' same (tree b w kids rest) = grind (arith, mapped-change_what n h h' same kids, mapped-change_what n h h' same rest, same w)

  -- places
  mapped-first_or : (f : Forest N) (y : Option ℕ) → first_or (mapped g f) y ≡ first_or f y
  mapped-first_or none y = refl
  mapped-first_or (tree b w kids rest) y = refl

  mapped-last_or : (x : Option ℕ) (f : Forest N) → last_or x (mapped g f) ≡ last_or x f
  mapped-last_or x none = refl
  mapped-last_or x (tree b w kids rest) = mapped-last_or (Some b) rest

  either-mapped : (x y : Option (Spot N)) → either_of (option_map (mapped_spot g) x) (option_map (mapped_spot g) y) ≡ option_map (mapped_spot g) (either_of x y)
  either-mapped None y = refl
  either-mapped (Some s) y = refl

  mapped-below : (n : ℕ) (p x : Option ℕ) (f : Forest N) → spot_below n p x (mapped g f) ≡ option_map (mapped_spot g) (spot_below n p x f)
  mapped-below n p x none = refl
  mapped-below n p x (tree b w kids rest) = grind (arith, mapped-below n (Some b) None kids, mapped-below n p (Some b) rest)

  mapped-spot : (n : ℕ) (f : Forest N) → spot_of n (mapped g f) ≡ option_map (mapped_spot g) (spot_of n f)
  mapped-spot n none = refl
  mapped-spot n (tree b w kids rest) = grind (arith, mapped-below, mapped-spot n rest, either-mapped)

  mapped-what_of : (n : ℕ) (f : Forest N) → what_of n (mapped g f) ≡ option_map (mapped_what g) (what_of n f)
  mapped-what_of n f = grind (arith, mapped-spot)

  mapped-last_child_of : (n : ℕ) (f : Forest N) → last_child_of n (mapped g f) ≡ last_child_of n f
  mapped-last_child_of n f = grind (arith, mapped-spot, mapped-last_or)

  mapped-previous_of : (n : ℕ) (f : Forest N) → previous_of n (mapped g f) ≡ previous_of n f
  mapped-previous_of n f = grind (arith, mapped-spot)

  pub questions : QuestionsKnowNoNames g
  questions = record {
    parent = λ n f. grind (arith, mapped-spot);
    first_child = λ n f. grind (arith, mapped-spot, mapped-first_or);
    last_child = mapped-last_child_of;
    next = λ n f. grind (arith, mapped-spot, mapped-first_or);
    previous = mapped-previous_of;
    kind = λ n f. grind (arith, mapped-what_of);
    name = λ n f. grind (arith, mapped-what_of);
    attrs = λ n f. grind (arith, mapped-what_of);
    text = λ n f. grind (arith, mapped-what_of);
    doctype = λ n f. grind (arith, mapped-what_of);
  }

  -- edits
  mapped-graft_last : (n p : ℕ) (f : Forest N) → mapped g (graft_last n p f) ≡ graft_last n p (mapped g f)
  mapped-graft_last n p f = mapped-change_children p (λ kids. join kids (tree_at n f)) (λ kids. join kids (tree_at n (mapped g f)))
      (λ k. rw (mapped-join, mapped-tree_at) refl) (cut n f) ∙ ap (change_children p (λ kids. join kids (tree_at n (mapped g f)))) (mapped-cut n f)

  mapped-graft_before : (n s : ℕ) (f : Forest N) → mapped g (graft_before n s f) ≡ graft_before n s (mapped g f)
  mapped-graft_before n s f = mapped-put_before s (tree_at n f) (cut n f) ∙ (λ i. put_before s (mapped-tree_at n f i) (mapped-cut n f i))

  pub mapped-graft : (n : ℕ) (place : Place) (f : Forest N) → mapped g (graft n place f) ≡ graft n place (mapped g f)
  mapped-graft n (LastIn p) f = mapped-graft_last n p f
  mapped-graft n (Before s) f = mapped-graft_before n s f

  mapped-move_all : (m p : ℕ) (f : Forest N) → mapped g (move_all m p f) ≡ move_all m p (mapped g f)
  mapped-move_all m p f = mapped-change_children p (λ kids. join kids (children_of m f)) (λ kids. join kids (children_of m (mapped g f)))
      (λ k. rw (mapped-join, mapped-children_of) refl) (change_children m (λ _. none) f)
      ∙ ap (change_children p (λ kids. join kids (children_of m (mapped g f)))) (mapped-change_children m (λ _. none) (λ _. none) (λ k. refl) f)

  mapped-with_attribute : (a : Attribute N) (w : What N) → mapped_what g (with_attribute a w) ≡ with_attribute (mapped_attribute g a) (mapped_what g w)
  mapped-with_attribute a (element x attrs) = ap (element (g x)) (map-append (mapped_attribute g) attrs (a ∷ []))
  mapped-with_attribute a _ = refl

  mapped-with_char : (c : ℕ) (w : What N) → mapped_what g (with_char c w) ≡ with_char c (mapped_what g w)
  mapped-with_char c document = refl
  mapped-with_char c _ = refl

  pub mapped-text_before : (place : Place) (f : Forest N) → text_before place (mapped g f) ≡ text_before place f
  mapped-text_before place f = grind (arith, mapped-last_child_of, mapped-previous_of, mapped-what_of)

  mapped-char_into : (c : ℕ) (place : Place) (o : Option ℕ) (t : Nodes N) → mapped_nodes g (char_into c place o t) ≡ char_into c place o (mapped_nodes g t)
  mapped-char_into c place None t = grind (arith, mapped-graft, mapped-join)
  mapped-char_into c place (Some n) t = λ i. record
      { limit = t.limit; made = t.made; trees = mapped-change_what n (with_char c) (with_char c) (mapped-with_char c) t.trees i }

  pub edits : EditsKnowNoNames g
  edits = record {
    make = λ w t. (λ i. record { limit = t.limit; made = t.made + 1; trees = mapped-join t.trees (tree t.made w none none) i });
    append = mapped-graft_last;
    insert_before = mapped-graft_before;
    move_children = mapped-move_all;
    add_attr = λ n a f. mapped-change_what n (with_attribute a) (with_attribute (mapped_attribute g a)) (mapped-with_attribute a) f;
    put_char = λ c place t.
        (mapped-char_into c place (text_before place t.trees) t ∙ ap (λ o. char_into c place o (mapped_nodes g t)) (sym (mapped-text_before place t.trees)));
  }
