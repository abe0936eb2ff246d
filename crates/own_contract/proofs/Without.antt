-- The edits of a page bring no script into it.
use Rattle.std.proofs.Common.{◌≡◌, ℕ, eqb, sym, subst, List, [], ◌∷◌, Option, Some, None, Result, Ok, Err}
use Rattle.std.specs.Prelude.{OnOk, OnErr}
use Rattle.std.proofs.lemmas.Bool.{cond_both}
use Rattle.std.specs.Char.{encode_utf8}
use Rattle.hnodes.specs.Edits.{Nodes, graft_last, with_char, char_into, add_char, add_chars, text_before}
use Rattle.hnodes.specs.Forest.{What, document, doctype, element, comment, text, Forest, none, tree, join, tree_at, cut, change_children, change_what}
use Rattle.hnodes.specs.declared.node.Place.TheVariants.{LastIn}
use Rattle.own_contract.specs.Page.{HasNoScript, IsNoScript}

joined : (f g : Forest ℕ) → HasNoScript f → HasNoScript g → HasNoScript (join f g)
joined none g h k = k
joined (tree b w kids rest) g (one, (inside, after)) k = (one, (inside, joined rest g after k))

found : (n : ℕ) (f : Forest ℕ) → HasNoScript f → HasNoScript (tree_at n f)
found n none h = tt
found n (tree b w kids rest) (one, (inside, after)) = cond_both (eqb b n) (tree b w kids none) (join (tree_at n kids) (tree_at n rest)) HasNoScript
    (λ _. (one, (inside, tt))) (λ _. joined (tree_at n kids) (tree_at n rest) (found n kids inside) (found n rest after))

rest_of : (n : ℕ) (f : Forest ℕ) → HasNoScript f → HasNoScript (cut n f)
rest_of n none h = tt
rest_of n (tree b w kids rest) (one, (inside, after)) = cond_both (eqb b n) rest (tree b w (cut n kids) (cut n rest)) HasNoScript (λ _. after) (λ _.
    (one, (rest_of n kids inside, rest_of n rest after)))

-- where more children are put at the end of a node
more_in : (p : ℕ) (t f : Forest ℕ) → HasNoScript t → HasNoScript f → HasNoScript (change_children p (λ kids. join kids t) f)
more_in p t none k h = tt
more_in p t (tree b w kids rest) k (one, (inside, after)) =
    cond_both (eqb b p) (tree b w (join kids t) rest) (tree b w (change_children p (λ kids. join kids t) kids) (change_children p (λ kids. join kids t) rest))
    HasNoScript (λ _. (one, (joined kids t inside k, after))) (λ _. (one, (more_in p t kids k inside, more_in p t rest k after)))

pub grafted : (n p : ℕ) (f : Forest ℕ) → HasNoScript f → HasNoScript (graft_last n p f)
grafted n p f h = more_in p (tree_at n f) (cut n f) (found n f h) (rest_of n f h)

pub made : (f : Forest ℕ) (n : ℕ) (w : What ℕ) → HasNoScript f → IsNoScript w → HasNoScript (join f (tree n w none none))
made f n w h one = joined f (tree n w none none) h (one, (tt, tt))

-- where nodes become others that are none either
pub changed : (n : ℕ) (g : What ℕ → What ℕ) (f : Forest ℕ) → ((w : What ℕ) → IsNoScript w → IsNoScript (g w)) → HasNoScript f → HasNoScript (change_what n g f)
changed n g none keeps h = tt
changed n g (tree b w kids rest) keeps (one, (inside, after)) =
    (cond_both (eqb b n) (g w) w IsNoScript (λ _. keeps w one) (λ _. one), (changed n g kids keeps inside, changed n g rest keeps after))

text_keeps : (c : ℕ) (w : What ℕ) → IsNoScript w → IsNoScript (with_char c w)
text_keeps c document h = tt
text_keeps c (doctype name public_id system_id) h = tt
text_keeps c (element name attributes) h = h
text_keeps c (comment bytes) h = tt
text_keeps c (text bytes) h = tt

char_added : (c p : ℕ) (t : Nodes ℕ) (before : Option ℕ) → HasNoScript t.trees → HasNoScript (char_into c (LastIn p) before t).trees
char_added c p t (Some n) h = changed n (with_char c) t.trees (text_keeps c) h
char_added c p t None h = grafted t.made p _ (made t.trees t.made (text (encode_utf8 c)) h tt)

text_added : (cs : List ℕ) (p : ℕ) (t : Nodes ℕ) → HasNoScript t.trees → HasNoScript (add_chars cs (LastIn p) t).trees
text_added [] p t h = h
text_added (c ∷ cs) p t h = text_added cs p (add_char c (LastIn p) t) (char_added c p t (text_before (LastIn p) t.trees) h)

pub text_put : {E : Type 0} (answer : Result (Unit {0}) E) (old new : Nodes ℕ) (cs : List ℕ) (p : ℕ) → OnOk answer (new ≡ add_chars cs (LastIn p) old)
    → OnErr answer (new ≡ old) → HasNoScript old.trees → HasNoScript new.trees
text_put (Ok x) old new cs p ok err h = subst (λ (t : Nodes ℕ). HasNoScript t.trees) (sym ok) (text_added cs p old h)
text_put (Err e) old new cs p ok err h = subst (λ (t : Nodes ℕ). HasNoScript t.trees) (sym err) h
