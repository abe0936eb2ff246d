-- Worked rows of the definitions, which the prover computes.
use Rattle.std.specs.Prelude.{◌≡◌, refl, ℕ, [], ◌∷◌, ◌++◌, Some, None}
use Rattle.std.specs.Char.{encode_utf8}
use Rattle.hnodes.specs.Forest.{Forest, none, tree, document, element, text, children_of}
use Rattle.hnodes.specs.Spots.{parent_of, first_child_of, next_of, previous_of}
use Rattle.hnodes.specs.Edits.{Nodes, graft_last, graft_before, move_all, add_char, add_chars, text_before}
use Rattle.hnodes.specs.Passed.{siblings_from, ancestors_of, order, inside_from, forest_texts}
use Rattle.hnodes.specs.declared.node.Place.TheVariants.{LastIn, Before}

-- an element of one name, and a text of one byte
abbrev e : ℕ → Forest ℕ → Forest ℕ → Forest ℕ
e n kids rest = tree n (element 7 []) kids rest

abbrev t : ℕ → ℕ → Forest ℕ → Forest ℕ
t n c rest = tree n (text (c ∷ [])) none rest

-- the document with 1 (text 2 "a", 3, 4) and 5; 6 is loose
abbrev forest : Forest ℕ
forest = tree 0 document (e 1 (t 2 97 (e 3 none (e 4 none none))) (e 5 none none)) (e 6 none none)

-- append: the last child stays where it is; the first becomes the last
append_last : graft_last 4 1 forest ≡ forest
append_last = refl

append_first : graft_last 2 1 forest ≡ tree 0 document (e 1 (e 3 none (e 4 none (t 2 97 none))) (e 5 none none)) (e 6 none none)
append_first = refl

-- a loose node is loose no longer; children go with their parent
append_loose : graft_last 6 3 forest ≡ tree 0 document (e 1 (t 2 97 (e 3 (e 6 none none) (e 4 none none))) (e 5 none none)) none
append_loose = refl

append_with_children : graft_last 1 5 forest ≡ tree 0 document (e 5 (e 1 (t 2 97 (e 3 none (e 4 none none))) none) none) (e 6 none none)
append_with_children = refl

-- before its own next sibling it stays; before the first child of its parent it comes first
before_next : graft_before 3 4 forest ≡ forest
before_next = refl

before_first : graft_before 4 2 forest ≡ tree 0 document (e 1 (e 4 none (t 2 97 (e 3 none none))) (e 5 none none)) (e 6 none none)
before_first = refl

-- children come after those that are there, in their order; no children change nothing
moved : move_all 1 6 (graft_last 5 6 forest) ≡ tree 0 document (e 1 none none) (e 6 (e 5 none (t 2 97 (e 3 none (e 4 none none)))) none)
moved = refl

moved_none : move_all 3 5 forest ≡ forest
moved_none = refl

abbrev nodes : Nodes ℕ
nodes = record { limit = 9; made = 7; trees = forest }

-- a character joins the text right before its place, and no other
joined : (add_char 98 (Before 3) nodes).trees
    ≡ tree 0 document (e 1 (tree 2 (text (97 ∷ encode_utf8 98)) none (e 3 none (e 4 none none))) (e 5 none none)) (e 6 none none)
joined = refl

not_the_following : (add_char 98 (Before 2) nodes).trees
    ≡ tree 0 document (e 1 (tree 7 (text (encode_utf8 98)) none (t 2 97 (e 3 none (e 4 none none)))) (e 5 none none)) (e 6 none none)
not_the_following = refl

not_over_an_element : (add_char 98 (LastIn 1) nodes).trees
    ≡ tree 0 document (e 1 (t 2 97 (e 3 none (e 4 none (tree 7 (text (encode_utf8 98)) none none)))) (e 5 none none)) (e 6 none none)
not_over_an_element = refl

-- a run of characters joins likewise, and makes one text at most
run_joined : (add_chars (98 ∷ 99 ∷ []) (Before 3) nodes).trees
    ≡ tree 0 document (e 1 (tree 2 (text ((97 ∷ encode_utf8 98) ++ encode_utf8 99)) none (e 3 none (e 4 none none))) (e 5 none none)) (e 6 none none)
run_joined = refl

run_made : (add_chars (98 ∷ 99 ∷ []) (LastIn 5) nodes).trees
    ≡ tree 0 document (e 1 (t 2 97 (e 3 none (e 4 none none))) (e 5 (tree 7 (text (encode_utf8 98 ++ encode_utf8 99)) none none) none)) (e 6 none none)
run_made = refl

run_empty : add_chars [] (LastIn 5) nodes ≡ nodes
run_empty = refl

-- siblings
before_it : previous_of 3 forest ≡ Some 2
before_it = refl

after_it : next_of 3 forest ≡ Some 4
after_it = refl

-- a loose tree has neither parent nor siblings, nor has the document, though others follow it
loose_alone : parent_of 6 forest ≡ None
loose_alone = refl

document_alone : next_of 0 forest ≡ None
document_alone = refl

text_joined : text_before (Before 3) forest ≡ Some 2
text_joined = refl

-- walks
children_in_order : siblings_from (first_child_of 1 forest) forest ≡ 2 ∷ 3 ∷ 4 ∷ []
children_in_order = refl

nearest_first : ancestors_of 4 forest ≡ 1 ∷ 0 ∷ []
nearest_first = refl

root_in_none : ancestors_of 6 forest ≡ []
root_in_none = refl

-- each node comes before those inside it
in_tree_order : order (children_of 0 forest) ≡ 1 ∷ 2 ∷ 3 ∷ 4 ∷ 5 ∷ []
in_tree_order = refl

from_the_middle : inside_from 0 (Some 3) forest ≡ 3 ∷ 4 ∷ 5 ∷ []
from_the_middle = refl

not_past_the_top : inside_from 1 (Some 3) forest ≡ 3 ∷ 4 ∷ []
not_past_the_top = refl

texts_joined : forest_texts (children_of 0 (graft_last 6 3 (tree 0 document (t 2 97 (e 3 (t 4 98 none) (t 5 99 none))) (e 6 none none)))) ≡ 97 ∷ 98 ∷ 99 ∷ []
texts_joined = refl
