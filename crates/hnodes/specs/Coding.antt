-- Nodes as one value of a stored kind.
use Rattle.std.specs.Prelude.{◌≡◌, ℕ, List, refl}
use Rattle.std.specs.Coded.{Coded, code_by, coded×, coded_ℕ, coded_list}
use Rattle.std.proofs.Common.{ap}
use Rattle.hnodes.specs.Forest.{What, document, doctype, element, comment, text, Forest, none, tree, Attribute}
use Rattle.hnodes.specs.Edits.{Nodes}
use base.Stored.{Gv, gnil, gnum, gcons, num}

abbrev coded_text : Coded (List ℕ)
coded_text = coded_list coded_ℕ

abbrev coded_attributes : Coded (List (Attribute ℕ))
coded_attributes = coded_list (coded× coded_ℕ coded_text)

-- which kind, and its parts
abbrev code_what : What ℕ → Gv
code_what document = gcons (gnum 0) gnil
code_what (doctype n p s) = gcons (gnum 1) (gcons (coded_text.code n) (gcons (coded_text.code p) (coded_text.code s)))
code_what (element n attrs) = gcons (gnum 2) (gcons (gnum n) (coded_attributes.code attrs))
code_what (comment t) = gcons (gnum 3) (coded_text.code t)
code_what (text t) = gcons (gnum 4) (coded_text.code t)

abbrev head : Gv → Gv
head gnil = gnil
head (gnum n) = gnil
head (gcons a b) = a

abbrev tail : Gv → Gv
tail gnil = gnil
tail (gnum n) = gnil
tail (gcons a b) = b

pub what_inj : (v w : What ℕ) → code_what v ≡ code_what w → v ≡ w
what_inj document document e = refl
what_inj (doctype n p s) (doctype n' p' s') e =
    λ i. doctype (coded_text.inj n n' (ap (λ g. head (tail g)) e) i) (coded_text.inj p p' (ap (λ g. head (tail (tail g))) e) i)
    (coded_text.inj s s' (ap (λ g. tail (tail (tail g))) e) i)
what_inj (element n attrs) (element n' attrs') e = λ i. element (num (head (tail (e i)))) (coded_attributes.inj attrs attrs' (ap (λ g. tail (tail g)) e) i)
what_inj (comment t) (comment t') e = λ i. comment (coded_text.inj t t' (ap tail e) i)
what_inj (text t) (text t') e = λ i. text (coded_text.inj t t' (ap tail e) i)
what_inj _ _ e = cc

abbrev code_forest : Forest ℕ → Gv
code_forest none = gnil
code_forest (tree b w kids rest) = gcons (gcons (gnum b) (code_what w)) (gcons (code_forest kids) (code_forest rest))

pub forest_inj : (f g : Forest ℕ) → code_forest f ≡ code_forest g → f ≡ g
forest_inj none none e = refl
forest_inj (tree b w kids rest) (tree b' w' kids' rest') e =
    λ i. tree (num (head (head (e i)))) (what_inj w w' (ap (λ g. tail (head g)) e) i) (forest_inj kids kids' (ap (λ g. head (tail g)) e) i)
    (forest_inj rest rest' (ap (λ g. tail (tail g)) e) i)
forest_inj none (tree b w kids rest) e = cc
forest_inj (tree b w kids rest) none e = cc

abbrev pub coded_forest : Coded (Forest ℕ)
coded_forest = record { code = code_forest; inj = forest_inj }

abbrev pub coded_nodes : Coded (Nodes ℕ)
coded_nodes = code_by (ℕ × (ℕ × Forest ℕ)) (coded× coded_ℕ (coded× coded_ℕ coded_forest)) (λ t. (t.limit, (t.made, t.trees)))
    (λ p. record { limit = p.0; made = p.1.0; trees = p.1.1 }) (λ _. refl)
