-- Trees and errors as they are printed.
use Rattle.std.specs.Prelude.{ℕ, suc, List, [], ◌∷◌, ◌++◌, ◌&&◌, codes, decimal, flat_map, if◌then◌else◌}
use Rattle.std.specs.List.{repeat}
use Rattle.std.specs.Ordering.{nat_cmp, is_lt}
use Rattle.std.specs.Cmp.Lexicographic.{slice_cmp}
use Rattle.names.specs.Codes.{code_text}
use Rattle.names.specs.declared.error.ParseError.{ParseError}
use Rattle.hnodes.specs.Forest.{Attribute, What, document, doctype, element, comment, text, Forest, none, tree}
use Rattle.hserialize.specs.Words.{is_empty_text}

-- a line at a depth: two spaces a level
abbrev pub indented : ℕ → List ℕ → List ℕ
indented depth words = codes "| " ++ repeat depth (codes "  ") ++ words ++ codes "\n"

-- attributes in the order of their names' bytes, those of one name as they are
abbrev pub attribute_put_in : Attribute (List ℕ) → List (Attribute (List ℕ)) → List (Attribute (List ℕ))
attribute_put_in a [] = a ∷ []
attribute_put_in a (b ∷ others) = if is_lt (slice_cmp nat_cmp b.0 a.0) then b ∷ attribute_put_in a others else a ∷ b ∷ others

abbrev pub in_order : List (Attribute (List ℕ)) → List (Attribute (List ℕ))
in_order [] = []
in_order (a ∷ others) = attribute_put_in a (in_order others)

abbrev pub between_quotes : List ℕ → List ℕ
between_quotes t = codes "\"" ++ t ++ codes "\""

abbrev pub attribute_line : ℕ → Attribute (List ℕ) → List ℕ
attribute_line depth a = indented depth (a.0 ++ codes "=" ++ between_quotes a.1)

-- the identifiers of a doctype, where one of them is not empty
abbrev pub identifiers : List ℕ → List ℕ → List ℕ
identifiers public_id system_id =
    if is_empty_text public_id && is_empty_text system_id then [] else codes " " ++ between_quotes public_id ++ codes " " ++ between_quotes system_id

-- the lines of a node, and of its attributes
abbrev pub node_lines : ℕ → What (List ℕ) → List ℕ
node_lines depth (element name attrs) = indented depth (codes "<" ++ name ++ codes ">") ++ flat_map (attribute_line (suc depth)) (in_order attrs)
node_lines depth (text t) = indented depth (between_quotes t)
node_lines depth (comment t) = indented depth (codes "<!-- " ++ t ++ codes " -->")
node_lines depth (doctype name public_id system_id) = indented depth (codes "<!DOCTYPE " ++ name ++ identifiers public_id system_id ++ codes ">")
node_lines depth document = []

abbrev pub tree_lines : ℕ → Forest (List ℕ) → List ℕ
tree_lines depth none = []
tree_lines depth (tree n w kids rest) = node_lines depth w ++ tree_lines (suc depth) kids ++ tree_lines depth rest

-- a list of trees as it is printed
abbrev pub tree_text : Forest (List ℕ) → List ℕ
tree_text f = tree_lines 0 f

-- errors as they are printed
abbrev pub error_line : ParseError → List ℕ
error_line e = decimal e.at ++ codes " " ++ code_text e.code ++ codes "\n"

abbrev pub error_lines : List ParseError → List ℕ
error_lines errors = flat_map error_line errors
