-- A list of trees as text (HTML Standard, #serialising-html-fragments, "Serializing HTML fragments"). Names and texts are in UTF-8.
use Rattle.std.specs.Prelude.{ℕ, Bool, true, false, List, [], ◌++◌, Option, Some, None, codes, flat_map, if◌then◌else◌}
use Rattle.names.specs.declared.raw.RawKind.{RawKind}
use Rattle.names.specs.declared.raw.RawKind.TheVariants as kind
use Rattle.names.specs.Sets.{is_void, raw_kind}
use Rattle.names.specs.Tags.{tag_named}
use Rattle.hnodes.specs.Forest.{Attribute, What, document, doctype, element, comment, text, Forest, none, tree}
use Rattle.hnodes.specs.Spots.{name_in}
use Rattle.hserialize.specs.Escaping.{escaped}
use Rattle.hserialize.specs.declared.escaping.Escaping.{Escaping}
use Rattle.hserialize.specs.declared.escaping.Setting.TheVariants.{Text, Value}

-- Whether the texts in an element are written as they are: those in style, script, xmp, iframe, noembed, noframes and plaintext,
-- in which no reference is read.
abbrev pub has_no_references : RawKind → Bool
has_no_references kind.None = false
has_no_references kind.Rcdata = false
has_no_references kind.Rawtext = true
has_no_references kind.Script = true
has_no_references kind.Plaintext = true

-- the same of what is in an element of this name, or in no element
abbrev pub is_raw_in : Option (List ℕ) → Bool
is_raw_in None = false
is_raw_in (Some name) = has_no_references (raw_kind (tag_named name))

abbrev pub attribute_text : Escaping → Attribute (List ℕ) → List ℕ
attribute_text escaping a = codes " " ++ a.0 ++ codes "=\"" ++ escaped escaping Value a.1 ++ codes "\""

abbrev pub start_tag_text : Escaping → List ℕ → List (Attribute (List ℕ)) → List ℕ
start_tag_text escaping name attrs = codes "<" ++ name ++ flat_map (attribute_text escaping) attrs ++ codes ">"

abbrev pub end_tag_text : List ℕ → List ℕ
end_tag_text name = codes "</" ++ name ++ codes ">"

-- an element, given what its children are as text; one that serializes as void (#serializes-as-void) has none, and no end tag
abbrev pub element_text : Escaping → List ℕ → List (Attribute (List ℕ)) → List ℕ → List ℕ
element_text escaping name attrs children = start_tag_text escaping name attrs ++ (if is_void (tag_named name) then [] else children ++ end_tag_text name)

-- a node, given that as well, where it is among texts that are written as they are, or not
abbrev pub node_text : Escaping → Bool → What (List ℕ) → List ℕ → List ℕ
node_text escaping raw (element name attrs) children = element_text escaping name attrs children
node_text escaping raw (text t) children = if raw then t else escaped escaping Text t
node_text escaping raw (comment t) children = codes "<!--" ++ t ++ codes "-->"
node_text escaping raw (doctype name public_id system_id) children = codes "<!DOCTYPE " ++ name ++ codes ">"
node_text escaping raw document children = []

abbrev pub written_among : Escaping → Bool → Forest (List ℕ) → List ℕ
written_among escaping raw none = []
written_among escaping raw (tree n w kids rest) =
    node_text escaping raw w (written_among escaping (is_raw_in (name_in w)) kids) ++ written_among escaping raw rest

-- a list of trees that is in an element of this name, or in none: the HTML fragment serialization algorithm
-- (#html-fragment-serialisation-algorithm)
abbrev pub written : Escaping → Option (List ℕ) → Forest (List ℕ) → List ℕ
written escaping name f = written_among escaping (is_raw_in name) f
