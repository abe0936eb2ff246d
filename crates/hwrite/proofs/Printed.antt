-- What was parsed, and the parse that it is.
use Rattle.hwrite.proofs.Vocabulary.{◌≡◌, ◌∙◌, ℕ, List, Option, None, Some, ap, ap₂, refl, sym, Texts, spelling, Forest, Parsed, option_map, Tag, AreNames, text_of, raw_kind, children_of, node_name, has_no_references, is_raw_in, tags-agree, page_name, page_trees, Parse, ParseCase, root_of, IsParse, questions, mapped-children_of}
use Rattle.names.proofs.AllTexts.{spelled as table_mapped}
use Rattle.hwrite.proofs.Alike.{mapped-alike}

pub children_are : (parse_case : ParseCase) (parsed : Parsed) (parse : Parse) → IsParse parse_case parsed parse
    → page_trees parsed ≡ children_of (root_of parse_case) parse.trees
children_are parse_case parsed parse is = mapped-alike parsed.names (children_of parsed.root parsed.tree.trees) is.names_are
    ∙ mapped-children_of (spelling parsed.names) parsed.root parsed.tree.trees ∙ ap₂ (λ (n : ℕ) (f : Forest (List ℕ)). children_of n f) is.root is.trees

-- a number stands for the same known name by its text and by its spelling, so its texts are raw by both
raw-alike : (names : Texts) → AreNames names → (name : Option ℕ) → is_raw_in (option_map (text_of names) name) ≡ is_raw_in (option_map (spelling names) name)
raw-alike names table None = refl
raw-alike names table (Some id) =
    ap (λ (t : Tag). has_no_references (raw_kind t)) (sym (tags-agree names table id) ∙ sym ((table_mapped names table).spells.tags id))

-- and so those of the root are raw by both
pub raw_is : (parse_case : ParseCase) (parsed : Parsed) (parse : Parse) → IsParse parse_case parsed parse
    → is_raw_in (page_name parsed) ≡ is_raw_in (node_name (root_of parse_case) parse.trees)
raw_is parse_case parsed parse is = raw-alike parsed.names is.table (node_name parsed.root parsed.tree.trees) ∙ ap is_raw_in
    (sym ((questions (spelling parsed.names)).name parsed.root parsed.tree.trees) ∙ ap₂ (λ (n : ℕ) (f : Forest (List ℕ)). node_name n f) is.root is.trees)
