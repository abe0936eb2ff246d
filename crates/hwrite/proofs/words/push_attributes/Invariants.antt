use Rattle.hwrite.proofs.Vocabulary.{◌≡◌, ◌++◌, drop, flat_map, map, string_bytes, draft_attribute, attribute_words, draft_table}
use Rattle.hwrite.proofs.words.push_attributes.Given as goal

-- what is written and what is still to come make up all attributes
abbrev pub invariant-loop-attr : goal.invariant-loop-attr
invariant-loop-attr l = string_bytes l.text ++ flat_map attribute_words (map (draft_attribute (draft_table l.names)) (drop l.attr-index l.attrs))
    ≡ string_bytes l.initial.text ++ flat_map attribute_words (map (draft_attribute (draft_table l.names)) l.attrs)
