-- The numbers of a table of names agree with its texts.
use Rattle.hadopt.proofs.Names.{◌≡◌, length, refl, sym, number_of, tag_text, Tag, numbers, texts, Agree, text_of_first, text_of_known, Texts, AreNames, spelling, tags, type_name, Other, known_tag}
use Rattle.names.proofs.AllTexts.{spelled as table_spelled}

is-named : (t : Tag) → known_tag t ≡ Other → ⊥
is-named Other e = cc
is-named _ e = cc

pub numbers-agree : (names : Texts) → AreNames names → Agree numbers texts (spelling names)
numbers-agree names h = let s = table_spelled names h in
    record {
      spelling = s.spells;
      known = λ t. sym (s.table (number_of (known_tag t)) (tag_text (known_tag t)) (text_of_known names (known_tag t) h (is-named t)));
      type_attribute = sym (s.table (length tags) type_name (text_of_first names (length tags) type_name h refl));
    }
