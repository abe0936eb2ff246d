use Rattle.names.proofs.Vocabulary.{[], ◌∷◌, sym, refl, ◌∙◌, known, tags, type_name}
use Rattle.names.proofs.KnownTags.{none_named, tag_of-named}
use Rattle.names.proofs.KnownTexts.{known-distinct}
use Rattle.names.proofs.tag.Tag.named.Goals as goal

pub returns-in-Some : goal.returns-in-Some
returns-in-Some c =
    c.tag.ensures ∙ tag_of-named known c.in-Some.index c.args.text.now (record { known_first = refl; distinct = known-distinct }) c.in-Some.ensures

pub returns-in-None : goal.returns-in-None
returns-in-None c = sym (none_named tags (type_name ∷ []) c.args.text.now c.in-None.ensures)
