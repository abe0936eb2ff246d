use Rattle.names.proofs.Vocabulary.{◌≡◌, [], ◌∷◌, ◌++◌, map, get_or, refl, Tag, Other, tags, tag_text}
use denote.Enum.Declared as enum
use Rattle.names.specs.contracts.tag.Tag as contract
use Rattle.names.proofs.TextTables.{text-at}
use Rattle.names.proofs.tag.Tag.text.Goals as goal

-- the text at the place of a variant among the variants
text-is : (t : Tag) → get_or (map tag_text (tags ++ Other ∷ [])) (enum.tag_of contract.the_type t) [] ≡ tag_text t
text-is Other = refl
text-is _ = refl

pub returns : goal.returns
returns c = rw text-at (text-is c.args.self)
