use Rattle.hmodes.proofs.Vocabulary.{◌≡◌, get_or, refl, Family, Tag, family_of, FAMILIES}
use denote.Enum.Declared as enum
use Rattle.names.specs.contracts.tag.Tag as contract
use Rattle.names.specs.declared.tag.Tag.TheVariants as tag
use Rattle.hmodes.proofs.family.Family.of.Goals as goal

-- the family at the place of a tag among the tags
family-is : (t : Tag) (none : Family) → get_or FAMILIES (enum.tag_of contract.the_type t) none ≡ family_of t
family-is tag.Other none = refl
family-is _ none = refl

pub returns : goal.returns
returns c = family-is c.args.tag _
