use Rattle.names.proofs.Vocabulary.{refl, length, tags, type_name}
use Rattle.names.proofs.KnownNumbers.{text_of_first}
use Rattle.names.proofs.table.NameId.type_attribute.Goals as goal

pub returns-clause-text : goal.returns-clause-text
returns-clause-text c names h = text_of_first names (length tags) type_name h refl
