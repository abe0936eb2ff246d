use Rattle.names.proofs.KnownTags.{tag_of-named}
use Rattle.names.proofs.table.known_by_text.Goals as goal

pub returns : goal.returns
returns c = tag_of-named
