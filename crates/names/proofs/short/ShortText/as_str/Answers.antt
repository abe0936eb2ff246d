use Rattle.names.proofs.Vocabulary.{IsUtf8-had}
use Rattle.names.proofs.short.ShortText.as_str.Goals as goal

pub from_utf8_unchecked-requires : goal.from_utf8_unchecked-requires
from_utf8_unchecked-requires g c = IsUtf8-had _ c.self.invariant.3
