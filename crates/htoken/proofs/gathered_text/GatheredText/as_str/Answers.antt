use Rattle.htoken.proofs.Names.{IsUtf8-had}
use Rattle.htoken.proofs.gathered_text.GatheredText.as_str.Goals as goal

pub from_utf8_unchecked-requires : goal.from_utf8_unchecked-requires
from_utf8_unchecked-requires c = rw c.deref.ensures.value (IsUtf8-had _ c.self.invariant.1)
