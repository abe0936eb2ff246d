use Rattle.hserialize.proofs.Names.{arith, common_steps}
use Rattle.hserialize.proofs.serializer.Listing.put_opening.Goals as goal

pub put_escaped-requires-text-source : goal.put_escaped-requires-text-source
put_escaped-requires-text-source g c = grind (arith, common_steps)

pub as_bytes-requires-then-stands_raw-text-self : goal.as_bytes-requires-then-stands_raw-text-self
as_bytes-requires-then-stands_raw-text-self g c = grind (arith, common_steps)

pub returns-else-stands_raw : goal.returns-else-stands_raw
returns-else-stands_raw g c = grind (arith, common_steps)
