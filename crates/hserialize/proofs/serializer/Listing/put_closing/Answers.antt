use Rattle.hserialize.proofs.Names.{arith, common_steps}
use Rattle.hserialize.proofs.serializer.Listing.put_closing.Goals as goal

pub returns-in-Element : goal.returns-in-Element
returns-in-Element g c = grind (arith, common_steps)
