use Rattle.hserialize.proofs.Names.{arith, common_steps}
use Rattle.hserialize.proofs.plain_names.is_plain_name.Goals as goal

pub returns-then-is_ascii_lowercase : goal.returns-then-is_ascii_lowercase
returns-then-is_ascii_lowercase c = grind (arith, common_steps)
