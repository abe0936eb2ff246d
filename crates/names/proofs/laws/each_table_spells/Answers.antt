use Rattle.names.proofs.AllTexts.{spelled}
use Rattle.names.proofs.laws.each_table_spells.Goals as goal

pub returns : goal.returns
returns c = spelled
