use Rattle.hopen.proofs.Names.{nat_eq, tag_of, bytes_eq, tag_named}
use Rattle.hopen.proofs.Spellings.{stack_mapped}
use Rattle.hopen.proofs.laws.stack_knows_no_names.Goals as goal

pub returns : goal.returns
returns c = λ texts s. stack_mapped tag_of tag_named nat_eq bytes_eq texts s
