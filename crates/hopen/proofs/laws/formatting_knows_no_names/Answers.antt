use Rattle.hopen.proofs.Names.{bytes_eq, nat_eq}
use Rattle.hopen.proofs.FormattingSpellings.{formatting_mapped}
use Rattle.hopen.proofs.laws.formatting_knows_no_names.Goals as goal

pub returns : goal.returns
returns c = λ texts s. formatting_mapped nat_eq bytes_eq texts s.names
