use Rattle.names.proofs.KnownNumbers.{tag_of-number_of, number_of-tag_of, text_of_known}
use Rattle.names.proofs.table.one_number.Goals as goal

pub returns : goal.returns
returns c = record { tag = tag_of-number_of; number = number_of-tag_of; text = text_of_known }
