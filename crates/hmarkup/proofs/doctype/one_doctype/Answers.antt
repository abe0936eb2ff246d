use Rattle.hmarkup.proofs.Reading.{one_doctype}
use Rattle.hmarkup.proofs.doctype.one_doctype.Goals as goal

pub returns : goal.returns
returns c = one_doctype
