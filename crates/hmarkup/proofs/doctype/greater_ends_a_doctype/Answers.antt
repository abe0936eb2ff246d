use Rattle.hmarkup.proofs.Closing.{closed_doctype}
use Rattle.hmarkup.proofs.doctype.greater_ends_a_doctype.Goals as goal

pub returns : goal.returns
returns c = closed_doctype
