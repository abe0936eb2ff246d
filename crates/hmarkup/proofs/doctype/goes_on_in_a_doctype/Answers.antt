use Rattle.hmarkup.proofs.Reading.{doctype_begins, doctype_open}
use Rattle.hmarkup.proofs.doctype.goes_on_in_a_doctype.Goals as goal

pub returns-clause-begins : goal.returns-clause-begins
returns-clause-begins c = doctype_begins

pub returns-clause-is_open : goal.returns-clause-is_open
returns-clause-is_open c = doctype_open
