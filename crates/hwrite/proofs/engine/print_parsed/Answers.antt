use Rattle.hwrite.proofs.Vocabulary.{inl, inr}
use Rattle.hwrite.proofs.engine.print_parsed.Goals as goal

pub returns-in-Errors-clause-text : goal.returns-in-Errors-clause-text
returns-in-Errors-clause-text g c = rw (c.in-Errors.is, ← c.deref.ensures.value) c.print_errors.ensures.text

pub returns-in-Write-clause-text : goal.returns-in-Write-clause-text
returns-in-Write-clause-text g c = rw c.in-Write.is c.serialize.ensures.text

pub returns-in-Plain-clause-text : goal.returns-in-Plain-clause-text
returns-in-Plain-clause-text g c = rw (c.in-Plain.is, ← c.plain_line.ensures) c.write_text.ensures.text

pub returns-in-Tree-clause-text : goal.returns-in-Tree-clause-text
returns-in-Tree-clause-text g c = elim c.in-Tree.is [ inl is ↦ rw is c.print_tree.ensures.text | inr is ↦ rw is c.print_tree.ensures.text ]
