use Rattle.hwrite.proofs.Vocabulary.{options_of}
use Rattle.hwrite.proofs.Written.{begun_document, begun_fragment}
use Rattle.hwrite.proofs.engine.parser.Goals as goal

pub returns-in-None : goal.returns-in-None
returns-in-None c = rw c.in-None.is (begun_document (options_of c.args.options.now) c.document.result c.document.ensures)

pub returns-in-Some : goal.returns-in-Some
returns-in-Some c = rw c.in-Some.is (begun_fragment (options_of c.args.options.now) c.in-Some.name.now c.fragment.result c.fragment.ensures)
