use Rattle.hwrite.proofs.Vocabulary.{refl}
use Rattle.hwrite.proofs.Indexing.{grown}
use Rattle.hwrite.proofs.line_index.LineIndex.make_room.Goals as goal

pub returns-in_err-grow-clause-same : goal.returns-in_err-grow-clause-same
returns-in_err-grow-clause-same c = λ bytes was. grown c.args.self.now _ bytes was refl c.grow.ensures.same (λ k. refl) refl refl

pub returns-clause-same : goal.returns-clause-same
returns-clause-same c = λ bytes was. grown c.args.self.now _ bytes was refl c.grow.ensures.same c.grow-2.ensures.same refl refl
