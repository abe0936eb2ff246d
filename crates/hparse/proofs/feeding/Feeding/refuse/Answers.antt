use Rattle.hparse.proofs.Names.{sym, subst, gives_item, Refuses, arith, common_steps}
use Rattle.hparse.proofs.Pieces.{refuses_bytes, refuses_text}
use Rattle.hparse.proofs.feeding.Feeding.refuse.Goals as goal

pub returns-in-Ok-clause-answer : goal.returns-in-Ok-clause-answer
returns-in-Ok-clause-answer g c =
    λ m began held h. subst (λ r. Refuses (gives_item g.S.ErrorSink.gives g.S.TokenSink.gives_token) m began held c.args.refusal r c.finish.new.self)
    (sym c.in-NotUtf8.refusal-is) (refuses_bytes c.in-NotUtf8.is (c.in-Ok.ensures m began held h))

pub returns-in-Err-clause-answer : goal.returns-in-Err-clause-answer
returns-in-Err-clause-answer g c = λ m began held h. refuses_text c.in-NotUtf8.is (c.in-Err.ensures m began held h)

pub returns-in_default : goal.returns-in_default
returns-in_default g c = grind (arith, common_steps)
