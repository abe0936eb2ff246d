use Rattle.htoken.proofs.Names.{refl, no_characters}
use Rattle.htoken.proofs.tokenizer.Tokenizer.give_text.Goals as goal

pub returns-then-is_empty-clause-handed : goal.returns-then-is_empty-clause-handed
returns-then-is_empty-clause-handed g c = rw (no_characters c.args.front.now.text.now c.if-is_empty.ensures) (refl, refl)

pub returns-then-is_empty-clause-follows : goal.returns-then-is_empty-clause-follows
returns-then-is_empty-clause-follows g c = λ script. rw (no_characters c.args.front.now.text.now c.if-is_empty.ensures) refl
