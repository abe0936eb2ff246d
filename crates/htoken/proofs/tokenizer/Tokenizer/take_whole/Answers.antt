use Rattle.htoken.proofs.Names.{refl, err_is, rules, arith, common_steps}
use Rattle.htoken.proofs.WithReferences.{whole_ends, whole_refused, whole_then}
use Rattle.htoken.proofs.tokenizer.Tokenizer.take_whole.Goals as goal

pub returns-in_err-give_piece : goal.returns-in_err-give_piece
returns-in_err-give_piece g c = rw (err_is c.from_residual.result _ c.from_residual.ensures.1) (λ table start names text taken h.
    whole_refused _ c.args.run.now.at (search rules) c.requires.whole c.requires.text h _ _ _ _ (c.in_err-give_piece.ensures names))

pub returns-then-whole-eq0 : goal.returns-then-whole-eq0
returns-then-whole-eq0 g c = λ table start names text taken h. whole_ends _ c.args.run.now.at (search rules) c.requires.whole c.requires.text h _ refl
    c.after-self.ensures c.if-whole-eq0.true _ _ (c.in_ok-give_piece.ensures names)

pub returns : goal.returns
returns g c = λ table start names text taken h. whole_then _ c.args.run.now.at (search rules) c.requires.whole c.requires.text h _ refl c.after-self.ensures
    c.if-whole-eq0.false _ c.at_byte.ensures _ _ _ _ _ (c.in_ok-give_piece.ensures names) (c.in_text.ensures table start names)

pub at_byte-requires : goal.at_byte-requires
at_byte-requires g c = grind (arith, common_steps)

pub overflow_add-run : goal.overflow_add-run
overflow_add-run g c = grind (arith, common_steps)
