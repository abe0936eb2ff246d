use Rattle.htoken.proofs.Names.{gives_item, err_is}
use Rattle.htoken.proofs.Going.{takes_after}
use Rattle.htoken.proofs.InReference.{reference_ends, reference_refused, reference_ended, in_letters, run_begins}
use Rattle.htoken.proofs.tokenizer.Tokenizer.end_reference.Goals as goal

pub returns-in_err-give_reference : goal.returns-in_err-give_reference
returns-in_err-give_reference g c = rw (err_is c.from_residual.result _ c.from_residual.ensures.1) (λ table start names text taken r h.
    let letters = in_letters (gives_item g.S.ErrorSink.gives g.S.TokenSink.gives_token) h c.requires r c.if-found.true in
    reference_refused _ h c.requires r letters.0 _ _ _ _ (c.in_err-give_reference.ensures names))

pub returns-then-found : goal.returns-then-found
returns-then-found g c = λ table start names text taken r h.
    let letters = in_letters (gives_item g.S.ErrorSink.gives g.S.TokenSink.gives_token) h c.requires r c.if-found.true in
    takes_after _ (c.in_ok-give_reference.ensures names) (c.in_ambiguous_ampersand.ensures table start names text _
    (run_begins (gives_item g.S.ErrorSink.gives g.S.TokenSink.gives_token) h c.requires r letters.0 c.if-found.true letters.1))

pub returns-then-found-eq0 : goal.returns-then-found-eq0
returns-then-found-eq0 g c =
    λ table start names text taken r h. reference_ends _ h c.requires r c.if-found-eq0.true c.if-found.false _ _ _ (c.give_piece.ensures names)

pub returns-in_err-give_reference-2 : goal.returns-in_err-give_reference-2
returns-in_err-give_reference-2 g c = rw (err_is c.from_residual-in_err-give_reference-2.result _ c.from_residual-in_err-give_reference-2.ensures.1)
    (λ table start names text taken r h. reference_refused _ h c.requires r c.if-found-eq0.false _ _ _ _ (c.in_err-give_reference-2.ensures names))

pub returns : goal.returns
returns g c = λ table start names text taken r h. takes_after _ (c.in_ok-give_reference-2.ensures names) (c.in_text.ensures table start names text _
    (reference_ended (gives_item g.S.ErrorSink.gives g.S.TokenSink.gives_token) h c.requires r c.if-found-eq0.false c.if-found.false))
