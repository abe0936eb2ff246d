use Rattle.htoken.proofs.Names.{eqb, List, ℕ, sym, ap, ◌∙◌, subst, arith, slice_index, UnknownNamedCharacterReference, ParseError, error_if, Hands}
use Rattle.htoken.proofs.WithReferences.{after_bare, bare_error}
use Rattle.htoken.proofs.front.tell_bare.Goals as goal

pub returns : goal.returns
returns g c = λ table kind is.
    let next = c.from.ensures ∙ ap (λ (bs : List ℕ). slice_index bs c.args.size) c.as_bytes.ensures.value
    ∙ after_bare is.letters is.next is.others c.args.run.now c.args.size is.run_is is.count_is in
    subst (λ (es : List ParseError). Hands g.S.ErrorSink.gives c.args.sink.now es c.tell_unknown.result c.tell_unknown.new.sink)
    (ap (λ (n : ℕ). error_if (eqb n 59) UnknownNamedCharacterReference c.args.at) next
    ∙ sym (bare_error is.letters is.next c.args.at c.args.size is.count_is (λ one. grind (arith, one, c.if-size-eq1.false)))) c.tell_unknown.ensures
