use Rattle.htoken.proofs.Names.{bare_errors, err_is}
use Rattle.htoken.proofs.InMarkup.{kept, refused}
use Rattle.htoken.proofs.InText.{front_bare}
use Rattle.htoken.proofs.WithReferences.{text_adds}
use Rattle.htoken.proofs.with_references.TextWithReferences.add_bare.Goals as goal

pub returns-in_err-tell_bare : goal.returns-in_err-tell_bare
returns-in_err-tell_bare c =
    rw (err_is c.from_residual.result _ c.from_residual.ensures.1) (λ table kind is. refused _ _ _ _ (c.in_err-tell_bare.ensures table kind is))

pub returns : goal.returns
returns c = λ table kind is.
    let errors = bare_errors is.letters is.next c.args.at in
    text_adds table kind c.args.run.now c.args.at c.requires.clean c.args.self.now _ c.args.size errors
    (front_bare table kind c.args.run.now c.args.at c.utf8.run c.args.size is) (kept _ _ errors (c.in_ok-tell_bare.ensures table kind is))
    c.in_ok-push_front.ensures.text c.in_ok-push_front.ensures.utf8
