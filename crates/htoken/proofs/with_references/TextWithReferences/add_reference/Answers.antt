use Rattle.htoken.proofs.Names.{refl, err_is}
use Rattle.htoken.proofs.InMarkup.{refused}
use Rattle.htoken.proofs.WithReferences.{reference_adds}
use Rattle.htoken.proofs.with_references.TextWithReferences.add_reference.Goals as goal

pub returns-in_err-tell_known-clause-adds : goal.returns-in_err-tell_known-clause-adds
returns-in_err-tell_known-clause-adds c =
    rw (err_is c.from_residual.result _ c.from_residual.ensures.1) (λ table kind run u is. refused _ _ _ _ c.in_err-tell_known.ensures)

pub returns-clause-adds : goal.returns-clause-adds
returns-clause-adds c = λ table kind run u is. reference_adds c.args.at u is _ refl c.requires.some c.args.self.now _ c.in_ok-tell_known.ensures
    c.in_ok-push_characters.ensures.text c.in_ok-push_characters.ensures.utf8
