use Rattle.hmarkup.proofs.Names.{◌≡◌, [], ◌∷◌, ap, sym, refl, ◌∙◌, EofInComment, error, Comment, Bogus, Progress}
use Rattle.hmarkup.proofs.Outcomes.{kind_of}
use Rattle.hmarkup.proofs.Handing.{hand_one}
use Rattle.hmarkup.proofs.Walking.{bogus_unclosed, unclosed_at}
use Rattle.hmarkup.proofs.comment.CommentWalk.end.Goals as goal

pub returns-in-Comment : goal.returns-in-Comment
returns-in-Comment g c = λ kind text raised h.
    let is : kind ≡ Comment = sym (kind_of kind _ text raised h) ∙ sym (ap (λ (w : Progress). w.kind) c.self.view_is) ∙ c.in-Comment.is in
    rw is (record {
      reported = error EofInComment c.args.end ∷ [];
      handed = hand_one g.S.ErrorSink.gives _ _ _ _ c.tell.ensures;
      is_span = unclosed_at _ text raised (rw is at h) c.args.end;
    })

pub returns-in-Bogus : goal.returns-in-Bogus
returns-in-Bogus g c = λ kind text raised h.
    let is : kind ≡ Bogus = sym (kind_of kind _ text raised h) ∙ sym (ap (λ (w : Progress). w.kind) c.self.view_is) ∙ c.in-Bogus.is in
    rw is (record { reported = []; handed = (refl, refl); is_span = bogus_unclosed _ text raised (rw is at h) })
