use Rattle.htag.proofs.Vocabulary.{[], true, refl, sym, append-nil, on_ok_weaker, inl, inr}
use Rattle.htag.proofs.InValue.{ends_plain, ends_reference, ends_run, told_then_given}
use Rattle.htag.proofs.piece.ValueWalk.end.Goals as goal

pub returns-in-Nothing : goal.returns-in-Nothing
returns-in-Nothing c = record {
  more = [];
  later_is = sym (append-nil c.args.errors.now.items);
  ends = λ table quoted text own h. elim c.in-Nothing.is [ inl e ↦ ends_plain _ h e refl | inr e ↦ ends_run _ h e refl ];
}

pub returns-in_ok-tell-in-Reference : goal.returns-in_ok-tell-in-Reference
returns-in_ok-tell-in-Reference c = let t = c.in_ok-tell-in-Reference.ensures in
    on_ok_weaker c.give_back.result (λ b. record {
      more = _;
      later_is = t.later_is;
      ends = λ table quoted text own h. ends_reference _ h c.in-Reference.walk c.in-Reference.is c.end-found.result
          (λ taken has. c.end-found.ensures.read table true taken has) c.end-found.ensures.number (told_then_given _ _ _ _ _ _ _ t b.bytes);
    }) c.give_back.ensures
