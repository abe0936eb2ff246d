use Rattle.htoken.proofs.Names.{◌≡◌, false, List, rules, ◌∷◌, ◌++◌, refl, sym, ◌∙◌, string_bytes, Placed, name_ends, gives_item, err_is, arith, common_steps}
use Rattle.htoken.proofs.Going.{takes_after, ran_out_of}
use Rattle.htoken.proofs.InTag.{reads_kept}
use Rattle.htoken.proofs.InRaw.{letter_held, differs_here, goes_past_here, end_tag_begins, name_given, name_refused}
use Rattle.htoken.proofs.tokenizer.Tokenizer.rcdata_end_tag_name.Goals as goal
use Rattle.htoken.proofs.tokenizer.Tokenizer.rcdata_end_tag_name.Goals.{in_default-via-in-Some+else-is_read_as, in_default-via-in-None+else-ends_name}

pub returns-in_ok-push-in-Some-clause-takes : goal.returns-in_ok-push-in-Some-clause-takes
returns-in_ok-push-in-Some-clause-takes g c = λ table start before text taken grows h.
    let k = reads_kept c.args.names.now grows h in
    letter_held _ k c.args.solidus c.requires (record c.args.self.now { held = c.push.new.self }) _ c.in-Some.byte c.in_ok-push-in-Some.ensures.items
    (sym c.expected.ensures ∙ c.in-Some.is) (sym c.is_read_as.ensures ∙ c.if-is_read_as.true)

pub returns-in_err-push-in-Some-clause-takes : goal.returns-in_err-push-in-Some-clause-takes
returns-in_err-push-in-Some-clause-takes g c = λ table start before text taken grows h. ran_out_of (reads_kept c.args.names.now grows h) (search rules)

pub returns-in-None-clause-takes : goal.returns-in-None-clause-takes
returns-in-None-clause-takes g c = λ table start before text taken grows h. c.in_tag.ensures.takes table start before text taken grows
    (end_tag_begins (gives_item g.S.ErrorSink.gives g.S.TokenSink.gives_token) h c.args.solidus c.requires (sym c.expected.ensures ∙ c.in-None.is) _ refl
    c.begin_end.ensures.kind (sym c.ends_name.ensures ∙ c.if-ends_name.true) (c.begin_end.ensures.begun table before))

pub returns-in_ok-give_held-in_default-clause-takes : goal.returns-in_ok-give_held-in_default-clause-takes
returns-in_ok-give_held-in_default-clause-takes g c = λ table start before text taken grows h.
    let k = reads_kept c.args.names.now grows h in
    let other : (more : List Placed) → name_ends (string_bytes c.args.self.now.tag.name) (c.args.self.now.held.items ++ c.args.p ∷ more) ≡ false =
    elim c.in_default.branch [
      | in_default-via-in-Some+else-is_read_as w ↦ differs_here (gives_item g.S.ErrorSink.gives g.S.TokenSink.gives_token) k c.args.solidus c.requires
          w.in-Some.byte (sym c.expected.ensures ∙ w.in-Some.is) (sym w.is_read_as.ensures ∙ w.if-is_read_as.false)
      | in_default-via-in-None+else-ends_name w ↦ goes_past_here (gives_item g.S.ErrorSink.gives g.S.TokenSink.gives_token) k c.args.solidus c.requires
          (sym c.expected.ensures ∙ w.in-None.is) (sym w.ends_name.ensures ∙ w.if-ends_name.false)
    ] in
    takes_after _ (c.in_ok-give_held-in_default.ensures.handed c.args.names.now)
    (c.in_text.ensures table start c.args.names.now text _ (name_given (gives_item g.S.ErrorSink.gives g.S.TokenSink.gives_token) k c.args.solidus c.requires
    other _ c.in_ok-give_held-in_default.ensures.then c.in_ok-give_held-in_default.ensures.follows))

pub returns-in_err-give_held-in_default-clause-takes : goal.returns-in_err-give_held-in_default-clause-takes
returns-in_err-give_held-in_default-clause-takes g c =
    rw (err_is c.from_residual-in_err-give_held-in_default.result _ c.from_residual-in_err-give_held-in_default.ensures.1)
    (λ table start before text taken grows h. let k = reads_kept c.args.names.now grows h in
    let other : (more : List Placed) → name_ends (string_bytes c.args.self.now.tag.name) (c.args.self.now.held.items ++ c.args.p ∷ more) ≡ false =
    elim c.in_default.branch [
      | in_default-via-in-Some+else-is_read_as w ↦ differs_here (gives_item g.S.ErrorSink.gives g.S.TokenSink.gives_token) k c.args.solidus c.requires
          w.in-Some.byte (sym c.expected.ensures ∙ w.in-Some.is) (sym w.is_read_as.ensures ∙ w.if-is_read_as.false)
      | in_default-via-in-None+else-ends_name w ↦ goes_past_here (gives_item g.S.ErrorSink.gives g.S.TokenSink.gives_token) k c.args.solidus c.requires
          (sym c.expected.ensures ∙ w.in-None.is) (sym w.ends_name.ensures ∙ w.if-ends_name.false)
    ] in
    name_refused _ k c.args.solidus c.requires other _ _ _ _ (c.in_err-give_held-in_default.ensures.handed c.args.names.now))

pub returns-in_err-push-in-Some-clause-grows : goal.returns-in_err-push-in-Some-clause-grows
returns-in_err-push-in-Some-clause-grows g c = grind (arith, common_steps)

pub returns-in_err-give_held-in_default-clause-grows : goal.returns-in_err-give_held-in_default-clause-grows
returns-in_err-give_held-in_default-clause-grows g c = grind (arith, common_steps)

pub returns-in_ok-push-in-Some-clause-grows : goal.returns-in_ok-push-in-Some-clause-grows
returns-in_ok-push-in-Some-clause-grows g c = grind (arith, common_steps)
