use Rattle.htoken.proofs.Names.{◌≡◌, ◌+◌, Bool, [], drop, sym, refl, subst, arith, Ok, Tokenizer, gives_item, err_is, GivesTextWithReferences, common_steps}
use Rattle.htoken.proofs.InText.{front_moved, with_references_given, with_references_not, with_references_out}
use Rattle.htoken.proofs.WithReferences.{may_of, front_here, front_later, front_none, gathered_with_references}
use Rattle.htoken.proofs.tokenizer.Tokenizer.take_references.Goals as goal

pub gather-requires : goal.gather-requires
gather-requires g c = record { ends = front_here _ _ _ _ c.args.front c.after-rest.ensures.text c.requires.ends }

pub give-requires : goal.give-requires
give-requires g c = record {
  some = (gathered_with_references c.args.self.now.table.now c.args.self.now.kind c.after-rest.result.text.now c.after-rest.result.at _
      c.in_ok-more.ensures.gathered).0;
}

pub returns-in_err-more-clause-takes : goal.returns-in_err-more-clause-takes
returns-in_err-more-clause-takes g c =
    let may = may_of c.args.self.now.table.now c.args.self.now.kind (drop c.args.front.count c.args.run.text.now) c.args.front.next c.requires.some
    c.requires.ends.whole in
    rw (err_is c.from_residual.result _ c.from_residual.ensures.1)
    (λ table start names text taken old front. with_references_out front c.requires.ends.cut c.requires.text may _ _ c.in_err-more.ensures.gathered)

pub returns-in_err-give-clause-takes : goal.returns-in_err-give-clause-takes
returns-in_err-give-clause-takes g c =
    let may = may_of c.args.self.now.table.now c.args.self.now.kind (drop c.args.front.count c.args.run.text.now) c.args.front.next c.requires.some
    c.requires.ends.whole in
    let is = c.in_ok-more.ensures.gathered in
    rw (err_is c.from_residual-in_err-give.result _ c.from_residual-in_err-give.ensures.1) (λ table start names text taken old front. with_references_not front
    c.requires.ends.cut c.requires.text may (front_moved c.after-rest.ensures.text c.after-rest.ensures.at is.front) _ _ _ (c.in_err-give.ensures names is.given
    (gathered_with_references c.args.self.now.table.now c.args.self.now.kind c.after-rest.result.text.now c.after-rest.result.at _ is).1))

pub overflow_add-count : goal.overflow_add-count
overflow_add-count g c =
    let all = front_later _ _ _ _ c.args.front.count c.in_ok-more.more c.after-rest.ensures.text c.requires.ends.cut c.in_ok-more.ensures.gathered.front.cut
    c.in_ok-more.ensures.ends c.in_ok-more.ensures.whole in
    omega (arith, all.cut.within, c.args.run.within)

pub take_end-requires-clause-ends : goal.take_end-requires-clause-ends
take_end-requires-clause-ends g c = front_later _ _ _ _ c.args.front.count c.in_ok-more.more c.after-rest.ensures.text c.requires.ends.cut
    c.in_ok-more.ensures.gathered.front.cut c.in_ok-more.ensures.ends c.in_ok-more.ensures.whole

-- what was gathered is the text, or nothing is
pub returns-then-branch-clause-takes : goal.returns-then-branch-clause-takes
returns-then-branch-clause-takes g c =
    let may = may_of c.args.self.now.table.now c.args.self.now.kind (drop c.args.front.count c.args.run.text.now) c.args.front.next c.requires.some
    c.requires.ends.whole in
    let is = c.in_ok-more.ensures.gathered in
    λ table start names text taken old front.
    c.take_end.ensures.takes table start names text taken old (with_references_given front c.requires.ends.cut c.requires.text may
    (front_moved c.after-rest.ensures.text c.after-rest.ensures.at is.front) (record c.args.self.now { with_references = c.gather.new.self }) refl
    c.give.new.sink (subst (λ (b : Bool). GivesTextWithReferences (gives_item g.S.ErrorSink.gives g.S.TokenSink.gives_token) names is.given
    c.gather.new.self.raised.errors.items c.args.sink.now (Ok b) c.give.new.sink) c.if-branch.true (c.in_ok-give.ensures names is.given
    (gathered_with_references c.args.self.now.table.now c.args.self.now.kind c.after-rest.result.text.now c.after-rest.result.at _ is).1)))

pub returns-clause-takes : goal.returns-clause-takes
returns-clause-takes g c =
    let may = may_of c.args.self.now.table.now c.args.self.now.kind (drop c.args.front.count c.args.run.text.now) c.args.front.next c.requires.some
    c.requires.ends.whole in
    let is = c.in_ok-more.ensures.gathered in
    let new : Tokenizer = record c.args.self.now { with_references = c.gather.new.self } in
    λ table start names text taken old front.
    let same = subst (λ (b : Bool). GivesTextWithReferences (gives_item g.S.ErrorSink.gives g.S.TokenSink.gives_token) names is.given
    c.gather.new.self.raised.errors.items c.args.sink.now (Ok b) c.give.new.sink) c.if-branch.false (c.in_ok-give.ensures names is.given
    (gathered_with_references c.args.self.now.table.now c.args.self.now.kind c.after-rest.result.text.now c.after-rest.result.at _ is).1) in
    let here : c.args.front.count + 0 ≡ c.args.front.count = omega arith in
    c.take_end-2.ensures.takes table start names text taken old (rw (← here)
    (with_references_given front c.requires.ends.cut c.requires.text may (front_none c.args.self.now.table.now c.args.self.now.kind
    (drop c.args.front.count c.args.run.text.now) (c.args.run.at + c.args.front.count) c.requires.ends.cut.back) new refl c.give.new.sink
    ([], tt, (refl, sym same))))

pub take_end-requires-2-clause-some : goal.take_end-requires-2-clause-some
take_end-requires-2-clause-some g c = grind (arith, common_steps)

pub take_end-requires-clause-some : goal.take_end-requires-clause-some
take_end-requires-clause-some g c = grind (arith, common_steps)
