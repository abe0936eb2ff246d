use Rattle.htag.proofs.Vocabulary.{◌++◌, ℕ, List, ap, ◌∙◌, take, arith, list_all, err_from_is_err_and, Placed, placed, IsInTag, subst, chars, is_clean, clean_rest, next_at, common_steps}
use Rattle.htag.proofs.Ascii.{edge_of}
use Rattle.htag.proofs.InRun.{front_more, known_in_rest, next_end, none_front}
use Rattle.htag.proofs.Keeping.{looks_further}
use Rattle.htag.proofs.walk.TagWalk.take_run.Goals as goal

pub loop-count-init : goal.loop-count-init
loop-count-init c = none_front c.utf8.run

pub range_from-requires : goal.range_from-requires
range_from-requires c = λ _. edge_of c.loop-count.count c.args.run.now c.loop-count.invariant.cut

pub take_part-requires-clause-clean : goal.take_part-requires-clause-clean
take_part-requires-clause-clean c = ap (λ (x : List ℕ). list_all is_clean (chars x)) c.range_from.ensures.value
    ∙ (clean_rest c.loop-count.count c.args.run.now c.loop-count.invariant.cut c.requires.clean).1

pub loop-count-preserved : goal.loop-count-preserved
loop-count-preserved c = rw c.if-ended.false at (front_more c.loop-count.invariant c.range_from.ensures.value c.in_ok-more.ensures.front)

pub returns-then-ended : goal.returns-then-ended
returns-then-ended c = let front = rw c.if-ended.true at (front_more c.loop-count.invariant c.range_from.ensures.value c.in_ok-more.ensures.front) in
    record {
      takes = λ body h. front.takes body (looks_further h (next_at c.args.at c.args.run.now 0));
      cut = front.cut;
      some = λ _. omega (arith, c.in_ok-more.ensures.some);
      grows = front.grows;
      kind = front.kind;
    }

pub returns-in_err-more-clause-takes : goal.returns-in_err-more-clause-takes
returns-in_err-more-clause-takes c = let e = err_from_is_err_and c.from_residual.result c.from_residual.ensures.1 in let at = c.args.at in
    let run = c.args.run.now in
    rw (e.1, e.2) (λ body h. c.in_err-more.ensures.front.takes _
    (known_in_rest at c.loop-count.count run c.range_from.ensures.value (c.loop-count.invariant.takes body (looks_further h (next_at at run 0)))))

pub returns-clause-takes : goal.returns-clause-takes
returns-clause-takes c = λ body h. subst (λ (x : List Placed). IsInTag c.args.table.now c.loop-count.names c.loop-count.self
    (body ++ placed c.args.at (chars (take c.loop-count.count c.args.run.now))) x c.loop-count.errors.items)
    (next_end c.args.at c.loop-count.count c.args.run.now (omega (arith, c.loop-count-test.false)))
    (c.loop-count.invariant.takes body (looks_further h (next_at c.args.at c.args.run.now 0)))

pub returns-in_err-more-clause-grows : goal.returns-in_err-more-clause-grows
returns-in_err-more-clause-grows c = grind (arith, common_steps)
