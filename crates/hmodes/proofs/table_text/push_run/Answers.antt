use Rattle.hmodes.proofs.Vocabulary.{◌+◌, ◌++◌, ◌∙◌, ℕ, List, Placed, sym, ap, arith, chars, chars-nil, placed, IsUtf8-past_char, append-nil, nil_from_length, length-encode, common_steps}
use Rattle.hmodes.proofs.Pending.{pushed}
use Rattle.hmodes.proofs.table_text.push_run.Goals as goal

pub loop-index-preserved : goal.loop-index-preserved
loop-index-preserved c = let so = c.loop-index.invariant in let step = c.in-Some.ensures.steps in
    record {
      same = ap (λ (ps : List Placed). ps ++ placed (c.args.at + c.next.new.self.at) (chars c.next.new.self.rest.now)) c.in_ok-push.ensures.items
          ∙ pushed c.loop-index.pending.items (c.args.at + c.loop-index.index-iterator.at) (c.args.at + c.in-Some.index) (c.args.at + c.next.new.self.at) _ _
          c.in-Some.ch so.utf8 step.1 (omega (arith, step.0)) (omega (arith, step.2, length-encode c.in-Some.ch)) ∙ so.same;
      utf8 = IsUtf8-past_char _ _ c.in-Some.ch so.utf8 step.1;
    }

pub returns-clause-added : goal.returns-clause-added
returns-clause-added c = let so = c.loop-index.invariant in let kept = c.loop-index.pending.items in
    sym (append-nil kept) ∙ ap (λ (cs : List ℕ). kept ++ placed (c.args.at + c.loop-index.index-iterator.at) cs)
    (sym (ap chars (nil_from_length _ c.in-None.ensures.steps.0) ∙ chars-nil)) ∙ so.same

pub loop-index-init : goal.loop-index-init
loop-index-init c = grind (arith, common_steps)
