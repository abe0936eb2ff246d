use Rattle.htmlp.proofs.Adding.{one_more, stays_local, next_choice, all_choices}
use Rattle.htmlp.proofs.Names.{refl}
use Rattle.htmlp.proofs.commands.with_choices.Goals as goal

pub loop-choice-preserved : goal.loop-choice-preserved
loop-choice-preserved c = record {
  shape = next_choice c.args.required c.args.choices.now c.loop-choice.choice-index _ _ _ _ c.loop-choice-test.true
      (one_more _ _ _ _ _ c.in_ok-command.ensures c.option.ensures.local refl c.option.ensures.rule) c.loop-choice.invariant.shape;
  local = stays_local _ _ _ c.in_ok-command.ensures c.option.ensures.local c.loop-choice.invariant.local;
}

pub returns-clause-shape : goal.returns-clause-shape
returns-clause-shape c = all_choices c.args.required c.args.choices.now c.loop-choice.choice-index _ _ c.loop-choice-test.false c.loop-choice.invariant.shape

pub returns-clause-local : goal.returns-clause-local
returns-clause-local c = c.loop-choice.invariant.local
