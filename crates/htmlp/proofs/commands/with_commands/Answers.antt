use Rattle.htmlp.proofs.Names.{refl}
use Rattle.htmlp.proofs.Adding.{one_command_more, next_command, all_commands}
use Rattle.htmlp.proofs.commands.with_commands.Goals as goal

pub loop-entry-preserved : goal.loop-entry-preserved
loop-entry-preserved c = next_command c.args.entries.now c.loop-entry.entry-index _ _ _ _ c.loop-entry-test.true
    (one_command_more _ _ _ _ _ c.in_ok-line.ensures c.in_ok-command.ensures.local refl c.in_ok-command.ensures.shape) c.loop-entry.invariant

pub returns : goal.returns
returns c = all_commands c.args.entries.now c.loop-entry.entry-index _ _ c.loop-entry-test.false c.loop-entry.invariant
