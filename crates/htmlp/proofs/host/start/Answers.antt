use Rattle.htmlp.proofs.Names.{◌∙◌}
use Rattle.htmlp.proofs.host.start.Goals as goal

pub returns : goal.returns
returns c = let h = c.run_program.ensures in
    record {
      input = (c.new-input.result, c.run_program.new.input);
      output = (c.new-output.result, c.run_program.new.output);
      errors = (c.new-errors.result, c.run_program.new.errors);
      ends = record {
        outcome = h.outcome;
        answered = h.answered;
        explains = h.explains;
        explains_is = h.explains_is;
        told = h.told;
        status_is = c.from.ensures ∙ h.status_is;
      };
    }
