use Rattle.htmlp.proofs.Names.{◌≡◌, map, drop, false, app_of, fields_of, choice_rule, with_rules}
use Rattle.htmlp.proofs.commands.with_choices.Given as goal

-- with those that are still to come, the command is what it is to be
abbrev pub invariant-loop-choice : goal.invariant-loop-choice
invariant-loop-choice l = record {
  shape : with_rules (map (choice_rule l.required) (drop l.choice-index l.choices)) (app_of l.command)
      ≡ with_rules (map (choice_rule l.required) l.choices) (app_of l.initial.command);
  local : (fields_of l.command).has_globals ≡ false;
}
