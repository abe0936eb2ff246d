use Rattle.htmlp.proofs.Names.{◌≡◌, map, drop, app_of, named_reads, with_commands}
use Rattle.htmlp.proofs.commands.with_commands.Given as goal

-- with those that are still to come, the line is what it is to be
abbrev pub invariant-loop-entry : goal.invariant-loop-entry
invariant-loop-entry l =
    with_commands (map named_reads (drop l.entry-index l.entries)) (app_of l.line) ≡ with_commands (map named_reads l.entries) (app_of l.initial.line)
