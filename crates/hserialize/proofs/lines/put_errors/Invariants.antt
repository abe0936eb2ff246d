use Rattle.hserialize.proofs.Names.{drop, IsLine, error_lines, written_so_far}
use Rattle.hserialize.proofs.Output.{HasLeft}
use Rattle.hserialize.proofs.lines.put_errors.Given as goal

-- the lines that are left
abbrev pub invariant-loop-error : goal.invariant-loop-error
invariant-loop-error g l = HasLeft (written_so_far g.W.Target.written g.W.Target.failed l.initial.out)
    (written_so_far g.W.Target.written g.W.Target.failed l.out) (error_lines l.errors) (error_lines (drop l.error-index l.errors)) × IsLine l.line
