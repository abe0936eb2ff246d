use Rattle.html_c.proofs.Names.{PutsAt, map, take, error_row}
use Rattle.html_c.proofs.page.put_errors.Given as goal

abbrev pub invariant-loop-error : goal.invariant-loop-error
invariant-loop-error l = PutsAt 0 (map error_row (take l.error-index l.errors)) l.initial.room l.room l.at
