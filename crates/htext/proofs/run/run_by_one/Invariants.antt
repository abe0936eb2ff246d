use Rattle.htext.proofs.Names.{◌≡◌, ◌+◌, drop, prefix_len, is_run_byte}
use Rattle.htext.proofs.run.run_by_one.Given as goal

abbrev pub invariant-loop-index : goal.invariant-loop-index
invariant-loop-index l = prefix_len (is_run_byte l.kind) l.bytes ≡ l.index + prefix_len (is_run_byte l.kind) (drop l.index l.bytes)
