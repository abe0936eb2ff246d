use Rattle.htext.proofs.Names.{◌≡◌, ◌+◌, ◌-◌, ◌≤◌, length, drop, prefix_len, is_run_byte}
use Rattle.htext.proofs.run.run.Given as goal

abbrev pub invariant-loop-count : goal.invariant-loop-count
invariant-loop-count l = record
    { counted : prefix_len (is_run_byte l.kind) l.bytes ≡ l.count + prefix_len (is_run_byte l.kind) (drop l.count l.bytes); within : l.count ≤ length l.bytes }

abbrev pub decreases-loop-count : goal.decreases-loop-count
decreases-loop-count l = length l.bytes - l.count
