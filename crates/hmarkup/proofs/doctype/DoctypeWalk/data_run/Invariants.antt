use Rattle.hmarkup.proofs.Names.{◌≡◌, ◌+◌, drop, prefix_len, is_data}
use Rattle.hmarkup.proofs.doctype.DoctypeWalk.data_run.Given as goal

abbrev pub invariant-loop-index : goal.invariant-loop-index
invariant-loop-index l = prefix_len (is_data l.phase) l.run ≡ l.index + prefix_len (is_data l.phase) (drop l.index l.run)
