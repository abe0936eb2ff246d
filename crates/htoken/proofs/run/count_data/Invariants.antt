use Rattle.htoken.proofs.Names.{◌≡◌, ◌+◌, drop, prefix_len, is_only_data}
use Rattle.htoken.proofs.run.count_data.Given as goal

abbrev pub invariant-loop-index : goal.invariant-loop-index
invariant-loop-index l = prefix_len is_only_data l.run ≡ l.index + prefix_len is_only_data (drop l.index l.run)
