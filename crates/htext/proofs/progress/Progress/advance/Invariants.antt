use Rattle.htext.proofs.Names.{◌≡◌, ◌≤◌, ◌-◌, ℕ, List, length, take, drop, text, IsReading}
use Rattle.htext.proofs.Advancing.{policy, HasTurned}
use Rattle.htext.proofs.progress.Progress.advance.Given as goal

-- The sink was handed what is read of the first bytes, which end where a character or a bad part does.
abbrev pub invariant-loop-count : goal.invariant-loop-count
invariant-loop-count g l = record {
  within : l.count ≤ length l.bytes;
  bom : l.self.bom ≡ l.fn.self.bom;
  bad : l.self.bad_bytes ≡ l.fn.self.bad_bytes;
  limit : l.self.limit ≡ l.fn.self.limit;
  turned : (all : List ℕ) → IsReading (policy l.self.bom l.self.bad_bytes l.self.limit) l.fn.self.read l.fn.self.after_return all
      → l.bytes ≡ drop l.fn.self.read all → HasTurned g.S.CharSink.gives (policy l.self.bom l.self.bad_bytes l.self.limit)
      (text l.self.bom (take l.fn.self.read all)) all l.bytes l.count l.self.read l.self.after_return l.fn.sink l.sink;
}

abbrev pub decreases-loop-count : goal.decreases-loop-count
decreases-loop-count g l = length l.bytes - l.count
