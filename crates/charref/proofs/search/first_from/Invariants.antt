use Rattle.charref.proofs.Names.{◌-◌, ◌≤◌, IsRising}
use Rattle.charref.proofs.Searching.{IsPartedTo}
use Rattle.charref.proofs.search.first_from.Given as goal

abbrev pub invariant-loop-from : goal.invariant-loop-from
invariant-loop-from l = record {
  after : l.low ≤ l.from;
  ordered : l.from ≤ l.to;
  before : l.to ≤ l.high;
  parted : IsRising l.flat l.low l.high l.depth → IsPartedTo l.flat l.low l.from l.to l.high l.depth l.code;
}

abbrev pub decreases-loop-from : goal.decreases-loop-from
decreases-loop-from l = l.to - l.from
