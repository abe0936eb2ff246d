use Rattle.htoken.proofs.Names.{◌-◌, length, IsGathered}
use Rattle.htoken.proofs.with_references.TextWithReferences.gather_from.Given as goal

abbrev pub invariant-loop-count : goal.invariant-loop-count
invariant-loop-count l = IsGathered l.table l.kind l.run.text.now l.run.at l.count l.self

abbrev pub decreases-loop-count : goal.decreases-loop-count
decreases-loop-count l = length l.run.text.now - l.count
