-- How a rule of an insertion mode ends: with the token, or by reprocessing it.
use Rattle.hmodes.specs.Words.{Do, nothing, again}
use Rattle.hmodes.specs.declared.tree_construction.Flow.{Flow as Answer}
use Rattle.hmodes.specs.declared.tree_construction.Flow.TheVariants as answer

-- what a rule does last whose call answers this
abbrev pub ended : Answer → Do
ended answer.Done = nothing
ended answer.Again = again
