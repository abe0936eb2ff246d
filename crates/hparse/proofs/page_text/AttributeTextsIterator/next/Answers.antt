use Rattle.hparse.proofs.Names.{arith, common_steps}
use Rattle.hparse.proofs.page_text.AttributeTextsIterator.next.Goals as goal

pub fact_in-value : goal.fact_in-value
fact_in-value c = grind (arith, common_steps)
