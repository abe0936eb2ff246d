use Rattle.hmarkup.proofs.Lines.{parts_at}
use Rattle.hmarkup.proofs.quirks.parts.Goals as goal

pub returns : goal.returns
returns c = parts_at c.args.mark c.args.text.now c.split_once.result c.split_once.ensures.cases c.requires
