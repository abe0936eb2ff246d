use Rattle.charref.proofs.ReadingFlat.{no_characters}
use Rattle.charref.proofs.entries.characters_at_front.Goals as goal

pub returns-in_err-first : goal.returns-in_err-first
returns-in_err-first c = rw c.from_residual.ensures (no_characters c.args.bytes.now c.in_err-first.ensures)
