use Rattle.htmlp.proofs.Names.{refl}
use Rattle.std.specs.Fmt.{digits}
use Rattle.htmlp.proofs.numeric.Numeric.range_text.Goals as goal

pub returns-in-Piece : goal.returns-in-Piece
unfolding digits
returns-in-Piece c = rw c.in-Piece.is refl

pub returns-in-Nodes : goal.returns-in-Nodes
unfolding digits
returns-in-Nodes c = rw c.in-Nodes.is refl

pub returns-in-Open : goal.returns-in-Open
unfolding digits
returns-in-Open c = rw c.in-Open.is refl

pub returns-in-Escape : goal.returns-in-Escape
unfolding digits
returns-in-Escape c = rw c.in-Escape.is refl
