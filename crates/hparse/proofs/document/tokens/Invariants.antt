use Rattle.hparse.proofs.Names.{take, HasReadTokens}
use Rattle.hparse.proofs.RunOf.{joined}
use Rattle.hparse.proofs.document.tokens.Given as goal

-- the pieces so far have been read
abbrev pub invariant-loop-piece : goal.invariant-loop-piece
invariant-loop-piece l = HasReadTokens l.options.table.now l.options.bad_bytes l.options.limits.input l.reading (joined (take l.piece-index l.pieces))
