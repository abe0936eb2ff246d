use Rattle.htmlp.proofs.Names.{take, HasWritten, IsPlainFormatter}
use Rattle.htmlp.proofs.AllParts.{all_parts}
use Rattle.htmlp.proofs.fault.MessageDisplay.fmt.Given as goal

-- the words so far were written
abbrev pub invariant-loop-word : goal.invariant-loop-word
invariant-loop-word g l = IsPlainFormatter l.fn.f → HasWritten g.W.Write.write_str_gives l.fn.f (all_parts (take l.word-index l.self.words)) l.f
