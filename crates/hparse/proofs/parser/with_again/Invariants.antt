use Rattle.hparse.proofs.Names.{◌≡◌, drop, again_laid}
use Rattle.hparse.proofs.parser.with_again.Given as goal

-- to note the rest is to note all of them
abbrev pub invariant-loop-element : goal.invariant-loop-element
invariant-loop-element l = again_laid (drop l.element-index l.again) l.list.items ≡ again_laid l.again l.initial.list.items
