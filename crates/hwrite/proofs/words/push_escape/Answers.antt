use Rattle.hwrite.proofs.Vocabulary.{◌<◌, ◌≢◌, arith}
use Rattle.hwrite.proofs.Escapes.{escaped_byte-hex}
use Rattle.hwrite.proofs.words.push_escape.Goals as goal

pub returns-in_default : goal.returns-in_default
returns-in_default c = let low : c.args.ch < 32 = grind arith in let other : c.args.ch ≢ 10 = grind arith in let two = escaped_byte-hex c.args.ch low other in
    rw two (rw (c.laid_out.ensures, c.in_radix.ensures) at c.write.ensures.bytes)
