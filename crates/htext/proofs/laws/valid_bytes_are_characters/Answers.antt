use Rattle.htext.proofs.Parts.{reads_of_text}
use Rattle.htext.proofs.laws.valid_bytes_are_characters.Goals as goal

pub returns : goal.returns
returns c = λ bytes u. reads_of_text 0 bytes u
