use Rattle.names.proofs.KnownNumbers.{place-is, tag_of-place}
use Rattle.names.proofs.tag.Tag.number.Goals as goal

pub returns : goal.returns
returns c = record { number = place-is c.args.self c.requires.known; tag = tag_of-place c.args.self }
