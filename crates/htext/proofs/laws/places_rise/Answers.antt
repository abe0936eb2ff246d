use Rattle.htext.proofs.Names.{map, take, subst, true, length-take-le, PlacesRise, character_of, decoded, read_len}
use Rattle.htext.proofs.Fronts.{front_le}
use Rattle.htext.proofs.Texts.{text_rises}
use Rattle.htext.proofs.laws.places_rise.Goals as goal

pub returns : goal.returns
returns c = λ how bytes. subst (PlacesRise 0 (map character_of (decoded how bytes)))
    (length-take-le (read_len how bytes) bytes (front_le true how.bad how.limit bytes).1) (text_rises how.bom (take (read_len how bytes) bytes))
