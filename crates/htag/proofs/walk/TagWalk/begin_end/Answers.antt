use Rattle.htag.proofs.Vocabulary.{◌∙◌, ap, string_bytes}
use Rattle.htag.proofs.Names.{begun_in_tag}
use Rattle.htag.proofs.walk.TagWalk.begin_end.Goals as goal

pub returns-clause-begun : goal.returns-clause-begun
returns-clause-begun c =
    λ table names letters first are named. begun_in_tag c.begin_parts.ensures.begun letters first are (ap string_bytes c.begin_parts.ensures.name ∙ named)
