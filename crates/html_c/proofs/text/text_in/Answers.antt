use Rattle.html_c.proofs.Names.{◌∷◌, ap₂, none_for_memory, refl}
use Rattle.html_c.proofs.Texts.{gives_none, gives_text}
use Rattle.html_c.proofs.text.text_in.Goals as goal

pub returns-in-Ok : goal.returns-in-Ok
returns-in-Ok c =
    let (says, room) =
    gives_text _ _ _ _ _ _ _ _ _ _ refl (ap₂ ◌∷◌ c.new-target.ensures.room c.new-target.ensures.empty) c.requires.context c.in-Ok.ensures.runs in
    record { says = says; room = room }

pub returns-in-Write : goal.returns-in-Write
returns-in-Write c = record { says = none_for_memory refl; room = tt }

pub returns : goal.returns
returns c = record {
  says = gives_none _ _ _ _ _ _ _ _ _ _ refl (ap₂ ◌∷◌ c.new-target.ensures.room c.new-target.ensures.empty) c.requires.context c.in_default.not-Write
      c.in-Err.ensures.runs;
  room = tt;
}
