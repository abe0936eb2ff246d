use Rattle.charref.proofs.Names.{take_rest, drop-drop, ap, ◌∙◌, ℕ, ◌-◌, List, length, take, drop, subst, IsOnlyKey}
use Rattle.charref.proofs.ReadingFlat.{no_entry_key, entry_stands}
use Rattle.charref.proofs.entries.key_end.Goals as goal

pub returns-in_err-size : goal.returns-in_err-size
returns-in_err-size c = rw c.from_residual.ensures (rw (← (take_rest c.args.text.now c.args.start)) (no_entry_key _ c.in_err-size.ensures))

pub returns : goal.returns
returns c = let text : List ℕ = c.args.text.now in let start = c.args.start in let size = c.in_ok-size.size in let cs = c.in_ok-characters_at_front.field-0 in
    let rest : List ℕ = take (length text - start) (drop start text) in
    let key : IsOnlyKey (drop start text) size = subst (λ bs. IsOnlyKey bs size) (take_rest text start) c.in_ok-size.ensures in
    entry_stands text start size cs c.requires key.within key.passing c.in_ok-characters_at_front.ensures.0
    (rw (← (take_rest rest size ∙ ap (drop size) (take_rest text start) ∙ drop-drop size start text)) c.in_ok-characters_at_front.ensures.1)
