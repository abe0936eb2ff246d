use Rattle.htmlp.proofs.Names.{Some, ap, sym, option_map, ◌∙◌, Bor, Text, bad_bytes_of}
use Rattle.htmlp.proofs.line.bad_bytes.Goals as goal

pub returns-in-Some-replace : goal.returns-in-Some-replace
returns-in-Some-replace c =
    ap bad_bytes_of (sym c.get_str.ensures ∙ ap (option_map (λ (s : Bor Text). s.now)) c.in-Some-replace.is ∙ ap Some c.in-Some-replace.is-replace)
