use Rattle.names.proofs.Vocabulary.{◌-◌, ap, length, map, sym, ◌∙◌, string_bytes, None, Some, option_map, slice_get, Texts, known, keys}
use Rattle.names.proofs.TableLemmas.{key_at, other_at, slice_get-within}
use Rattle.names.proofs.table.Names.nth.Goals as goal

pub returns-then-index-lt-KNOWN-clause-text : goal.returns-then-index-lt-KNOWN-clause-text
returns-then-index-lt-KNOWN-clause-text c =
    c.known_text.ensures ∙ sym (slice_get-within known (map string_bytes (keys c.self.inside.others)) c.args.index c.if-index-lt-KNOWN.true)
    ∙ ap (λ (names : Texts). slice_get names c.args.index) c.self.view_is

pub returns-in_err-text-clause-text : goal.returns-in_err-text-clause-text
returns-in_err-text-clause-text c = ap (option_map (λ t. t.now)) c.from_residual.ensures ∙ sym (other_at (keys c.self.inside.others) c.args.self.now
    c.args.index None c.self.view_is c.if-index-lt-KNOWN.false (key_at c.self.inside.others (c.args.index - length known) None c.in_err-text.ensures.entry))

pub returns-clause-text : goal.returns-clause-text
returns-clause-text c = ap Some c.as_str.ensures.value
    ∙ sym (other_at (keys c.self.inside.others) c.args.self.now c.args.index (Some c.in_ok-text.text.now) c.self.view_is c.if-index-lt-KNOWN.false
    (key_at c.self.inside.others (c.args.index - length known) (Some (c.in_ok-text.text.now, c.in_ok-text.field-0-1.now)) c.in_ok-text.ensures.entry))
