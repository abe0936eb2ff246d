use Rattle.hnodes.proofs.Names.{◌≡◌, ◌∷◌, [], List, ℕ, ap, sym, ◌∙◌, subst, append-nil, encode_utf8, OnOk, chars, add_chars, chars-nil, chars_past_char}
use Rattle.hnodes.proofs.tree.Tree.put_char.Goals as goal

pub returns-clause-ok : goal.returns-clause-ok
returns-clause-ok c = let bytes : List ℕ = c.encode_utf8.result.now in
    let alone : chars bytes ≡ c.args.c ∷ [] = chars_past_char bytes [] c.args.c c.encode_utf8.utf8
    (c.encode_utf8.ensures.value ∙ sym (append-nil (encode_utf8 c.args.c))) ∙ ap (λ (cs : List ℕ). c.args.c ∷ cs) chars-nil in
    subst (λ (cs : List ℕ). OnOk c.put_text.result (c.put_text.new.self ≡ add_chars cs c.args.place c.args.self.now)) alone c.put_text.ensures.ok
