use Rattle.htoken.proofs.Names.{◌≡◌, ◌++◌, ◌∙◌, ℕ, List, sym, ap, subst, append_assoc, append-nil, encode_utf8}
use Rattle.std.specs.Prelude.{OnOk}
use Rattle.htoken.proofs.gathered_text.GatheredText.push_two.Goals as goal

pub returns-clause-text : goal.returns-clause-text
returns-clause-text c = let first = encode_utf8 c.args.first in let second = encode_utf8 c.args.second in
    subst (λ (bytes : List ℕ). OnOk c.push-2.result (c.push-2.new.self ≡ bytes)) (ap (λ (bytes : List ℕ). bytes ++ second) c.in_ok-push.ensures.text
    ∙ append_assoc c.args.self.now first second ∙ ap (λ (bytes : List ℕ). c.args.self.now ++ (first ++ bytes)) (sym (append-nil second))) c.push-2.ensures.text
