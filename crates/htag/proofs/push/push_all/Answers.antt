use Rattle.htag.proofs.Vocabulary.{◌≡◌, ◌<◌, ◌+◌, ℕ, List, [], ◌∷◌, ◌++◌, length, take, get_or, sym, ap, ◌∙◌, append_assoc, append-nil, arith, encode_utf8_all, encode_utf8, string_bytes, encodes-append, add-one, take-suc}
use Rattle.htag.proofs.push.push_all.Goals as goal

pub loop-character-preserved : goal.loop-character-preserved
loop-character-preserved c = let xs : List ℕ = c.args.characters.now in let i : ℕ = c.loop-character.character-index in let x : ℕ = c.character-item.result in
    let front : List ℕ = string_bytes c.args.text.now in
    let within : i < length xs = omega arith in
    let first : take (i + 1) xs ≡ take i xs ++ get_or xs i x ∷ [] = rw add-one (take-suc xs i x within) in
    let more : take (i + 1) xs ≡ take i xs ++ x ∷ [] = first ∙ ap (λ (y : ℕ). take i xs ++ y ∷ []) (sym c.character-item.is) in
    c.in_ok-push.ensures.bytes ∙ ap (λ (y : List ℕ). y ++ encode_utf8 x) c.loop-character.invariant
    ∙ append_assoc front (encode_utf8_all (take i xs)) (encode_utf8 x) ∙ ap (λ (y : List ℕ). front ++ y) (ap (λ (y : List ℕ). encode_utf8_all (take i xs) ++ y)
    (sym (append-nil (encode_utf8 x))) ∙ sym (encodes-append (take i xs) (x ∷ [])) ∙ ap encode_utf8_all (sym more))
