-- The words, the number and the end.
use Rattle.htmlp.proofs.Names.{◌≡◌, ◌∙◌, List, ℕ, [], ◌∷◌, ◌++◌, Option, ap, codes, concat, option_map, refl, sym, Bor, WritesAll-stops, WritesAll-then, number_text}
use Rattle.std.proofs.Common.{append_assoc}
use Rattle.htmlp.proofs.AllParts.{all_parts}
use Rattle.htmlp.proofs.ending.write_line.Goals as goal

abbrev number : Option (Bor (List ℕ) × ℕ) → List ℕ
number n = number_text (option_map (λ p. (p.0.now, p.1)) n)

abbrev end : List ℕ
end = 10 ∷ []

-- what comes after the words
after_words : (words : List ℕ) {n its : Option (Bor (List ℕ) × ℕ)} {rest : List ℕ} → its ≡ n → rest ≡ number n ++ end
    → words ++ rest ≡ (words ++ number its) ++ end
after_words words {its = its} same is = ap (λ l. words ++ l) (is ∙ ap (λ m. number m ++ end) (sym same)) ∙ sym (append_assoc words (number its) end)

in_parts : (word digits : List ℕ) → concat (codes " " ∷ word ∷ codes " " ∷ digits ∷ end ∷ []) ≡ ((codes " " ++ word) ++ (codes " " ++ digits)) ++ end
in_parts word digits = ap (λ l. 32 ∷ l) (sym (append_assoc word (32 ∷ digits) end))

pub returns-in_err-write_parts : goal.returns-in_err-write_parts
returns-in_err-write_parts g c =
    WritesAll-stops _ _ _ _ (all_parts c.args.line.words) (number c.args.line.number ++ end) _ c.in_err-write_parts.field-0.0 c.from_residual.result
    (sym (append_assoc (all_parts c.args.line.words) (number c.args.line.number) end)) c.from_residual.ensures.1 c.in_err-write_parts.ensures

pub returns-in-Some : goal.returns-in-Some
returns-in-Some g c = WritesAll-then _ _ _ _ _ _ (all_parts c.args.line.words) _ _ c.write_parts-in-Some.result (after_words _ c.in-Some.is
    (in_parts c.in-Some.word.now c.format.result.now ∙ ap (λ d. ((codes " " ++ c.in-Some.word.now) ++ (codes " " ++ d)) ++ end) c.format.ensures.text))
    c.in_ok-write_parts.ensures c.write_parts-in-Some.ensures

pub returns-in-None : goal.returns-in-None
returns-in-None g c = WritesAll-then _ _ _ _ _ _ (all_parts c.args.line.words) end _ c.write_parts-in-None.result (after_words _ c.in-None.is refl)
    c.in_ok-write_parts.ensures c.write_parts-in-None.ensures
