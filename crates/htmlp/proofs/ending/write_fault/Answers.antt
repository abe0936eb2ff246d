use Rattle.htmlp.proofs.Names.{◌≡◌, List, ℕ, [], ◌∷◌, ◌++◌, Option, None, Some, Ok, ap, ap₂, option_map, refl, subst, sym, IfSome, WritesAll-stops, WritesAll-then, WritesAll-nil, explained, ending_line, message_text}
use Rattle.htmlp.proofs.ending.write_fault.Goals as goal

told : (line : Option (List ℕ)) (text : List ℕ) {its more : Option (List ℕ)} (P : List ℕ → Type 0) → IfSome line (λ l. text ≡ l) → its ≡ more
    → P ((text ++ 10 ∷ []) ++ ending_line its) → IfSome (option_map (λ l. (l ++ 10 ∷ []) ++ ending_line more) line) P
told None text P is same h = tt
told (Some line) text P is same h = subst P (ap₂ (λ l m. (l ++ 10 ∷ []) ++ ending_line m) is same) h

pub returns-in_err-write_line : goal.returns-in_err-write_line
returns-in_err-write_line g c = let more = ending_line (explained c.args.explains c.args.fault.now) in
    told _ _ _ c.line.ensures refl (WritesAll-stops _ _ _ _ (message_text c.line.result ++ 10 ∷ []) more _ c.in_err-write_line.field-0.0 c.from_residual.result
    refl c.from_residual.ensures.1 c.in_err-write_line.ensures)

pub returns-in-Some : goal.returns-in-Some
returns-in-Some g c = let first = message_text c.line.result ++ 10 ∷ [] in
    told _ _ _ c.line.ensures c.explanation.ensures (WritesAll-then _ _ _ _ _ _ first (message_text c.in-Some.line ++ 10 ∷ []) _ c.write_line-in-Some.result
    (ap (λ e. first ++ ending_line (option_map message_text e)) (sym c.in-Some.is)) c.in_ok-write_line.ensures c.write_line-in-Some.ensures)

pub returns-in-None : goal.returns-in-None
returns-in-None g c = let first = message_text c.line.result ++ 10 ∷ [] in
    told _ _ _ c.line.ensures c.explanation.ensures (WritesAll-then _ _ _ _ _ _ first [] _ (Ok tt)
    (ap (λ e. first ++ ending_line (option_map message_text e)) (sym c.in-None.is)) c.in_ok-write_line.ensures (WritesAll-nil _ _))
