-- The tokens that a run shows stand for some.
use Rattle.hparse.proofs.Names.{◌≡◌, List, ℕ, Ok, subst, Entities, Policy, Tok, TokenRun, ShowsRun, TokensMean, ran_out, refuses, accepts}

pub stand_for : (table : Entities) (how : Policy) (bytes : List ℕ) (run : TokenRun) → ShowsRun table how bytes (Ok run)
    → (tokens : List Tok) × TokensMean run.names run.tokens.items tokens
stand_for table how bytes run (ran_out e) = absurd cc
stand_for table how bytes run (refuses refusal e answers) = absurd cc
stand_for table how bytes run (accepts other tokens e mean answers) = let same : other ≡ run = cc in
    (tokens, subst (λ (r : TokenRun). TokensMean r.names r.tokens.items tokens) same mean)
