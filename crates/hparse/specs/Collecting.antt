-- What handing over an error or a token does to what has been collected; it is refused only if memory ran out.
use Rattle.std.specs.Prelude.{◌≡◌, [], ◌∷◌, ◌++◌, Result, MatchResult}
use Rattle.std.specs.List.Sorted.{IsPermutation, IsSorted}
use Rattle.names.specs.Names.{Texts}
use Rattle.names.specs.declared.error.ParseError.{ParseError}
use Rattle.names.specs.declared.refusal.Refusal.{Refusal}
use Rattle.names.specs.declared.refusal.Refusal.TheVariants.{Memory}
use Rattle.htoken.specs.Token.{Handed, token_in}
use Rattle.hparse.specs.declared.collect.Collected.{Collected}
use Rattle.hparse.specs.declared.token_run.TokenRun.{TokenRun}
use Rattle.hparse.specs.Answer.{error_cmp}

abbrev pub KeepsError : Collected → ParseError → Result (Unit {0}) Refusal → Collected → Type 0
KeepsError old error answer new = MatchResult answer (λ _. (new.tokens.items ≡ old.tokens.items) × (new.errors.items ≡ old.errors.items ++ error ∷ []))
    (λ e. e ≡ Memory)

abbrev pub KeepsToken : Collected → Handed → Result (Unit {0}) Refusal → Collected → Type 0
KeepsToken old handed answer new = MatchResult answer
    (λ _. (new.tokens.items ≡ old.tokens.items ++ token_in handed ∷ []) × (new.errors.items ≡ old.errors.items)) (λ e. e ≡ Memory)

-- what was collected, with the errors in order
pub record IsRunOf (names : Texts) (collected : Collected) (run : TokenRun) : Type 0 where
  pub names_are : run.names ≡ names
  pub tokens_are : run.tokens.items ≡ collected.tokens.items
  pub errors_are : IsPermutation collected.errors.items run.errors.items
  pub sorted : IsSorted error_cmp run.errors.items
