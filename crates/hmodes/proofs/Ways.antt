-- What a program does where its question is answered.
use Rattle.hmodes.proofs.Vocabulary.{◌≡◌, ℕ, Bool, true, false, if◌then◌else◌, ap, numbers, Token, State, Done, Do, Test, when, perform, answer_of}

module _ (at : ℕ) (t : Token ℕ) (q : Test) (p : Do) (s : State ℕ) where
  pub when-so : answer_of numbers t q s ≡ true → perform numbers at t (when q p) s ≡ perform numbers at t p s
  when-so is = ap (λ (b : Bool). if b then perform numbers at t p s else Done s) is

  pub when-not : answer_of numbers t q s ≡ false → perform numbers at t (when q p) s ≡ Done s
  when-not is = ap (λ (b : Bool). if b then perform numbers at t p s else Done s) is
